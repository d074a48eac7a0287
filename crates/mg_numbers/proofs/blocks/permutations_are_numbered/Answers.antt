use Rattle.mg_numbers.proofs.PermsLaws.{perm_tuple_at, one_perm_tuple, perm_tuple_number, one_perm_number, perm_tuples_in_order, perm_tuple_of_block}
use Rattle.mg_numbers.proofs.blocks.permutations_are_numbered.Goals as goal

pub returns : goal.returns
returns c =
    record {
      each_number = perm_tuple_at;
      one_tuple = one_perm_tuple;
      each_tuple = perm_tuple_number;
      one_number = one_perm_number;
      in_order = perm_tuples_in_order;
      by_division = perm_tuple_of_block;
    }
