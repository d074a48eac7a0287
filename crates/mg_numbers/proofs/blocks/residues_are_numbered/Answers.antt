use Rattle.mg_numbers.proofs.ResiduesLaws.{residue_tuple_at, one_residue_tuple, residue_tuple_number, one_residue_number, residue_tuples_in_order, residue_tuple_of_block}
use Rattle.mg_numbers.proofs.blocks.residues_are_numbered.Goals as goal

pub returns : goal.returns
returns c =
    record {
      each_number = residue_tuple_at;
      one_tuple = one_residue_tuple;
      each_tuple = residue_tuple_number;
      one_number = one_residue_number;
      in_order = residue_tuples_in_order;
      by_division = residue_tuple_of_block;
    }
