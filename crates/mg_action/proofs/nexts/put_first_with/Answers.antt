use Rattle.std.proofs.Common.{length, sym, subst}
use Rattle.mg_numbers.specs.Perms.{IsPerm}
use Rattle.mg_action.proofs.NextRanks.{perm_moved, placed_first}
use Rattle.mg_action.proofs.nexts.put_first_with.Goals as goal

pub put_inverse-requires-clause-perm : goal.put_inverse-requires-clause-perm
put_inverse-requires-clause-perm c =
    subst (λ d. IsPerm d c.sort_unstable.new.self) (sym c.sort_unstable.ensures.len) (perm_moved (length c.args.list.now) c.args.list.now c.sort_unstable.new.self c.sort_unstable.ensures.permutation c.requires.list)

pub returns-clause-first : goal.returns-clause-first
returns-clause-first c =
    placed_first (length c.args.list.now) c.sort_unstable.new.self (perm_moved (length c.args.list.now) c.args.list.now c.sort_unstable.new.self c.sort_unstable.ensures.permutation c.requires.list) c.sort_unstable.ensures.sorted
