use Rattle.std.proofs.Common.{length, sym, subst, ◌∙◌, arith}
use Rattle.mg_numbers.specs.Perms.{IsPerm}
use Rattle.mg_action.proofs.NextRanks.{perm_moved, placed_first}
use Rattle.mg_action.proofs.NextTuples.{behind_all}
use Rattle.mg_action.proofs.nexts.put_next.Goals as goal

pub returns-clause-perm : goal.returns-clause-perm
returns-clause-perm c =
    let d = length c.args.perm.now in
    perm_moved d c.loop-place.perm c.sort_unstable.new.self c.sort_unstable.ensures.permutation (subst (IsPerm d) (sym c.loop-place.invariant.same) c.requires.perm)

pub returns-clause-none : goal.returns-clause-none
returns-clause-none c = λ _ n at.
    let d = length c.args.perm.now in
    c.loop-place.invariant.behind_all n at ∙ behind_all d c.loop-place.place n c.args.perm.now (omega (arith, c.loop-place-test.false)) at

pub returns-clause-first : goal.returns-clause-first
returns-clause-first c = λ _. placed_first (length c.args.perm.now) c.sort_unstable.new.self (returns-clause-perm c) c.sort_unstable.ensures.sorted
