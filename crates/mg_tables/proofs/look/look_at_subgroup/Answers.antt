use Rattle.std.proofs.Common.{◌≡◌, Some, sym, subst, arith}
use Rattle.std.specs.Prelude.{slice_get}
use Rattle.std.proofs.lemmas.Option.{slice_get_within}
use Rattle.mg_words.specs.Word.{IsOver}
use Rattle.mg_tables.proofs.Looking.{found_member, member_over}
use Rattle.mg_tables.proofs.look.look_at_subgroup.Goals as goal

pub returns-in-Some-clause-found : goal.returns-in-Some-clause-found
returns-in-Some-clause-found c group same =
    found_member group c.args.subgroup.now c.args.table.now.places c.loop-place.place c.letters.result.now c.in-Some.found
    (subst (λ w. slice_get c.args.subgroup.now c.loop-place.place ≡ Some w) (sym c.letters.ensures) c.at.ensures)
    (subst (λ m. IsOver m c.letters.result.now) (sym same) (subst (IsOver c.args.table.now.generators) (sym c.letters.ensures) (member_over c.args.table.now.generators c.args.subgroup.now c.loop-place.place c.at.result.now.letters c.requires.over c.at.ensures)))
    c.in-Some.ensures.found

pub returns-clause-quiet : goal.returns-clause-quiet
returns-clause-quiet c none k w e =
    c.loop-place.invariant k w (omega (arith, slice_get_within c.args.subgroup.now k w e, c.loop-place-test.false, c.len-place-end.ensures)) e
