use Rattle.std.proofs.Common.{◌≡◌, Some, sym, subst, arith, ap, length, ℤ, List}
use Rattle.std.specs.Prelude.{slice_get}
use Rattle.std.proofs.lemmas.Option.{slice_get_within}
use Rattle.mg_words.specs.Word.{IsOver}
use Rattle.mg_tables.proofs.Looking.{found_relator}
use Rattle.mg_tables.proofs.Complete.{relator_over}
use Rattle.mg_tables.proofs.look.look_through.Goals as goal

pub returns-in-Some-clause-found : goal.returns-in-Some-clause-found
returns-in-Some-clause-found c subgroup =
    found_relator c.args.group.now subgroup c.args.table.now.places c.loop-place.place c.in-Some.ensures.found.0 c.letters.result.now c.in-Some.found
    (subst (λ w. slice_get c.args.group.now.relators c.loop-place.place ≡ Some w) (sym c.letters.ensures) c.relator.ensures)
    c.in-Some.ensures.found.1
    (subst (IsOver c.args.group.now.generators) (sym c.letters.ensures) (relator_over c.args.group.now c.relators.ensures.fits c.loop-place.place c.relator.result.now.letters c.relator.ensures))
    c.in-Some.ensures.found.2

pub returns-clause-quiet : goal.returns-clause-quiet
returns-clause-quiet c none k w e =
    let all : length c.relators.result.now ≡ length c.args.group.now.relators = ap (λ (ws : List (List ℤ)). length ws) c.relators.ensures.value in
    c.loop-place.invariant k w (omega (arith, slice_get_within c.args.group.now.relators k w e, c.loop-place-test.false, c.len-place-end.ensures, all)) e
