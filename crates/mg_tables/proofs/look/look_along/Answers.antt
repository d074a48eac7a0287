use Rattle.std.proofs.Common.{subst, arith, refl, inl, inr}
use Rattle.std.proofs.lemmas.Bool.{cases_lt}
use Rattle.mg_tables.specs.Looking.{IsQuietAt}
use Rattle.mg_tables.proofs.Looking.{quiet_at_all}
use Rattle.mg_tables.proofs.look.look_along.Goals as goal

pub loop-place-preserved : goal.loop-place-preserved
loop-place-preserved c j h =
    elim (cases_lt j c.loop-place.place) [
      | inl below ↦ c.loop-place.invariant j below
      | inr past ↦ subst (IsQuietAt c.args.table.now.places c.args.row c.args.word.now) (omega (arith, h, past)) (c.in_default.ensures.quiet refl)
    ]

pub returns-clause-quiet : goal.returns-clause-quiet
returns-clause-quiet c none =
    quiet_at_all c.args.table.now.places c.args.row c.args.word.now (λ j h. c.loop-place.invariant j (omega (arith, h, c.loop-place-test.false))) (c.look_at-2.ensures.quiet none)
