use Rattle.std.proofs.Common.{ℕ, sym, subst, arith}
use Rattle.mg_cyclic.specs.Kept.{IsRaised}
use Rattle.mg_cyclic.proofs.Raises.{ChangedUpTo, changed_more, keep_raised}
use Rattle.mg_cyclic.proofs.kept.raise_all.Goals as goal

pub loop-row-preserved : goal.loop-row-preserved
loop-row-preserved c =
    changed_more (IsRaised c.args.modulus c.args.place) c.loop-row.row-index c.args.rows.now c.loop-row.rows _ c.raise.new.self (omega (arith, c.loop-row-test.true, c.loop-row.invariant.count)) c.raise.ensures c.loop-row.invariant

pub returns : goal.returns
returns c = λ words s t modulus few turn keep.
    keep_raised c.args.place words s t c.args.rows.now c.loop-row.rows c.loop-row.row-index few turn (omega (arith, c.loop-row-test.false, c.loop-row.invariant.count))
    (subst (λ (n : ℕ). ChangedUpTo (IsRaised n c.args.place) c.loop-row.row-index c.args.rows.now c.loop-row.rows) (sym modulus) c.loop-row.invariant) keep
