use Rattle.std.proofs.Common.{sym, subst, arith}
use Rattle.mg_numbers.specs.Residues.{ResidueTuple}
use Rattle.mg_cyclic.specs.Kept.{Keep, IsRenewed}
use Rattle.mg_cyclic.proofs.Raises.{changed_more, keep_renewed}
use Rattle.mg_cyclic.proofs.kept.renew_all.Goals as goal

pub loop-row-preserved : goal.loop-row-preserved
loop-row-preserved c =
    changed_more (IsRenewed c.args.modulus) c.loop-row.row-index c.args.rows.now c.loop-row.rows _ c.renew.new.self (omega (arith, c.loop-row-test.true, c.loop-row.invariant.count)) c.renew.ensures c.loop-row.invariant

pub returns : goal.returns
returns c = λ words s t generators few zeros is keep.
    subst (λ (u : ResidueTuple). Keep words u c.loop-row.rows) (sym is)
    (keep_renewed c.args.modulus generators words s c.args.rows.now c.loop-row.rows c.loop-row.row-index few zeros (omega (arith, c.loop-row-test.false, c.loop-row.invariant.count)) c.loop-row.invariant keep)
