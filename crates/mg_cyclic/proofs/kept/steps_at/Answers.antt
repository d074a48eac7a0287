use Rattle.std.proofs.Common.{ℕ, get_or, ◌∙◌, arith}
use Rattle.std.proofs.lemmas.List.{length-set}
use Rattle.mg_cyclic.specs.Exponents.{brought}
use Rattle.mg_cyclic.proofs.Raises.{filled_more}
use Rattle.mg_cyclic.proofs.kept.steps_at.Goals as goal

pub loop-place-preserved : goal.loop-place-preserved
loop-place-preserved c =
    let i = c.loop-place.invariant in
    let f : ℕ → ℕ = λ k. brought c.args.modulus (get_or c.args.tally.now.plus k 0) (get_or c.args.tally.now.minus k 0) in
    record {
      count = length-set c.loop-place.steps c.loop-place.place c.brought.result ∙ i.count;
      filled = filled_more f c.loop-place.place c.brought.result c.loop-place.steps (omega (arith, c.loop-place-test.true, i.count)) c.brought.ensures i.filled;
    }
