use Rattle.std.proofs.Common.{arith, rules, length-drop}
use Rattle.std.proofs.lemmas.List.{take_rest}
use Rattle.mg_io.proofs.Known.{Appends-front}
use Rattle.mg_io.proofs.whole.write_all.Goals as goal

pub loop-written-preserved : goal.loop-written-preserved
loop-written-preserved g c = record {
  in_range = omega (arith, rw take_rest at c.in-Ok.ensures.count.1, length-drop c.loop-written.written c.args.bytes.now);
  front = Appends-front _ _ _ c.args.bytes.now c.loop-written.written c.in-Ok.count c.loop-written.invariant.front (rw take_rest at c.in-Ok.ensures.bytes);
  quiet = search rules;
}
