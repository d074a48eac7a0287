use Rattle.std.proofs.Common.{arith}
use Rattle.mg_complete.proofs.Vanishing.{same_on, count_on, system_on}
use Rattle.mg_complete.proofs.Affirming.{next_erased, long_erased}
use Rattle.mg_complete.proofs.work.Work.erasing.Goals as goal

pub returns-then-more-moves-clause-erases : goal.returns-then-more-moves-clause-erases
returns-then-more-moves-clause-erases c =
    let inv = c.loop-place.invariant in
    long_erased c.args.self.now c.loop-place.self c.loop-place.lists c.loop-place.place c.len-count.result c.loop-place.moves c.in_ok-list.list c.requires.vanish
    inv.same inv.count (grind (arith, c.loop-place-test.true)) inv.moves inv.erased c.in_ok-list.ensures.erases (grind (arith, c.if-more-moves.true, c.as_slice.ensures))

pub loop-place-preserved : goal.loop-place-preserved
loop-place-preserved c =
    let inv = c.loop-place.invariant in
    let h = c.in_ok-list.ensures.same in
    let more = next_erased c.args.self.now c.loop-place.self c.loop-place.lists c.push.new.self c.loop-place.place c.len-count.result c.loop-place.moves c.in_ok-list.list
    inv.same inv.count (grind (arith, c.loop-place-test.true)) inv.moves inv.erased c.in_ok-list.ensures.erases (grind (arith, c.if-more-moves.false, c.as_slice.ensures)) c.in_ok-push.ensures.ok in
    record {
      same = same_on c.args.self.now c.loop-place.self c.erase.new.self inv.same h;
      count = count_on c.loop-place.self c.erase.new.self c.len-count.result h inv.count;
      system = system_on c.loop-place.self c.erase.new.self h inv.system;
      moves = grind (arith, more.1, c.as_slice.ensures);
      erased = more.0;
    }
