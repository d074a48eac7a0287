use Rattle.std.proofs.Common.{length}
use Rattle.mg_rules.proofs.Orders.{way_next, pair_nearer}
use Rattle.mg_rules.proofs.listing.next_overlap.Goals as goal

pub loop-next-smaller : goal.loop-next-smaller
loop-next-smaller c = pair_nearer (length c.pairs-count.result.now) c.loop-next.i c.loop-next.j c.in_ok-i.field-0-0 c.in_ok-i.field-0-1 c.in_ok-i.ensures.some

pub loop-next-preserved : goal.loop-next-preserved
loop-next-preserved c = record {
  way = way_next c.args.rules.now c.args.from.now (length c.pairs-count.result.now) c.loop-next.i c.loop-next.j c.in_ok-i.field-0-0 c.in_ok-i.field-0-1 c.loop-next.last
      c.loop-next.invariant.way c.in_default.ensures.none c.in_ok-i.ensures.some;
  count = c.loop-next.invariant.count;
}
