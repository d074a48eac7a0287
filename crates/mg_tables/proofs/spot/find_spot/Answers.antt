use Rattle.std.proofs.Common.{arith}
use Rattle.mg_tables.proofs.Spotting.{spot_here, no_spot}
use Rattle.mg_tables.proofs.spot.find_spot.Goals as goal

pub returns-in-Some : goal.returns-in-Some
returns-in-Some c =
    spot_here c.args.table.now.generators c.args.table.now.places c.loop-row.row c.in-Some.letter c.generators.ensures.gapped c.loop-row.invariant c.in-Some.ensures.0 c.in-Some.ensures.1 c.in-Some.ensures.2 c.in-Some.ensures.3

pub returns : goal.returns
returns c =
    no_spot c.args.table.now.generators c.args.table.now.places c.loop-row.row c.loop-row.invariant (omega (arith, c.loop-row-test.false, c.places-row-end.ensures.value))
