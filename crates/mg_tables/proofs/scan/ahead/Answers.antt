use Rattle.mg_tables.proofs.Ways.{led_on, ahead_stuck}
use Rattle.mg_tables.proofs.scan.ahead.Goals as goal

pub returns-in-None : goal.returns-in-None
returns-in-None c = ahead_stuck c.args.table.now.places c.args.row c.args.word.now c.loop-place.place c.loop-place.way c.index-word-place.result c.loop-place.invariant c.loop-place-test.true c.index-word-place.is c.in-None.ensures.table

pub loop-place-preserved : goal.loop-place-preserved
loop-place-preserved c = led_on c.args.table.now.places c.args.row c.args.word.now c.loop-place.place c.loop-place.way c.in-Some.next c.index-word-place.result c.loop-place.invariant c.loop-place-test.true c.index-word-place.is c.in-Some.ensures.table c.in-Some.ensures.stands
