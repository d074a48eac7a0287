use Rattle.mg_tables.proofs.Scanning.{ways_close, ways_meet, ways_leave_one, ways_end}
use Rattle.mg_tables.proofs.table.CosetTable.scan.Goals as goal

pub returns-then-behind-ahead-2 : goal.returns-then-behind-ahead-2
returns-then-behind-ahead-2 c = ways_close c.args.self.now.generators c.args.self.now.places c.generators.ensures.table c.args.row c.args.word.now c.requires.over c.ahead-ahead.result.place c.ahead-ahead.result.row c.ahead-ahead.ensures c.behind-behind.result.place c.behind-behind.result.row c.behind-behind.ensures c.if-behind-ahead.true c.if-behind-ahead-2.true

pub returns-then-behind-ahead : goal.returns-then-behind-ahead
returns-then-behind-ahead c = ways_meet c.args.self.now.generators c.args.self.now.places c.generators.ensures.table c.args.row c.args.word.now c.requires.over c.ahead-ahead.result.place c.ahead-ahead.result.row c.ahead-ahead.ensures c.behind-behind.result.place c.behind-behind.result.row c.behind-behind.ensures c.if-behind-ahead.true c.if-behind-ahead-2.false

pub returns-then-behind-ahead-3 : goal.returns-then-behind-ahead-3
returns-then-behind-ahead-3 c = ways_leave_one c.args.self.now.generators c.args.self.now.places c.generators.ensures.table c.args.row c.args.word.now c.requires.over c.ahead-ahead.result.place c.ahead-ahead.result.row c.ahead-ahead.ensures c.behind-behind.result.place c.behind-behind.result.row c.behind-behind.ensures c.if-behind-ahead-3.true

pub returns : goal.returns
returns c = ways_end c.args.self.now.generators c.args.self.now.places c.generators.ensures.table c.args.row c.args.word.now c.requires.over c.ahead-ahead.result.place c.ahead-ahead.result.row c.ahead-ahead.ensures c.behind-behind.result.place c.behind-behind.result.row c.behind-behind.ensures c.if-behind-ahead.false c.if-behind-ahead-3.false
