use Rattle.std.proofs.Common.{ap, Some}
use Rattle.mg_tables.proofs.Looking.{ahead_reaches}
use Rattle.mg_tables.proofs.look.after.Goals as goal

pub returns-then-way-word-clause-reaches : goal.returns-then-way-word-clause-reaches
returns-then-way-word-clause-reaches c r s e =
    ap Some (ahead_reaches c.args.table.now.generators c.args.table.now.places c.generators.ensures.table c.args.row c.args.word.now c.requires.over c.ahead-way.result.place c.ahead-way.result.row c.ahead-way.ensures r s e).1

pub returns-else-way-word-clause-reaches : goal.returns-else-way-word-clause-reaches
returns-else-way-word-clause-reaches c r s e =
    absurd (c.if-way-word.false (ahead_reaches c.args.table.now.generators c.args.table.now.places c.generators.ensures.table c.args.row c.args.word.now c.requires.over c.ahead-way.result.place c.ahead-way.result.row c.ahead-way.ensures r s e).0)
