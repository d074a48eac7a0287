use Rattle.std.proofs.Common.{ap, Some}
use Rattle.mg_tables.proofs.Looking.{behind_reaches}
use Rattle.mg_tables.proofs.look.before.Goals as goal

pub returns-then-way-eq0-clause-reaches : goal.returns-then-way-eq0-clause-reaches
returns-then-way-eq0-clause-reaches c r s e =
    ap Some (behind_reaches c.args.table.now.generators c.args.table.now.places c.generators.ensures.table c.args.row c.args.word.now c.requires.over c.behind-way.result.place c.behind-way.result.row c.behind-way.ensures r s e).1

pub returns-else-way-eq0-clause-reaches : goal.returns-else-way-eq0-clause-reaches
returns-else-way-eq0-clause-reaches c r s e =
    absurd (c.if-way-eq0.false (behind_reaches c.args.table.now.generators c.args.table.now.places c.generators.ensures.table c.args.row c.args.word.now c.requires.over c.behind-way.result.place c.behind-way.result.row c.behind-way.ensures r s e).0)
