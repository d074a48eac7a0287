use Rattle.std.proofs.Common.{◌<◌, ◌+◌, arith}
use Rattle.mg_tables.proofs.Steps.{mark_made, small_place}
use Rattle.mg_tables.specs.declared.table.TheConstants.{GONE}
use Rattle.mg_tables.proofs.join.mark.Goals as goal

pub overflow_add-entries : goal.overflow_add-entries
overflow_add-entries c =
    let small : c.args.go + 1 < GONE = small_place c.args.generators c.args.places c.args.entries.now c.requires.kept c.args.go c.requires.go in
    omega (arith, small, c.requires.keep)

pub bounds-entries-index : goal.bounds-entries-index
bounds-entries-index c =
    (mark_made c.args.generators c.args.places c.args.entries.now c.requires.kept c.args.keep c.args.go c.index.result c.requires.go c.requires.keep c.requires.bare c.index.ensures).2

pub returns-clause-makes : goal.returns-clause-makes
returns-clause-makes c =
    (mark_made c.args.generators c.args.places c.args.entries.now c.requires.kept c.args.keep c.args.go c.index.result c.requires.go c.requires.keep c.requires.bare c.index.ensures).0

pub returns-clause-went : goal.returns-clause-went
returns-clause-went c =
    (mark_made c.args.generators c.args.places c.args.entries.now c.requires.kept c.args.keep c.args.go c.index.result c.requires.go c.requires.keep c.requires.bare c.index.ensures).1
