use Rattle.std.proofs.Common.{◌∙◌, ap, refl, get_or}
use Rattle.mg_tables.specs.Cells.{cell}
use Rattle.mg_tables.proofs.Kept.{cell_some}
use Rattle.mg_tables.proofs.Steps.{row_inside, row_read}
use Rattle.mg_tables.proofs.join.read.Goals as goal

pub bounds-entries-index : goal.bounds-entries-index
bounds-entries-index c =
    row_inside c.args.generators c.args.places c.args.entries.now c.requires.kept c.args.row c.args.letter c.index.result c.column_of.result c.requires.row c.requires.letter c.column_of.ensures.column c.index.ensures

pub returns-then-number-eq0 : goal.returns-then-number-eq0
returns-then-number-eq0 c =
    row_read c.args.generators c.args.places c.args.entries.now c.requires.kept c.args.row c.args.letter c.index.result c.column_of.result (get_or c.args.entries.now c.index.result 0) c.requires.row c.requires.letter c.column_of.ensures.column c.index.ensures refl
    ∙ ap cell c.if-number-eq0.true

pub returns-else-number-eq0 : goal.returns-else-number-eq0
returns-else-number-eq0 c =
    row_read c.args.generators c.args.places c.args.entries.now c.requires.kept c.args.row c.args.letter c.index.result c.column_of.result (get_or c.args.entries.now c.index.result 0) c.requires.row c.requires.letter c.column_of.ensures.column c.index.ensures refl
    ∙ cell_some (get_or c.args.entries.now c.index.result 0) c.if-number-eq0.false
