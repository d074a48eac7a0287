use Rattle.std.proofs.Common.{ap, ◌∙◌, arith, ℕ, ◌≡◌, ◌-◌, Some, None, Option}
use Rattle.std.specs.Option.{option_map}
use Rattle.mg_tables.specs.Cells.{cell}
use Rattle.mg_tables.specs.Gaps.{number}
use Rattle.mg_tables.proofs.Kept.{read_inside, read_makes, cell_some}
use Rattle.mg_tables.proofs.table.CosetTable.entry.Goals as goal

pub index-cell-requires : goal.index-cell-requires
index-cell-requires c =
    let inside = read_inside c.self.inside.generators c.self.inside.places c.args.place c.index.result c.column_of.result c.args.letter c.self.inside.entries.items c.args.self.now c.self.view_is c.self.invariant c.requires.place c.requires.letter c.column_of.ensures.column c.index.ensures in
    omega (arith, inside, c.self.inside.entries.ok.0)

pub returns-then-cell-eq0-clause-table : goal.returns-then-cell-eq0-clause-table
returns-then-cell-eq0-clause-table c =
    let made = read_makes c.self.inside.generators c.self.inside.places c.args.place c.index.result c.column_of.result c.index-cell.result.now c.args.letter c.self.inside.entries.items c.args.self.now c.self.view_is c.self.invariant c.requires.place c.requires.letter c.column_of.ensures.column c.index.ensures c.index-cell.ensures in
    let value : cell c.index-cell.result.now ≡ None = ap cell c.if-cell-eq0.true in
    made.table ∙ ap (λ (o : Option ℕ). option_map (number c.args.self.now.places) o) value

pub returns-then-cell-eq0-clause-cell : goal.returns-then-cell-eq0-clause-cell
returns-then-cell-eq0-clause-cell c =
    let made = read_makes c.self.inside.generators c.self.inside.places c.args.place c.index.result c.column_of.result c.index-cell.result.now c.args.letter c.self.inside.entries.items c.args.self.now c.self.view_is c.self.invariant c.requires.place c.requires.letter c.column_of.ensures.column c.index.ensures c.index-cell.ensures in
    let value : cell c.index-cell.result.now ≡ None = ap cell c.if-cell-eq0.true in
    made.told ∙ value

pub returns-else-cell-eq0-clause-table : goal.returns-else-cell-eq0-clause-table
returns-else-cell-eq0-clause-table c =
    let made = read_makes c.self.inside.generators c.self.inside.places c.args.place c.index.result c.column_of.result c.index-cell.result.now c.args.letter c.self.inside.entries.items c.args.self.now c.self.view_is c.self.invariant c.requires.place c.requires.letter c.column_of.ensures.column c.index.ensures c.index-cell.ensures in
    let value : cell c.index-cell.result.now ≡ Some (c.index-cell.result.now - 1) = cell_some c.index-cell.result.now c.if-cell-eq0.false in
    made.table ∙ ap (λ (o : Option ℕ). option_map (number c.args.self.now.places) o) value

pub returns-else-cell-eq0-clause-cell : goal.returns-else-cell-eq0-clause-cell
returns-else-cell-eq0-clause-cell c =
    let made = read_makes c.self.inside.generators c.self.inside.places c.args.place c.index.result c.column_of.result c.index-cell.result.now c.args.letter c.self.inside.entries.items c.args.self.now c.self.view_is c.self.invariant c.requires.place c.requires.letter c.column_of.ensures.column c.index.ensures c.index-cell.ensures in
    let value : cell c.index-cell.result.now ≡ Some (c.index-cell.result.now - 1) = cell_some c.index-cell.result.now c.if-cell-eq0.false in
    made.told ∙ value

pub returns-else-cell-eq0-clause-stands : goal.returns-else-cell-eq0-clause-stands
returns-else-cell-eq0-clause-stands c =
    let made = read_makes c.self.inside.generators c.self.inside.places c.args.place c.index.result c.column_of.result c.index-cell.result.now c.args.letter c.self.inside.entries.items c.args.self.now c.self.view_is c.self.invariant c.requires.place c.requires.letter c.column_of.ensures.column c.index.ensures c.index-cell.ensures in
    let value : cell c.index-cell.result.now ≡ Some (c.index-cell.result.now - 1) = cell_some c.index-cell.result.now c.if-cell-eq0.false in
    made.stands (c.index-cell.result.now - 1) value
