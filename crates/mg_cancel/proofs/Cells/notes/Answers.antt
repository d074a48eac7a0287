use Rattle.std.proofs.Common.{rules, ◌≡◌, ◌<◌, ◌≤◌, get_or, length}
use Rattle.once_cell.specs.Once.{cell_name}
use Rattle.mg_cancel.proofs.Lists.{one_noted, all_noted}
use Rattle.mg_cancel.proofs.Cells.notes.Goals as goal

pub loop-cell-preserved : goal.loop-cell-preserved
loop-cell-preserved g c =
    let cells = c.self.inside.cells.items in
    let i = c.loop-cell.cell-index in
    let here : i < length cells = search rules in
    let at : c.cell-item.result ≡ get_or cells i c.cell-item.result = search rules in
    one_noted cell_name cells c.args.self.now i c.cell-item.result c.loop-cell.notes.items c.push.new.self.items c.note.result c.self.view_is here at c.loop-cell.invariant c.in_ok-push.ensures.items c.note.ensures.0 c.note.ensures.1

pub returns-clause-of_these : goal.returns-clause-of_these
returns-clause-of_these g c =
    let cells = c.self.inside.cells.items in
    let all : length cells ≤ c.loop-cell.cell-index = search rules in
    all_noted cell_name cells c.args.self.now c.loop-cell.cell-index c.loop-cell.notes.items c.self.view_is all c.loop-cell.invariant
