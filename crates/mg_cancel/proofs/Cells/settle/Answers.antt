use Rattle.std.proofs.Common.{◌≡◌, ◌∙◌, ◌<◌, ap, sym, subst₂, length, arith}
use Rattle.once_cell.specs.Once.{cell_name}
use Rattle.mg_cancel.specs.Notes.{cells_of, known_at, StillKnows}
use Rattle.mg_cancel.proofs.Lists.{cells_set, known_else, known_here, known_there, same_length, same_cell, named_within, still_lent}
use Rattle.mg_cancel.proofs.Cells.settle.Goals as goal

pub get_or_init_as-requires-clause-cell : goal.get_or_init_as-requires-clause-cell
get_or_init_as-requires-clause-cell g c =
    let of = ap cells_of c.notes.view_is ∙ (c.requires.of_these ∙ sym c.self.view_is) in
    same_cell cell_name c.notes.inside.notes.items c.self.inside.cells.items of c.args.i c.index_mut-note.result.now c.index.result.now (named_within cell_name c.self.inside.cells.items c.args.self.now c.args.i c.self.view_is c.requires.there) c.index_mut-note.ensures.value c.index.ensures

pub returns-clause-of_these : goal.returns-clause-of_these
returns-clause-of_these g c =
    cells_set c.notes.inside.notes.items c.args.i c.index_mut-note.result.now c.get_or_init_as.new.note c.index_mut-note.ensures.value c.get_or_init_as.ensures.cell ∙ (ap cells_of c.notes.view_is ∙ c.requires.of_these)

pub returns-clause-others : goal.returns-clause-others
returns-clause-others g c j ne = known_else c.notes.inside.notes.items c.args.i j c.get_or_init_as.new.note ne ∙ ap (λ n. known_at n j) c.notes.view_is

pub returns-clause-value : goal.returns-clause-value
returns-clause-value g c =
    let of = ap cells_of c.notes.view_is ∙ (c.requires.of_these ∙ sym c.self.view_is) in
    let notes = c.notes.inside.notes.items in
    let i = c.args.i in
    let size = same_length cell_name notes c.self.inside.cells.items of in
    let inside = named_within cell_name c.self.inside.cells.items c.args.self.now i c.self.view_is c.requires.there in
    let inside' : i < length notes = omega (arith, size, inside) in
    known_here notes i c.get_or_init_as.new.note inside' ∙ c.get_or_init_as.ensures.value.0

pub returns-clause-still : goal.returns-clause-still
returns-clause-still g c =
    let of = ap cells_of c.notes.view_is ∙ (c.requires.of_these ∙ sym c.self.view_is) in
    let notes = c.notes.inside.notes.items in
    let i = c.args.i in
    let size = same_length cell_name notes c.self.inside.cells.items of in
    let inside = named_within cell_name c.self.inside.cells.items c.args.self.now i c.self.view_is c.requires.there in
    let inside' : i < length notes = omega (arith, size, inside) in
    let before : c.index_mut-note.result.now.known ≡ known_at c.args.notes.now i = sym (known_there notes i c.index_mut-note.result.now inside' c.index_mut-note.ensures.value) ∙ ap (λ n. known_at n i) c.notes.view_is in
    let after = known_here notes i c.get_or_init_as.new.note inside' in
    subst₂ StillKnows before (sym after) (still_lent _ _ c.get_or_init_as.result.now c.get_or_init_as.ensures.value.0 c.get_or_init_as.ensures.value.1)
