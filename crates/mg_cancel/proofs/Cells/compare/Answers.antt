use Rattle.std.proofs.Common.{◌≡◌, ◌∙◌, ap, sym, subst₂, IfSome}
use Rattle.once_cell.specs.Once.{Agrees}
use Rattle.once_cell.specs.declared.race.note.Note.{Note}
use Rattle.mg_cancel.specs.Notes.{cells_of, known_at}
use Rattle.mg_cancel.proofs.Lists.{cells_are, of_within, same_cell, known_there}
use Rattle.mg_cancel.proofs.Cells.compare.Goals as goal

pub compare-requires : goal.compare-requires
compare-requires g c =
    let mine = c.one.inside.notes.items in
    let theirs = c.other.inside.notes.items in
    let cell : Note g.row.R.Denot → _ = λ n. n.cell in
    let of = ap cells_of c.other.view_is ∙ (c.requires.other ∙ (sym c.requires.one ∙ (ap cells_of (sym c.one.view_is) ∙ cells_are mine))) in
    let inside = of_within mine c.args.self.now c.args.i (ap cells_of c.one.view_is ∙ c.requires.one) c.requires.there in
    ap cell c.again-note.ensures.1 ∙ same_cell cell theirs mine of c.args.i c.index_mut.result.now c.index_mut-2.result.now inside c.index_mut.ensures.value c.index_mut-2.ensures.value

pub returns-clause-agree : goal.returns-clause-agree
returns-clause-agree g c =
    let mine = c.one.inside.notes.items in
    let theirs = c.other.inside.notes.items in
    let i = c.args.i in
    let inside = of_within mine c.args.self.now i (ap cells_of c.one.view_is ∙ c.requires.one) c.requires.there in
    let inside' = of_within theirs c.args.self.now i (ap cells_of c.other.view_is ∙ c.requires.other) c.requires.there in
    let his : c.again-note.result.known ≡ known_at c.args.other.now i = ap (λ n. n.known) c.again-note.ensures.1 ∙ (sym (known_there theirs i c.index_mut.result.now inside' c.index_mut.ensures.value) ∙ ap (λ n. known_at n i) c.other.view_is) in
    let own : c.index_mut-2.result.now.known ≡ known_at c.args.one.now i = sym (known_there mine i c.index_mut-2.result.now inside c.index_mut-2.ensures.value) ∙ ap (λ n. known_at n i) c.one.view_is in
    subst₂ (λ a b. IfSome a (Agrees b)) his own c.compare.ensures.1
