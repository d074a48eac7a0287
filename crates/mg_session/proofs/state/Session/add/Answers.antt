use Rattle.std.proofs.Common.{◌≡◌, ◌++◌, [], ◌∷◌, ap, ◌∙◌, arith, refl, sym}
use Rattle.mg_session.proofs.Seen.{count, fresh, added, still_cells}
use Rattle.mg_session.proofs.state.Session.add.Goals as goal

pub add_cell-requires : goal.add_cell-requires
add_cell-requires c =
    let same = count c.args.self.now c.self.inside.ledger c.self.inside.searches.items c.self.inside.book c.self.view_is c.self.invariant _ refl in
    let each = c.self.invariant.each in omega arith

pub invariant_of-self-2 : goal.invariant_of-self-2
invariant_of-self-2 c =
    let items : c.reserve.new.self.items ≡ c.self.inside.searches.items = c.in_ok-reserve.ensures.items in
    still_cells c.args.self.now c.self.inside.ledger c.self.inside.searches.items c.self.inside.book c.self.view_is c.self.invariant c.add_cell.new.self (fresh c.args.question c.args.search) c.push.new.self.items (c.in-Ok.ensures.items ∙ ap (λ v. v ++ fresh c.args.question c.args.search ∷ []) items) c.in_ok-place.ensures.step c.requires

pub returns-clause-added : goal.returns-clause-added
returns-clause-added c =
    let items : c.reserve.new.self.items ≡ c.self.inside.searches.items = c.in_ok-reserve.ensures.items in
    added c.args.self.now c.self.inside.ledger c.self.inside.searches.items c.self.inside.book c.self.view_is c.self.invariant c.add_cell.new.self c.args.question c.args.search c.push.new.self.items (c.in-Ok.ensures.items ∙ ap (λ v. v ++ fresh c.args.question c.args.search ∷ []) items) c.in_ok-place.ensures.step

pub returns-clause-place : goal.returns-clause-place
returns-clause-place c =
    let same = count c.args.self.now c.self.inside.ledger c.self.inside.searches.items c.self.inside.book c.self.view_is c.self.invariant _ refl in
    let each = c.self.invariant.each in c.in_ok-place.ensures.number ∙ sym each ∙ same
