use Rattle.std.proofs.Common.{◌≡◌, ◌∙◌, ap, sym, subst, refl, [], None}
use Rattle.mg_core.specs.Log.{Handed}
use Rattle.std.specs.Prelude.{IfOk}
use Rattle.mg_core.specs.declared.entries.Entry.{Entry as EntryOf}
use Rattle.mg_board.specs.Passes.{pass_of, PassState, SeesMore}
use Rattle.mg_board.specs.Seats.{HasTurn, state_of}
use Rattle.mg_board.proofs.Commits.{goes_still}
use Rattle.mg_board.proofs.board.Board.facts_since.Goals as goal

pub returns-clause-more : goal.returns-clause-more
returns-clause-more g c =
    let t = c.take_turn.ensures.turn in
    let turn : HasTurn c.take_turn.new.seat.me t.0 = record { hand = ap (λ m. m.0.hand) t.2; slot = ap (λ m. m.1) t.2 } in
    let saw = c.look.ensures.seen t.0 turn in
    let seat = c.pass.inside.seat in
    let old : PassState (EntryOf g.row.R.Denot) = state_of seat.table_id seat.me.0 in
    let now : PassState (EntryOf g.row.R.Denot) = state_of c.release.new.seat.table_id c.release.new.seat.me.0 in
    let last : c.release.new.seat.me.0 ≡ record (seat.me.0) { seen = t.0; hand = None } =
    ap (λ m. m.0) c.release.ensures.turn ∙ (ap (λ m. record (m.0) { hand = None }) (c.models-facts.ensures.same ∙ saw) ∙ ap (λ m. record (m.0) { seen = t.0; hand = None }) t.2) in
    let table : c.release.new.seat.table_id ≡ seat.table_id = c.release.ensures.table ∙ (c.models-facts.ensures.table ∙ (c.look.ensures.table ∙ c.take_turn.ensures.table)) in
    let new : PassState (EntryOf g.row.R.Denot) = record old { seen = t.0 } in
    let is : now ≡ new = λ i. state_of (table i) (last i) in
    let goes = goes_still pass_of old new refl t.1 c.pass.invariant.live in
    subst (λ p. SeesMore pass_of p now []) c.pass.view_is (subst (λ p. SeesMore pass_of old p []) (sym is) goes)

pub returns-clause-ok : goal.returns-clause-ok
returns-clause-ok g c =
    let t = c.take_turn.ensures.turn in
    let turn : HasTurn c.take_turn.new.seat.me t.0 = record { hand = ap (λ m. m.0.hand) t.2; slot = ap (λ m. m.1) t.2 } in
    let saw = c.look.ensures.seen t.0 turn in
    let still : HasTurn c.look.new.seat.me t.0 = record { hand = ap (λ m. m.0.hand) saw ∙ turn.hand; slot = ap (λ m. m.1) saw ∙ turn.slot } in
    let seen : c.release.new.seat.me.0.seen ≡ t.0 = ap (λ m. m.0.seen) c.release.ensures.turn ∙ (ap (λ m. m.0.seen) c.models-facts.ensures.same ∙ ap (λ m. m.0.seen) saw) in
    subst (λ l. IfOk c.models-facts.result (Handed g.R.Record.recording.model_of l c.args.group.now c.args.after c.args.most)) (sym seen) (c.models-facts.ensures.ok t.0 still)
