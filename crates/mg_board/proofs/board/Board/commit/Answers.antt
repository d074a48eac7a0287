use Rattle.std.proofs.Common.{◌≡◌, ◌∙◌, ap, sym, subst, subst₂, refl, [], ◌∷◌, ◌++◌, None}
use Rattle.mg_core.specs.declared.entries.Entry.{Entry as EntryOf}
use Rattle.mg_core.specs.Book.{Commits}
use Rattle.mg_board.specs.History.{Reaches}
use Rattle.mg_board.specs.Passes.{pass_of, stamp_of, PassState, CommitsAt, SeesMore}
use Rattle.mg_board.specs.Seats.{state_of}
use Rattle.mg_board.proofs.Commits.{commit_appends, stamp_pass, goes_on, if_ok_map}
use Rattle.mg_board.proofs.board.Board.commit.Goals as goal

pub returns-clause-ok : goal.returns-clause-ok
returns-clause-ok g c =
    let v = c.pass.inside.seat.me.0 in
    let now : PassState (EntryOf g.row.R.Denot) = state_of c.release.new.seat.table_id c.release.new.seat.me.0 in
    let t = c.take_turn.ensures.turn in
    if_ok_map _ (λ receipt. CommitsAt g.R.Record.recording.settles c.args.key.now c.args.entry c.args.pass.now now receipt) (λ receipt w.
    let held : t.0 ≡ w.0 = (let a = ap (λ m. m.0.hand) t.2 in let b = w.2.hand in cc (a, b)) in
    let last : now.seen ≡ w.1 = ap (λ m. m.0.seen) c.release.ensures.turn ∙ ap (λ m. m.0.seen) w.4 in
    record {
      log = t.0;
      reached = subst (λ p. Reaches pass_of p.numbers p.seen t.0) c.pass.view_is t.1;
      answered = subst₂ (λ old new. Commits g.R.Record.recording.settles c.args.key.now old c.args.entry new receipt.committed) (sym held) (sym last) w.3;
    })
    c.commit_in_turn-receipt.result c.commit_in_turn-receipt.ensures.ok

pub returns-clause-more : goal.returns-clause-more
returns-clause-more g c =
    let seat = c.pass.inside.seat in
    let v = seat.me.0 in
    let old : PassState (EntryOf g.row.R.Denot) = state_of seat.table_id v in
    let now : PassState (EntryOf g.row.R.Denot) = state_of c.release.new.seat.table_id c.release.new.seat.me.0 in
    let t = c.take_turn.ensures.turn in
    if_ok_map _ (λ receipt. SeesMore pass_of c.args.pass.now now (stamp_of c.args.entry receipt.committed ∷ [])) (λ receipt w.
    let held : t.0 ≡ w.0 = (let a = ap (λ m. m.0.hand) t.2 in let b = w.2.hand in cc (a, b)) in
    let last : c.release.new.seat.me.0 ≡ record v { seen = w.1; told_of = []; hand = None } =
    ap (λ m. m.0) c.release.ensures.turn ∙ (ap (λ m. record (m.0) { hand = None }) w.4 ∙ ap (λ m. record (m.0) { seen = w.1; told_of = []; hand = None }) t.2) in
    let table : c.release.new.seat.table_id ≡ seat.table_id = c.release.ensures.table ∙ (c.commit_in_turn-receipt.ensures.table ∙ c.take_turn.ensures.table) in
    let new : PassState (EntryOf g.row.R.Denot) = record old { seen = w.1 } in
    let is : now ≡ new = λ i. state_of (table i) (last i) in
    let more = commit_appends _ _ _ _ _ receipt.committed w.3 in
    let number = stamp_pass c.args.entry receipt.committed ∙ (c.requires.number ∙ ap (λ p. p.number) (sym c.pass.view_is)) in
    let goes = goes_on pass_of old new t.0 (stamp_of c.args.entry receipt.committed) refl t.1 (subst (λ l. w.1 ≡ l ++ stamp_of c.args.entry receipt.committed ∷ []) (sym held) more) number c.pass.invariant.live in
    subst (λ p. SeesMore pass_of p now (stamp_of c.args.entry receipt.committed ∷ [])) c.pass.view_is (subst (λ p. SeesMore pass_of old p (stamp_of c.args.entry receipt.committed ∷ [])) (sym is) goes))
    c.commit_in_turn-receipt.result c.commit_in_turn-receipt.ensures.ok
