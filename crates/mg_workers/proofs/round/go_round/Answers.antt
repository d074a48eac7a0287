use Rattle.std.proofs.Common.{◌≡◌, ◌<◌, List, ◌++◌, length, map, take, drop, refl, ap, sym, ◌∙◌, subst}
use Rattle.mg_workers.specs.declared.seat.Seat.{Seat}
use Rattle.mg_workers.specs.Seats.{row_at, turns_ahead}
use Rattle.mg_workers.proofs.Rounds.{any_err, came_nowhere, if_ok, seats_back, seats_fit, went_in, went_last, went_lost, went_round, went_out}
use Rattle.mg_workers.proofs.round.go_round.Goals as goal

pub go_first-requires-clause-fit : goal.go_first-requires-clause-fit
go_first-requires-clause-fit g c = seats_fit _ c.args.searches c.in_ok-seats.seats.items c.deref_mut.result.now c.requires.fit c.in_ok-seats.ensures c.deref_mut.ensures.value

pub loop-seats-init : goal.loop-seats-init
loop-seats-init g c =
    let items = c.in_ok-seats.seats.items in
    let after = c.go_first.new.seats in
    let back = seats_back items c.deref_mut.result.now after c.in_ok-seats.seats.len c.deref_mut.ensures.value c.deref_mut.ensures.len c.in_ok-go_first.ensures.cells in
    went_round _ _ _ c.args.searches c.args.book.now items c.deref_mut.result.now c.args.book.now after (take c.in_ok-seats.seats.len (after ++ drop (length after) items)) c.go_first.new.book
    (went_in _ _ _ c.args.searches c.args.book.now items c.requires.fit c.in_ok-seats.ensures) c.deref_mut.ensures.value back c.in_ok-go_first.ensures.runs c.in_ok-go_first.ensures.fit c.in_ok-go_first.ensures.cells

pub loop-seats-smaller : goal.loop-seats-smaller
loop-seats-smaller g c =
    let items = c.loop-seats.seats.items in
    let after = c.go_once.new.seats in
    let back = seats_back items c.deref_mut-in-loop-seats.result.now after c.loop-seats.seats.len c.deref_mut-in-loop-seats.ensures.value c.deref_mut-in-loop-seats.ensures.len c.in_ok-go_once.ensures.cells in
    subst (λ (members : List (Seat g.row.S.Denot)). turns_ahead (map row_at members) < turns_ahead (map row_at items)) (sym back)
    (subst (λ (members : List (Seat g.row.S.Denot)). turns_ahead (map row_at after) < turns_ahead (map row_at members)) c.deref_mut-in-loop-seats.ensures.value (c.in_ok-go_once.ensures.some c.if-branch.true))

pub loop-seats-preserved : goal.loop-seats-preserved
loop-seats-preserved g c =
    let items = c.loop-seats.seats.items in
    let after = c.go_once.new.seats in
    let back = seats_back items c.deref_mut-in-loop-seats.result.now after c.loop-seats.seats.len c.deref_mut-in-loop-seats.ensures.value c.deref_mut-in-loop-seats.ensures.len c.in_ok-go_once.ensures.cells in
    went_round _ _ _ c.args.searches c.args.book.now items c.deref_mut-in-loop-seats.result.now c.loop-seats.book after (take c.loop-seats.seats.len (after ++ drop (length after) items)) c.go_once.new.book
    c.loop-seats.invariant c.deref_mut-in-loop-seats.ensures.value back c.in_ok-go_once.ensures.runs c.in_ok-go_once.ensures.fit c.in_ok-go_once.ensures.cells

pub returns-clause-ok : goal.returns-clause-ok
returns-clause-ok g c =
    let items = c.loop-seats.seats.items in
    let after = c.go_once.new.seats in
    let back = seats_back items c.deref_mut-in-loop-seats.result.now after c.loop-seats.seats.len c.deref_mut-in-loop-seats.ensures.value c.deref_mut-in-loop-seats.ensures.len c.in_ok-go_once.ensures.cells in
    let went = went_round _ _ _ c.args.searches c.args.book.now items c.deref_mut-in-loop-seats.result.now c.loop-seats.book after after c.go_once.new.book c.loop-seats.invariant c.deref_mut-in-loop-seats.ensures.value refl c.in_ok-go_once.ensures.runs c.in_ok-go_once.ensures.fit c.in_ok-go_once.ensures.cells in
    if_ok (λ searches. searches ≡ map (λ (seat : Seat g.row.S.Denot). seat.held) (take c.loop-seats.seats.len (after ++ drop (length after) items))) _
    (λ searches searches_are. went_out _ _ _ c.args.searches c.args.book.now after c.go_once.new.book searches went (c.in_ok-go_once.ensures.none c.if-branch.false) (searches_are ∙ ap (map (λ (seat : Seat g.row.S.Denot). seat.held)) back))
    c.searches_of.result c.searches_of.ensures

pub returns-clause-memory : goal.returns-clause-memory
returns-clause-memory g c =
    let items = c.loop-seats.seats.items in
    let after = c.go_once.new.seats in
    let went = went_round _ _ _ c.args.searches c.args.book.now items c.deref_mut-in-loop-seats.result.now c.loop-seats.book after after c.go_once.new.book c.loop-seats.invariant c.deref_mut-in-loop-seats.ensures.value refl c.in_ok-go_once.ensures.runs c.in_ok-go_once.ensures.fit c.in_ok-go_once.ensures.cells in
    any_err _ (went_last _ _ _ c.args.searches c.args.book.now after c.go_once.new.book c.go_once.new.book refl went) c.searches_of.result

pub returns-in_err-seats-clause-memory : goal.returns-in_err-seats-clause-memory
returns-in_err-seats-clause-memory g c =
    any_err _
    (came_nowhere g.R.Record.recording
    g.S.Searcher.searching
    (g.P.Sizes.is_size c.args.policy.now)
    c.args.searches c.args.book.now)
    _

pub returns-in_err-go_first-clause-memory : goal.returns-in_err-go_first-clause-memory
returns-in_err-go_first-clause-memory g c =
    let items = c.in_ok-seats.seats.items in
    any_err _ (went_lost _ _ _ c.args.searches c.args.book.now items c.deref_mut.result.now c.args.book.now c.go_first.new.book (went_in _ _ _ c.args.searches c.args.book.now items c.requires.fit c.in_ok-seats.ensures) c.deref_mut.ensures.value
    c.in_err-go_first.ensures.memory) _

pub returns-in_err-go_once-clause-memory : goal.returns-in_err-go_once-clause-memory
returns-in_err-go_once-clause-memory g c =
    any_err _ (went_lost _ _ _ c.args.searches c.args.book.now c.loop-seats.seats.items c.deref_mut-in-loop-seats.result.now c.loop-seats.book c.go_once.new.book c.loop-seats.invariant c.deref_mut-in-loop-seats.ensures.value c.in_err-go_once.ensures.memory) _
