use Rattle.std.proofs.Common.{◌+◌, ◌∙◌, suc, set, get_or, true, arith}
use Rattle.mg_workers.proofs.Rounds.{at_place, set_itself, fit_at, over_unless, goes_by, goes_lost, goes_on_by, goes_as, any_err}
use Rattle.mg_workers.proofs.round.go_once.Goals as goal
use Rattle.mg_workers.proofs.round.go_once.Goals.{then-goes_on+in_ok-take_turn, else-goes_on}

pub take_turn-requires-clause-fit : goal.take_turn-requires-clause-fit
take_turn-requires-clause-fit g c =
    let seats = c.loop-seat.seats in
    let place = c.loop-seat.seat-index in
    fit_at _ seats place (get_or seats place c.seat-item.result) (at_place seats place c.seat-item.result (omega arith)) c.loop-seat.invariant.fit

pub loop-seat-preserved : goal.loop-seat-preserved
loop-seat-preserved g c =
    let seats = c.loop-seat.seats in
    let place = c.loop-seat.seat-index in
    let seat = get_or seats place c.seat-item.result in
    let here = at_place seats place c.seat-item.result (omega arith) in
    elim c.if-goes_on.branch [
      | then-goes_on+in_ok-take_turn w ↦
          goes_as _ _ _ c.args.seats.now c.args.book.now (set seats place w.take_turn.new.seat) c.if-goes_on.seats w.take_turn.new.book c.if-goes_on.book true c.if-goes_on.some (suc place) (place + 1) w.seats-is w.book-is w.some-is (omega arith)
          (goes_on_by _ _ _ g.met.S.Searcher.sound c.args.seats.now c.args.book.now seats c.loop-seat.book w.take_turn.new.book c.loop-seat.some place seat w.take_turn.new.seat here w.in_ok-take_turn.ensures.event w.in_ok-take_turn.ensures.cell c.loop-seat.invariant)
      | else-goes_on w ↦
          goes_as _ _ _ c.args.seats.now c.args.book.now seats c.if-goes_on.seats c.loop-seat.book c.if-goes_on.book c.loop-seat.some c.if-goes_on.some (suc place) (place + 1) (w.seats-is ∙ set_itself seats place c.seat-item.result) w.book-is w.some-is (omega arith)
          (goes_by _ _ _ c.args.seats.now c.args.book.now seats c.loop-seat.book c.loop-seat.some place seat here (over_unless seat.left c.goes_on.result seat.held.allowed c.goes_on.ensures w.if-goes_on.false) c.loop-seat.invariant)
    ]

pub returns-in_err-take_turn-clause-memory : goal.returns-in_err-take_turn-clause-memory
returns-in_err-take_turn-clause-memory g c =
    any_err _ (goes_lost _ _ _ c.args.seats.now c.args.book.now c.loop-seat.seats c.loop-seat.book c.loop-seat.some c.loop-seat.seat-index c.take_turn.new.book c.in_err-take_turn.ensures.memory c.loop-seat.invariant) _
