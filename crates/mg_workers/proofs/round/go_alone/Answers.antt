use Rattle.mg_workers.proofs.Rounds.{alone_in, alone_lost, alone_lost_later, alone_next, alone_then, any_err}
use Rattle.mg_workers.proofs.round.go_alone.Goals as goal

pub take_whole_turns-requires-clause-fit : goal.take_whole_turns-requires-clause-fit
take_whole_turns-requires-clause-fit g c =
    let seat = c.args.seat.now in
    let log = c.args.book.now in
    (alone_next _ _ _ g.met.S.Searcher.sound seat log seat c.take_turn.new.seat log c.take_turn.new.book c.in_ok-units.ensures.event (alone_in _ _ _ seat log c.requires.fit)).fit

pub returns-in_ok-take_whole_turns-clause-runs : goal.returns-in_ok-take_whole_turns-clause-runs
returns-in_ok-take_whole_turns-clause-runs g c =
    let seat = c.args.seat.now in
    let log = c.args.book.now in
    let one = alone_next _ _ _ g.met.S.Searcher.sound seat log seat c.take_turn.new.seat log c.take_turn.new.book c.in_ok-units.ensures.event (alone_in _ _ _ seat log c.requires.fit) in
    (alone_then _ _ _ seat log c.take_turn.new.seat c.take_whole_turns.new.seat c.take_turn.new.book c.take_whole_turns.new.book c.in_ok-take_whole_turns.ensures.runs c.in_ok-take_whole_turns.ensures.fit one).runs

pub returns-in_default-clause-runs : goal.returns-in_default-clause-runs
returns-in_default-clause-runs g c =
    let seat = c.args.seat.now in
    let log = c.args.book.now in
    (alone_next _ _ _ g.met.S.Searcher.sound seat log seat c.take_turn.new.seat log c.take_turn.new.book c.in_ok-units.ensures.event (alone_in _ _ _ seat log c.requires.fit)).runs

pub returns-in_default-clause-fit : goal.returns-in_default-clause-fit
returns-in_default-clause-fit g c =
    let seat = c.args.seat.now in
    let log = c.args.book.now in
    (alone_next _ _ _ g.met.S.Searcher.sound seat log seat c.take_turn.new.seat log c.take_turn.new.book c.in_ok-units.ensures.event (alone_in _ _ _ seat log c.requires.fit)).fit

pub returns-in_err-units-clause-memory : goal.returns-in_err-units-clause-memory
returns-in_err-units-clause-memory g c =
    let seat = c.args.seat.now in
    let log = c.args.book.now in
    any_err _ (alone_lost _ _ _ seat log seat log c.take_turn.new.book c.in_err-units.ensures.memory (alone_in _ _ _ seat log c.requires.fit)) _

pub returns-in_err-take_whole_turns-clause-memory : goal.returns-in_err-take_whole_turns-clause-memory
returns-in_err-take_whole_turns-clause-memory g c =
    let seat = c.args.seat.now in
    let log = c.args.book.now in
    let one = alone_next _ _ _ g.met.S.Searcher.sound seat log seat c.take_turn.new.seat log c.take_turn.new.book c.in_ok-units.ensures.event (alone_in _ _ _ seat log c.requires.fit) in
    any_err _ (alone_lost_later _ _ _ seat log c.take_turn.new.seat c.take_turn.new.book c.take_whole_turns.new.book c.in_err-take_whole_turns.ensures.memory one) _
