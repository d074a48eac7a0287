use Rattle.std.proofs.Common.{get_or, set}
use Rattle.mg_workers.proofs.Rounds.{comes_of_one, on_err, on_ok, one_member, runs_of_one}
use Rattle.mg_workers.proofs.round.go_first.Goals as goal

pub returns-in-len1-clause-runs : goal.returns-in-len1-clause-runs
returns-in-len1-clause-runs g c =
    let seats = c.args.seats.now in
    let seat = get_or seats 0 c.index-seats-0.result in
    let after = c.go_alone.new.seat in
    let one = one_member seats c.index-seats-0.result after c.in-len1.len_at_least c.in-len1.len_below in
    on_ok _ _ (runs_of_one _ _ _ seats (set seats 0 after) seat after c.args.book.now c.go_alone.new.book one.0 one.1) c.go_alone.result c.go_alone.ensures.runs

pub returns-in-len1-clause-memory : goal.returns-in-len1-clause-memory
returns-in-len1-clause-memory g c =
    let seats = c.args.seats.now in
    let seat = get_or seats 0 c.index-seats-0.result in
    let one = one_member seats c.index-seats-0.result c.go_alone.new.seat c.in-len1.len_at_least c.in-len1.len_below in
    on_err _ _ (comes_of_one _ _ _ seats seat c.args.book.now c.go_alone.new.book one.0) c.go_alone.result c.go_alone.ensures.memory
