use Rattle.std.proofs.lemmas.Result.{err_from_is_err_and}
use Rattle.mg_script.specs.Reader.{Start}
use Rattle.mg_script.proofs.read.read_statement.Goals as goal

pub returns-in_err-statement-clause-refused : goal.returns-in_err-statement-clause-refused
returns-in_err-statement-clause-refused c =
    let start : Start = record { lexemes = c.args.lexemes.now; counts = c.args.counts } in
    let p = err_from_is_err_and c.from_residual.result c.from_residual.ensures.1 in
    rw (p.1, p.2) (c.in_err-statement.ensures start c.new-reader.ensures)

pub returns-in_err-end-clause-refused : goal.returns-in_err-end-clause-refused
returns-in_err-end-clause-refused c =
    let start : Start = record { lexemes = c.args.lexemes.now; counts = c.args.counts } in
    let p = err_from_is_err_and c.from_residual-in_err-end.result c.from_residual-in_err-end.ensures.1 in
    rw (p.1, p.2) (c.in_err-end.ensures start (c.in_ok-statement.ensures start c.new-reader.ensures))

pub returns-clause-statement : goal.returns-clause-statement
returns-clause-statement c =
    let start : Start = record { lexemes = c.args.lexemes.now; counts = c.args.counts } in
    let read = c.in_ok-end.ensures start (c.in_ok-statement.ensures start c.new-reader.ensures) in
    (read.statement, read.lexemes, read.adds, read.bounded)

pub returns-clause-within : goal.returns-clause-within
returns-clause-within c =
    let start : Start = record { lexemes = c.args.lexemes.now; counts = c.args.counts } in
    (c.in_ok-end.ensures start (c.in_ok-statement.ensures start c.new-reader.ensures)).within

pub returns-clause-faultless : goal.returns-clause-faultless
returns-clause-faultless c =
    let start : Start = record { lexemes = c.args.lexemes.now; counts = c.args.counts } in
    (c.in_ok-end.ensures start (c.in_ok-statement.ensures start c.new-reader.ensures)).faultless
