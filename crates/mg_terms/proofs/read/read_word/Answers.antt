use Rattle.std.proofs.lemmas.Result.{err_from_is_err_and}
use Rattle.mg_terms.proofs.Reached.{stopped_word, stopped_refuses}
use Rattle.mg_terms.proofs.read.read_word.Goals as goal

pub returns-in_err-letters-clause-refused : goal.returns-in_err-letters-clause-refused
returns-in_err-letters-clause-refused c =
    let p = err_from_is_err_and c.from_residual-in_err-letters.result c.from_residual-in_err-letters.ensures.1 in
    let has = c.in_ok-count.ensures.stopped in
    rw (p.1, p.2) (stopped_refuses c.args.lexemes.now c.in_ok-count.count c.read.new.self c.in_err-letters.field-0.0 has (c.in_err-letters.ensures has.seen has.keeps has.ready))

pub returns-clause-word : goal.returns-clause-word
returns-clause-word c =
    let has = c.in_ok-count.ensures.stopped in
    (stopped_word c.args.lexemes.now c.in_ok-count.count c.in_ok-letters.letters c.read.new.self has (c.in_ok-letters.ensures has.seen has.keeps has.ready)).0

pub returns-clause-faultless : goal.returns-clause-faultless
returns-clause-faultless c =
    let has = c.in_ok-count.ensures.stopped in
    (stopped_word c.args.lexemes.now c.in_ok-count.count c.in_ok-letters.letters c.read.new.self has (c.in_ok-letters.ensures has.seen has.keeps has.ready)).1

pub returns-clause-within : goal.returns-clause-within
returns-clause-within c =
    let has = c.in_ok-count.ensures.stopped in
    (stopped_word c.args.lexemes.now c.in_ok-count.count c.in_ok-letters.letters c.read.new.self has (c.in_ok-letters.ensures has.seen has.keeps has.ready)).2
