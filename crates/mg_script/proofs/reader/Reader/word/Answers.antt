use Rattle.std.proofs.lemmas.List.{take_rest}
use Rattle.mg_script.specs.Reader.{kind_of}
use Rattle.mg_script.proofs.Steps.{is_not, is_so, unexpected, no_word}
use Rattle.mg_script.proofs.Taken.{word_over, word_wrong, read_some}
use Rattle.mg_script.proofs.reader.Reader.word.Goals as goal

pub returns-then-not-begins_word-clause-brings : goal.returns-then-not-begins_word-clause-brings
returns-then-not-begins_word-clause-brings c = λ s left f r is_left is_word knows.
    let kind = kind_of c.args.role in
    rw c.fault.ensures (unexpected s r c.args.self.now knows
    (no_word s r c.args.self.now knows kind left f is_word (is_not c.begins_word.result c.if-not-begins_word.true c.begins_word.ensures.next)))

pub returns-then-is_full-clause-brings : goal.returns-then-is_full-clause-brings
returns-then-is_full-clause-brings c = λ s left f r is_left is_word knows.
    let begins = is_so c.begins_word.result c.if-not-begins_word.false c.begins_word.ensures.next in
    let full = is_so c.is_full.result c.if-is_full.true c.is_full.ensures in
    rw c.fault-then-is_full.ensures (word_over s c.args.role left f r c.args.self.now is_left is_word knows begins (rw c.counted.ensures at full))

pub take_word-requires-clause-faultless : goal.take_word-requires-clause-faultless
take_word-requires-clause-faultless c =
    rw take_rest at c.in-Ok.ensures.faultless

pub take_word-requires-clause-some : goal.take_word-requires-clause-some
take_word-requires-clause-some c = read_some _ c.in-Ok.word c.in-Ok.ensures.word

pub returns-in-Err-clause-brings : goal.returns-in-Err-clause-brings
returns-in-Err-clause-brings c = λ s left f r is_left is_word knows.
    let begins = is_so c.begins_word.result c.if-not-begins_word.false c.begins_word.ensures.next in
    let room = is_not c.is_full.result c.if-is_full.false c.is_full.ensures in
    rw c.word_fault.ensures (word_wrong s (kind_of c.args.role) left f r c.args.self.now is_word knows begins (rw c.counted.ensures at room) c.in-Err.fault.place c.in-Err.fault.cause
    (rw take_rest at c.in-Err.ensures.refused))
