use Rattle.mg_script.specs.Grammar.{sign_then}
use Rattle.mg_script.specs.Reader.{class_of}
use Rattle.mg_script.proofs.Steps.{is_not, is_so, unexpected, not_next, sign_refused, sign_taken}
use Rattle.mg_script.proofs.reader.Reader.sign.Goals as goal

pub returns-then-not-is_next-clause-brings : goal.returns-then-not-is_next-clause-brings
returns-then-not-is_next-clause-brings c = λ s r knows.
    let sign = c.args.sign in
    let rest = sign_then sign.counted (class_of sign.expected) r in
    rw c.fault.ensures (unexpected s rest c.args.self.now knows
    (not_next s rest c.args.self.now knows sign.counted (class_of sign.expected) r (is_not c.is_next.result c.if-not-is_next.true c.is_next.ensures.next)))

pub returns-then-is_full-clause-brings : goal.returns-then-is_full-clause-brings
returns-then-is_full-clause-brings c = λ s r knows.
    let sign = c.args.sign in
    rw c.fault-then-is_full.ensures (sign_refused s sign.counted (class_of sign.expected) r c.args.self.now knows
    (is_so c.is_next.result c.if-not-is_next.false c.is_next.ensures.next) (is_so c.is_full.result c.if-is_full.true c.is_full.ensures))

pub returns-clause-brings : goal.returns-clause-brings
returns-clause-brings c = λ s r knows.
    let sign = c.args.sign in
    sign_taken s sign.counted (class_of sign.expected) r c.args.self.now c.with-self.result knows
    (is_so c.is_next.result c.if-not-is_next.false c.is_next.ensures.next) (is_not c.is_full.result c.if-is_full.false c.is_full.ensures)
    c.with-self.ensures.counted c.with-self.ensures.letters
