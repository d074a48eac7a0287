use Rattle.std.proofs.Common.{arith, refl}
use Rattle.std.proofs.lemmas.Result.{err_from_is_err_and}
use Rattle.mg_script.specs.Grammar.{more, item_then}
use Rattle.mg_script.specs.Lists.{item_of}
use Rattle.mg_script.proofs.Steps.{is_not, is_so, passed_on}
use Rattle.mg_script.proofs.Listing.{list_begins, list_empty, more_either}
use Rattle.mg_script.proofs.reader.Reader.list.Goals as goal

pub returns-then-not-begins : goal.returns-then-not-begins
returns-then-not-begins c = λ s r knows.
    let item = item_of c.args.member in
    list_empty s item r c.args.self.now knows (is_not c.begins.result c.if-not-begins.true (c.begins.ensures (more item r)))

pub returns-in_err-member : goal.returns-in_err-member
returns-in_err-member c = λ s r knows.
    let item = item_of c.args.member in
    passed_on s r c.member.new.self c.from_residual.result c.in_err-member.field-0.0 (err_from_is_err_and c.from_residual.result c.from_residual.ensures.1)
    (c.in_err-member.ensures.brings s (more item r)
    (list_begins s item r c.args.self.now knows (is_so c.begins.result c.if-not-begins.false (c.begins.ensures (more item r)))))

pub loop-member-init : goal.loop-member-init
loop-member-init c = λ s r knows.
    let item = item_of c.args.member in
    c.in_ok-member.ensures.brings s (more item r)
    (list_begins s item r c.args.self.now knows (is_so c.begins.result c.if-not-begins.false (c.begins.ensures (more item r))))

pub loop-member-smaller : goal.loop-member-smaller
loop-member-smaller c =
    let shorter = c.loop-member-test.ensures.forward refl in
    let kept = c.in_ok-member-2.ensures.forward in
    omega (arith, shorter, kept)

pub loop-member-preserved : goal.loop-member-preserved
loop-member-preserved c = λ s r knows.
    let item = item_of c.args.member in
    let next = c.loop-member-test.ensures.chooses s (item_then item (more item r)) r (more_either s item r c.loop-member.self (c.loop-member.invariant s r knows)) in
    c.in_ok-member-2.ensures.brings s (more item r) next

pub returns-in_err-member-2 : goal.returns-in_err-member-2
returns-in_err-member-2 c = λ s r knows.
    let item = item_of c.args.member in
    let next = c.loop-member-test.ensures.chooses s (item_then item (more item r)) r (more_either s item r c.loop-member.self (c.loop-member.invariant s r knows)) in
    passed_on s r c.member-in-loop-member.new.self c.from_residual-in_err-member-2.result c.in_err-member-2.field-0.0
    (err_from_is_err_and c.from_residual-in_err-member-2.result c.from_residual-in_err-member-2.ensures.1) (c.in_err-member-2.ensures.brings s (more item r) next)

pub returns : goal.returns
returns c = λ s r knows.
    let item = item_of c.args.member in
    c.loop-member-test.ensures.chooses s (item_then item (more item r)) r (more_either s item r c.loop-member.self (c.loop-member.invariant s r knows))
