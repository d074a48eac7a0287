use Rattle.std.proofs.Common.{◌≡◌, ap, arith}
use Rattle.std.specs.Prelude.{Err}
use Rattle.std.proofs.lemmas.Result.{err_from_is_err_and}
use Rattle.mg_script.specs.declared.parsing.ParseRefused.TheVariants as refusal
use Rattle.mg_script.proofs.LineByLine.{next_within, read_refused}
use Rattle.mg_script.proofs.parsing.parse.Goals as goal

pub take-requires-clause-short : goal.take-requires-clause-short
take-requires-clause-short c =
    let within = next_within c.args.bytes.now c.loop-line.lines c.next.new.self c.in-Some.line.now c.loop-line.parser c.loop-line.invariant c.in-Some.ensures.some in
    omega (arith, within.0, c.requires)

pub take-requires-clause-few : goal.take-requires-clause-few
take-requires-clause-few c =
    let within = next_within c.args.bytes.now c.loop-line.lines c.next.new.self c.in-Some.line.now c.loop-line.parser c.loop-line.invariant c.in-Some.ensures.some in
    omega (arith, within.1, c.requires)

pub returns-in_err-take-clause-refused : goal.returns-in_err-take-clause-refused
returns-in_err-take-clause-refused c = λ r is.
    let p = err_from_is_err_and c.from_residual.result c.from_residual.ensures.1 in
    let raised = p.1 in
    let given = p.2 in
    let error : c.in_err-take.field-0.0 ≡ refusal.Refused r = cc in
    read_refused c.args.bytes.now c.loop-line.lines c.next.new.self c.in-Some.line.now c.loop-line.parser c.loop-line.invariant c.in-Some.ensures.some r
    (c.in_err-take.ensures.refused r (ap Err error))
