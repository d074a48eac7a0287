use Rattle.std.proofs.Common.{◌≡◌, subst}
use Rattle.mg_lex.specs.declared.refusal.Refused.{Refused}
use Rattle.mg_names.specs.Resolve.{IsRefused}
use Rattle.mg_names.proofs.Led.{line_read, led_sound, led_more, led_refused, led_plan, fault_within}
use Rattle.mg_names.proofs.Plans.{script_within}
use Rattle.mg_names.proofs.resolving.resolve.Goals as goal

pub statement-requires-clause-sound : goal.statement-requires-clause-sound
statement-requires-clause-sound c =
    led_sound c.requires.0 c.args.script c.as_slice-lines.result.now c.requires.2 c.requires.1 c.as_slice-lines.ensures c.loop-line.line-index c.loop-line.resolver c.loop-line.invariant

pub statement-requires-clause-line : goal.statement-requires-clause-line
statement-requires-clause-line c =
    line_read c.requires.0 c.args.script c.as_slice-lines.result.now c.requires.2 c.as_slice-lines.ensures c.loop-line.line-index c.line-item.result c.loop-line-test.true c.line-item.is

pub refusal-requires : goal.refusal-requires
refusal-requires c =
    fault_within c.as_slice-lines.result.now c.loop-line.line-index c.line-item.result c.loop-line.resolver c.statement.new.self c.in_ok-fault.field-0 c.in-Some.fault
    (line_read c.requires.0 c.args.script c.as_slice-lines.result.now c.requires.2 c.as_slice-lines.ensures c.loop-line.line-index c.line-item.result c.loop-line-test.true c.line-item.is)
    c.loop-line.invariant c.in_ok-fault.ensures c.in-Some.is

pub returns-in-Some-clause-refused : goal.returns-in-Some-clause-refused
returns-in-Some-clause-refused c r e =
    let same : c.refusal.result ≡ r = cc in
    subst (λ (x : Refused). IsRefused c.args.script x) same
    (led_refused c.args.script c.as_slice-lines.result.now c.loop-line.line-index c.line-item.result c.loop-line.resolver c.statement.new.self c.in_ok-fault.field-0 c.in-Some.fault c.refusal.result c.as_slice-lines.ensures c.loop-line-test.true c.line-item.is
    (line_read c.requires.0 c.args.script c.as_slice-lines.result.now c.requires.2 c.as_slice-lines.ensures c.loop-line.line-index c.line-item.result c.loop-line-test.true c.line-item.is)
    c.loop-line.invariant c.in_ok-fault.ensures c.in-Some.is c.refusal.ensures.line c.refusal.ensures.column c.refusal.ensures.cause)

pub loop-line-preserved : goal.loop-line-preserved
loop-line-preserved c =
    led_more c.as_slice-lines.result.now c.loop-line.line-index c.line-item.result c.loop-line.resolver c.statement.new.self c.in_ok-fault.field-0 c.loop-line-test.true c.line-item.is
    (line_read c.requires.0 c.args.script c.as_slice-lines.result.now c.requires.2 c.as_slice-lines.ensures c.loop-line.line-index c.line-item.result c.loop-line-test.true c.line-item.is)
    c.loop-line.invariant c.in_ok-fault.ensures c.in_default.is

pub returns-clause-within : goal.returns-clause-within
returns-clause-within c =
    script_within c.requires.0 c.args.script c.loop-line.resolver.plan c.requires.1 c.requires.2
    (led_plan c.args.script c.as_slice-lines.result.now c.loop-line.line-index c.loop-line.resolver c.as_slice-lines.ensures c.loop-line-test.false c.loop-line.invariant)
