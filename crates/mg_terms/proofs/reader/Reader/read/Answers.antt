use Rattle.std.proofs.Common.{sym, refl, arith}
use Rattle.std.proofs.lemmas.Result.{err_from_is_err_and}
use Rattle.mg_terms.specs.Reading.{start}
use Rattle.mg_terms.proofs.Reached.{read_on, read_stops, read_all, step_refuses}
use Rattle.mg_terms.proofs.reader.Reader.read.Goals as goal

pub loop-place-init : goal.loop-place-init
loop-place-init c = record { reached = start; runs = refl; keeps = sym c.requires; within = tt }

pub returns-in_err-step-clause-refused : goal.returns-in_err-step-clause-refused
returns-in_err-step-clause-refused c =
    let p = err_from_is_err_and c.from_residual.result c.from_residual.ensures.1 in
    rw (p.1, p.2) (step_refuses c.args.lexemes.now c.loop-place.place c.loop-place.self c.step.new.self c.in_err-step.field-0.0 (omega arith) c.loop-place.invariant c.in_err-step.ensures)

pub returns-then-not-branch-clause-stopped : goal.returns-then-not-branch-clause-stopped
returns-then-not-branch-clause-stopped c =
    read_stops c.args.lexemes.now c.loop-place.place c.loop-place.self c.step.new.self c.in_ok-step.field-0 c.if-not-branch.true (omega arith) c.loop-place.invariant c.in_ok-step.ensures

pub loop-place-preserved : goal.loop-place-preserved
loop-place-preserved c =
    read_on c.args.lexemes.now c.loop-place.place c.loop-place.self c.step.new.self c.in_ok-step.field-0 c.if-not-branch.false (omega arith) c.loop-place.invariant c.in_ok-step.ensures

pub returns-clause-stopped : goal.returns-clause-stopped
returns-clause-stopped c = read_all c.args.lexemes.now c.loop-place.place c.loop-place.self (omega arith) c.loop-place.invariant
