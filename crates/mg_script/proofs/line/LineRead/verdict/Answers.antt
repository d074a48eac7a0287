use Rattle.std.proofs.Common.{List, subst}
use Rattle.mg_terms.specs.declared.lexeme.Lexeme.{Lexeme}
use Rattle.mg_script.specs.Cause.{IsFaultless, IsFirstCause}
use Rattle.mg_script.proofs.LinesRead.{bytes_at_fault, nothing_at_fault}
use Rattle.mg_script.proofs.line.LineRead.verdict.Goals as goal

pub returns-in-Some-clause-refused : goal.returns-in-Some-clause-refused
returns-in-Some-clause-refused c =
    bytes_at_fault c.args.counts c.args.line.now c.args.number c.args.self.now c.requires.read
    (subst (λ (xs : List Lexeme). IsFaultless c.args.counts xs) c.as_slice.ensures c.in-Ok.ensures.faultless) c.in-Some.fault c.in-Some.is

pub returns-in-None-clause-faultless : goal.returns-in-None-clause-faultless
returns-in-None-clause-faultless c =
    nothing_at_fault c.args.counts c.args.line.now c.args.number c.args.self.now c.requires.read
    (subst (λ (xs : List Lexeme). IsFaultless c.args.counts xs) c.as_slice.ensures c.in-Ok.ensures.faultless) c.in-None.is

pub returns-in-Err-clause-refused : goal.returns-in-Err-clause-refused
returns-in-Err-clause-refused c =
    c.first_of.ensures c.args.counts
    (subst (λ (xs : List Lexeme). IsFirstCause c.args.counts xs c.in-Err.fault.place c.in-Err.fault.cause) c.as_slice.ensures c.in-Err.ensures.refused)
