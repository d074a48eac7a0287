use Rattle.std.proofs.Common.{◌≡◌, ℕ, List, Bor, subst, sym, ap, ◌∙◌, arith}
use Rattle.mg_lex.specs.declared.scanner.Step.TheVariants as step
use Rattle.mg_lex.specs.declared.token.Token.{Token}
use Rattle.mg_lex.specs.Step.{ComesNext}
use Rattle.mg_lex.specs.Cause.{AreTokensBefore}
use Rattle.mg_lex.specs.Refusal.{place_of}
use Rattle.mg_lex.proofs.Lines.{IsReadTo, read_to_token, read_to_end, read_to_fault}
use Rattle.mg_lex.proofs.line.lex.Goals as goal

pub loop-token-preserved : goal.loop-token-preserved
loop-token-preserved c =
    let next = subst (λ (l : List ℕ). ComesNext l c.loop-token.scanner.place (step.Token c.in-Token.token) c.next.new.self.place) c.loop-token.invariant.line c.in-Token.ensures.next in
    record {
      line = ap (λ (b : Bor (List ℕ)). b.now) c.next.ensures.line ∙ c.loop-token.invariant.line;
      read = subst (λ (ts : List Token). IsReadTo c.args.line.now ts c.next.new.self.place) (sym c.in_ok-push-in-Token.ensures.ok) (read_to_token c.args.line.now c.loop-token.tokens c.loop-token.scanner.place c.in-Token.token c.next.new.self.place c.loop-token.invariant.read next);
    }

pub returns-in-End-clause-tokens : goal.returns-in-End-clause-tokens
returns-in-End-clause-tokens c =
    let next = subst (λ (l : List ℕ). ComesNext l c.loop-token.scanner.place step.End c.next.new.self.place) c.loop-token.invariant.line c.in-End.ensures.next in
    read_to_end c.args.line.now c.loop-token.tokens c.loop-token.scanner.place c.next.new.self.place c.loop-token.invariant.read next

pub returns-in-Refused-clause-before : goal.returns-in-Refused-clause-before
returns-in-Refused-clause-before c =
    let next = subst (λ (l : List ℕ). ComesNext l c.loop-token.scanner.place (step.Refused c.in-Refused.fault) c.next.new.self.place) c.loop-token.invariant.line c.in-Refused.ensures.next in
    let column = c.first_fault.ensures.column in
    let place : c.in-Refused.fault.place ≡ place_of c.first_fault.result.refused = omega arith in
    subst (λ (p : ℕ). AreTokensBefore c.args.line.now p c.loop-token.tokens) place
    (read_to_fault c.args.line.now c.loop-token.tokens c.loop-token.scanner.place c.in-Refused.fault c.next.new.self.place c.loop-token.invariant.read next)
