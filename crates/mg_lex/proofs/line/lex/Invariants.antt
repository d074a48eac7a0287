use Rattle.std.proofs.Common.{◌≡◌, ◌-◌, length}
use Rattle.mg_lex.proofs.Lines.{IsReadTo}
use Rattle.mg_lex.proofs.line.lex.Given as goal

-- what stands before the scanner is the tokens so far
abbrev pub invariant-loop-token : goal.invariant-loop-token
invariant-loop-token l = record { line : l.scanner.line.now ≡ l.line; read : IsReadTo l.line l.tokens l.scanner.place }

abbrev pub decreases-loop-token : goal.decreases-loop-token
decreases-loop-token l = length l.line - l.scanner.place
