use Rattle.std.proofs.Common.{◌<◌, ℕ}
use Rattle.mg_rules.specs.First.{Ends}
use Rattle.mg_rules.proofs.rewriter.scan.Given as goal

-- no rule before the place ends the word
abbrev pub invariant-loop-place : goal.invariant-loop-place
invariant-loop-place l = (number : ℕ) → Ends l.rules l.word number → l.place < number
