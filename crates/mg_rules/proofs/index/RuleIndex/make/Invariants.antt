use Rattle.std.proofs.Common.{take}
use Rattle.mg_rules.specs.Index.{IsIndexOf}
use Rattle.mg_rules.proofs.index.RuleIndex.make.Given as goal

-- the index knows the rules before the place
abbrev pub invariant-loop-place : goal.invariant-loop-place
invariant-loop-place l = IsIndexOf (take l.place l.rules) l.index
