use Rattle.std.proofs.Common.{◌≡◌, take}
use Rattle.mg_rules.proofs.rules.Rules.copy.Given as goal

-- the rules before the place are copied
abbrev pub invariant-loop-pair : goal.invariant-loop-pair
invariant-loop-pair l = l.pairs ≡ take l.pair-index l.self
