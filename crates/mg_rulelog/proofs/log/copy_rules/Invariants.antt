use Rattle.std.proofs.Common.{◌≡◌, take}
use Rattle.mg_rulelog.proofs.log.copy_rules.Given as goal

-- the rules before the place are copied
abbrev pub invariant-loop-rule : goal.invariant-loop-rule
invariant-loop-rule l = l.same ≡ take l.rule-index l.rules
