use Rattle.std.proofs.Common.{◌≡◌, take}
use Rattle.mg_rules.specs.Index.{IsIndexOf}
use Rattle.mg_rules.proofs.tests.added.Given as goal

-- the index knows the rules before the place
abbrev pub invariant-loop-pair : goal.invariant-loop-pair
invariant-loop-pair l = record {
  known : l.known ≡ take l.pair-index l.rules;
  of : IsIndexOf l.known l.index;
}
