use Rattle.std.proofs.Common.{◌≤◌, drop, length, List}
use Rattle.mg_rules.specs.Rule.{Rule}
use Rattle.mg_rules.specs.First.{IsLeastEnd}
use Rattle.mg_rules.specs.Index.{Reaches, IsIndexOf}
use Rattle.mg_rules.proofs.index.look_up.Given as goal

-- the letters from the place on lead to the node, and the rule is the least that ends them
abbrev pub invariant-loop-at : goal.invariant-loop-at
invariant-loop-at l = record {
  within : l.at ≤ length l.word;
  reached : Reaches l.nodes (drop l.at l.word) l.node;
  found : (rules : List Rule) → IsIndexOf rules l.nodes → IsLeastEnd rules (drop l.at l.word) l.found;
}

abbrev pub decreases-loop-at : goal.decreases-loop-at
decreases-loop-at l = l.at
