use Rattle.std.proofs.Common.{◌≤◌, ◌+◌, ◌^◌, drop, length, List, vec_capacity}
use Rattle.mg_rules.specs.Rule.{Rule}
use Rattle.mg_rules.specs.Index.{IsIndexOf, Reaches}
use Rattle.mg_rules.proofs.index.node_of.Given as goal

-- the letters from the place on lead to the node
abbrev pub invariant-loop-at : goal.invariant-loop-at
invariant-loop-at l = record {
  within : l.at ≤ length l.word;
  index : (rules : List Rule) → IsIndexOf rules l.initial.nodes.items → IsIndexOf rules l.nodes.items;
  reached : Reaches l.nodes.items (drop l.at l.word) l.node;
  room : length l.nodes.items + l.at ≤ vec_capacity l.nodes;
  small : length l.nodes.items + l.at ≤ 2 ^ 32;
}

abbrev pub decreases-loop-at : goal.decreases-loop-at
decreases-loop-at l = l.at
