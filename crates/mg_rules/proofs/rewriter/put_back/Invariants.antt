use Rattle.std.proofs.Common.{◌≡◌, ◌≤◌, ◌++◌, drop, reverse, length}
use Rattle.mg_rules.proofs.rewriter.put_back.Given as goal

-- the letters from the place on are put
abbrev pub invariant-loop-left : goal.invariant-loop-left
invariant-loop-left l = record {
  within : l.left ≤ length l.letters;
  put : l.stack.items ≡ l.initial.stack.items ++ reverse (drop l.left l.letters);
}

abbrev pub decreases-loop-left : goal.decreases-loop-left
decreases-loop-left l = l.left
