use Rattle.std.proofs.Common.{◌≡◌, length}
use Rattle.mg_rules.specs.Rule.{IsNormal}
use Rattle.mg_rules.specs.Reading.{whole}
use Rattle.mg_rules.proofs.rewriter.Stacks.read_on.Given as goal

-- the whole word stays, and what is read is normal
abbrev pub invariant-loop-letter : goal.invariant-loop-letter
invariant-loop-letter l = record {
  same : whole l.initial.self.read.items l.initial.self.rest.items ≡ whole l.self.read.items l.self.rest.items;
  normal : IsNormal l.rules l.self.read.items;
}

abbrev pub decreases-loop-letter : goal.decreases-loop-letter
decreases-loop-letter l = length l.self.rest.items
