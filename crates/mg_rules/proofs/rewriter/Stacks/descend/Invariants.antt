use Rattle.std.proofs.Common.{◌≡◌, IsTrue, false}
use Rattle.mg_rules.specs.Reading.{whole, Tells}
use Rattle.mg_rules.proofs.Ranks.{rank}
use Rattle.mg_rules.proofs.Reading.{Stands, base_of}
use Rattle.mg_rules.proofs.rewriter.Stacks.descend.Given as goal

-- the word as it is now has the first descendant of the word at the beginning
abbrev pub invariant-rewriting : goal.invariant-rewriting
invariant-rewriting l = record {
  stands : Stands l.rules (whole l.initial.self.read.items l.initial.self.rest.items) l.self.read.items l.self.rest.items;
  told : IsTrue l.tells → Tells l.rules (whole l.initial.self.read.items l.initial.self.rest.items) (whole l.self.read.items l.self.rest.items) l.initial.told l.told;
  silent : l.tells ≡ false → l.told ≡ l.initial.told;
}

abbrev pub decreases-rewriting : goal.decreases-rewriting
decreases-rewriting l =
    rank (base_of l.rules (whole l.initial.self.read.items l.initial.self.rest.items)) (whole l.self.read.items l.self.rest.items)
