use Rattle.std.proofs.Common.{◌≡◌, ◌*◌, ◌≤◌, ◌-◌}
use Rattle.std.specs.Prelude.{None}
use Rattle.mg_complete.specs.Beginning.{Begins, PairsVanish}
use Rattle.mg_complete.proofs.work.Work.deal_pairs.Given as goal

-- the pairs of the first generators are dealt with
abbrev pub invariant-loop-alloc : goal.invariant-loop-alloc
invariant-loop-alloc l = record {
  begins : Begins l.fn.self (2 * l.generator) (PairsVanish l.generator) None l.self;
  count : l.count ≡ l.fn.self.ask.group.generators;
  within : l.generator ≤ l.count;
  few : l.count ≤ 64;
}

abbrev pub decreases-loop-alloc : goal.decreases-loop-alloc
decreases-loop-alloc l = l.count - l.generator
