use Rattle.std.proofs.Common.{◌≡◌, length}
use Rattle.std.specs.Prelude.{None}
use Rattle.mg_complete.specs.Beginning.{Begins, RelatorsVanish}
use Rattle.mg_complete.proofs.work.Work.deal_relators.Given as goal

-- the relators before the place are dealt with
abbrev pub invariant-loop-place : goal.invariant-loop-place
invariant-loop-place l = record {
  begins : Begins l.fn.self l.place (RelatorsVanish l.fn.self.ask.group.relators l.place) None l.self;
  count : l.count ≡ length l.fn.self.ask.group.relators;
}
