use Rattle.std.proofs.Common.{◌≡◌, ℕ, ◌<◌, ℤ, List, [], length}
use Rattle.std.specs.Prelude.{slice_index_or}
use Rattle.mg_rules.specs.First.{IsFirstDescendant}
use Rattle.mg_complete.specs.Working.{SameWork, IsSystem}
use Rattle.mg_complete.proofs.work.Work.remains.Given as goal

-- the goals before the place come to nothing
abbrev pub invariant-loop-place : goal.invariant-loop-place
invariant-loop-place l = record {
  same : SameWork l.fn.self l.self;
  count : l.count ≡ length l.self.ask.goals;
  system : IsSystem l.self.ask.group l.self.system;
  vanish : (k : ℕ) (d : List ℤ) → k < l.place → IsFirstDescendant l.fn.self.system.rules (slice_index_or l.fn.self.ask.goals k d) [];
}
