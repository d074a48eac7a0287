use Rattle.std.proofs.Common.{◌≡◌, ◌+◌, length}
use Rattle.mg_complete.specs.Completion.{moves_in}
use Rattle.mg_complete.specs.Working.{SameWork, IsSystem}
use Rattle.mg_complete.proofs.Affirming.{Erased}
use Rattle.mg_complete.proofs.work.Work.erasing.Given as goal

-- the goals before the place have their moves
abbrev pub invariant-loop-place : goal.invariant-loop-place
invariant-loop-place l = record {
  same : SameWork l.fn.self l.self;
  count : l.count ≡ length l.self.ask.goals;
  system : IsSystem l.self.ask.group l.self.system;
  moves : l.moves ≡ moves_in l.fn.self.system.reasons + moves_in l.lists;
  erased : Erased l.fn.self l.lists l.place;
}
