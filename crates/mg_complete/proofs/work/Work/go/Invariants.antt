use Rattle.std.proofs.Common.{◌-◌}
use Rattle.mg_complete.specs.Turn.{Remains}
use Rattle.mg_complete.specs.Going.{Advances}
use Rattle.mg_complete.proofs.work.Work.go.Given as goal

-- units are taken, and some goal remains
abbrev pub invariant-loop-pause : goal.invariant-loop-pause
invariant-loop-pause l = record {
  advances : Advances l.fn.self l.until l.self;
  remains : Remains l.self.ask l.self.system.rules;
}

abbrev pub decreases-loop-pause : goal.decreases-loop-pause
decreases-loop-pause l = l.until - l.self.spent
