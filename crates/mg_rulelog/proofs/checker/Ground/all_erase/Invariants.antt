use Rattle.std.proofs.Common.{◌↔◌, drop}
use Rattle.mg_rulelog.specs.Rule.{all_sides}
use Rattle.mg_rulelog.specs.Acceptance.{AllErase}
use Rattle.mg_rulelog.proofs.checker.Ground.all_erase.Given as goal

-- the lists that are left rewrite the goals that are left exactly where all lists rewrite all goals
abbrev pub invariant-loop-place : goal.invariant-loop-place
invariant-loop-place l =
    AllErase l.self.group.now (all_sides l.self.rules.now) (drop l.place l.lists) (drop l.place l.goals)
    ↔ AllErase l.self.group.now (all_sides l.self.rules.now) l.lists l.goals
