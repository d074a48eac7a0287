use Rattle.std.proofs.Common.{◌≡◌, take}
use Rattle.mg_complete.specs.Publishing.{logged}
use Rattle.mg_complete.proofs.system.System.logged.Given as goal

-- the rules before the place are logged
abbrev pub invariant-loop-place : goal.invariant-loop-place
invariant-loop-place l = l.rules ≡ logged (take l.place l.self.rules) (take l.place l.self.reasons)
