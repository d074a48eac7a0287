use Rattle.std.proofs.Common.{◌≡◌, ◌+◌}
use Rattle.mg_nielsen.specs.Moves.{Reaches}
use Rattle.mg_nielsen.proofs.nielsen.NielsenSearcherClaim.turn.Given as goal

-- the units before the number are made
abbrev pub invariant-loop-spent : goal.invariant-loop-spent
invariant-loop-spent g l = record {
  reaches : Reaches l.spent l.fn.self l.self;
  count : l.self.spent ≡ l.fn.self.spent + l.spent;
  ask : l.self.ask ≡ l.fn.self.ask;
}
