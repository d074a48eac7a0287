-- Turns that were stopped.
use Rattle.std.specs.Prelude.{◌≡◌, Option, Some}
use Rattle.mg_turn.specs.declared.outcome.TurnEnd.{TurnEnd}
use Rattle.mg_turn.specs.declared.outcome.TurnEnd.TheVariants.{More, Found, Closed, Idle, Stopped, Full}

-- an end that says that the turn was stopped carries what the stop knows
abbrev pub StopsBy : {R : Type 0} → TurnEnd R → Option R → Type 0
StopsBy (Stopped seen) known = known ≡ Some seen.value
StopsBy More known = Unit {0}
StopsBy (Found records) known = Unit {0}
StopsBy (Closed records) known = Unit {0}
StopsBy Idle known = Unit {0}
StopsBy (Full what count) known = Unit {0}
