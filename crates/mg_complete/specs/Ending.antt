-- How a turn ends, from the work of it. Private functions alone cite it.
use Rattle.std.specs.Prelude.{◌≡◌, ◌⊎◌, ℕ, ◌+◌, ◌≤◌, Option, None, Some, List}
use Rattle.mg_turn.specs.declared.bounds.TheConstants.{MOST_MOVES}
use Rattle.mg_turn.specs.declared.outcome.Limit.{Limit}
use Rattle.mg_turn.specs.declared.outcome.Limit.TheVariants.{Moves}
use Rattle.mg_turn.specs.declared.outcome.TurnEnd.{TurnEnd}
use Rattle.mg_turn.specs.declared.outcome.TurnEnd.TheVariants.{More, Found, Closed, Idle, Stopped, Full}
use Rattle.mg_rulelog.specs.declared.moves.Move.{Move}
use Rattle.mg_rulelog.specs.Acceptance.{AllErase}
use Rattle.mg_certs.specs.Claim.{Fact, complete}
use Rattle.mg_certs.specs.Refuting.{PublishesNo}
use Rattle.mg_complete.specs.declared.affirm.Affirmed.{Affirmed}
use Rattle.mg_complete.specs.declared.affirm.Affirmed.TheVariants.{Log, Long}
use Rattle.mg_complete.specs.declared.work.Work.{Work}
use Rattle.mg_complete.specs.Equations.{sides}
use Rattle.mg_complete.specs.Completion.{Vanish, moves_in}
use Rattle.mg_complete.specs.Publishing.{PublishesYes}
use Rattle.mg_complete.specs.Turn.{NoRoom, LongLog, Remains}

-- moves that rewrite each goal to the empty word, few enough for a log, or they would be too many
abbrev pub ErasesAll : Work → Option (List (List Move)) → Type 0
ErasesAll w (Some lists) =
    AllErase w.ask.group (sides w.system.rules) lists w.ask.goals × (moves_in w.system.reasons + moves_in lists ≤ MOST_MOVES)
ErasesAll w None = LongLog w.ask w.system.rules w.system.reasons Moves MOST_MOVES

-- where each goal comes to nothing: YES by a log of all rules, or the log would have too many moves
abbrev pub Affirms : Work → Affirmed → Type 0
Affirms w (Log records) = PublishesYes w.ask w.system.rules w.system.reasons records
Affirms w Long = LongLog w.ask w.system.rules w.system.reasons Moves MOST_MOVES

-- what is published: YES by a log, or NO by the rules
abbrev pub Publishes : Work → List Fact → Type 0
Publishes w records =
    PublishesYes w.ask w.system.rules w.system.reasons records ⊎ PublishesNo w.ask (complete w.system.rules) records

-- a limit would be passed, by a rule or by a log
abbrev pub IsFull : Work → Limit → ℕ → Type 0
IsFull w what count =
    NoRoom w.ask.group w.system.rules w.system.reasons what count ⊎ LongLog w.ask w.system.rules w.system.reasons what count

-- how a turn ends that may go on until so many units are spent
abbrev pub EndsSo : Work → ℕ → TurnEnd Fact → Type 0
EndsSo w until More = Vanish w.ask.group w.system.rules × Remains w.ask w.system.rules × (w.spent ≡ until)
EndsSo w until (Found records) = Vanish w.ask.group w.system.rules × Publishes w records
EndsSo w until (Full what count) = IsFull w what count
EndsSo w until (Closed records) = ⊥
EndsSo w until Idle = ⊥
EndsSo w until (Stopped seen) = ⊥
