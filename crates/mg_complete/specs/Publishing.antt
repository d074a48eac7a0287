-- What completion publishes.
use Rattle.std.specs.Prelude.{◌≡◌, ◌+◌, ◌≤◌, ◌⊎◌, List, [], ◌∷◌}
use Rattle.mg_turn.specs.declared.bounds.TheConstants.{MOST_MOVES}
use Rattle.mg_present.specs.Ask.{Inquiry}
use Rattle.mg_rules.specs.Rule.{Rule}
use Rattle.mg_rulelog.specs.declared.moves.Move.{Move}
use Rattle.mg_rulelog.specs.declared.log.RuleLog.{RuleLog}
use Rattle.mg_rulelog.specs.Rule.{Logged}
use Rattle.mg_rulelog.specs.Acceptance.{IsAccepted}
use Rattle.mg_certs.specs.Claim.{rulelog, complete, affirmed, Fact, settled}
use Rattle.mg_certs.specs.Refuting.{PublishesNo}
use Rattle.mg_complete.specs.Completion.{Completion, moves_in}

-- the rules with their reasons
abbrev pub logged : List Rule → List (List Move) → List Logged
logged [] reasons = []
logged (rule ∷ rules) [] = []
logged (rule ∷ rules) (moves ∷ reasons) = record { left = rule.left; right = rule.right; moves = moves } ∷ logged rules reasons

-- the log of the rules, and of the moves of the goals
abbrev pub log_of : List Rule → List (List Move) → List (List Move) → RuleLog
log_of rules reasons lists = record { rules = logged rules reasons; goals = lists }

-- YES by a log of all rules, which is accepted and within the limits
pub record PublishesYes (ask : Inquiry) (rules : List Rule) (reasons : List (List Move)) (records : List Fact) : Type 0 where
  pub lists : List (List Move)
  pub accepted : IsAccepted ask (log_of rules reasons lists)
  pub moves : moves_in reasons + moves_in lists ≤ MOST_MOVES
  pub records_are : records ≡ settled ask (affirmed (rulelog (log_of rules reasons lists))) ∷ []

-- what a search publishes: YES by its log, or NO by its rules
abbrev pub Publishes : Completion → List Fact → Type 0
Publishes s records = PublishesYes s.ask s.rules s.reasons records ⊎ PublishesNo s.ask (complete s.rules) records
