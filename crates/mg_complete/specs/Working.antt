-- The state while a turn works. Private functions alone cite it.
use Rattle.std.specs.Prelude.{◌≡◌, ◌⊎◌, ℕ, ◌+◌, ◌≤◌, ℤ, Bool, Option, None, Some, List, [], ◌∷◌, ◌++◌, length, Contains}
use Rattle.mg_turn.specs.declared.bounds.TheConstants.{MOST_RULES, MOST_SIDE_LETTERS, MOST_LETTERS, MOST_MOVES}
use Rattle.mg_present.specs.Presentation.{Group}
use Rattle.mg_rules.specs.Rule.{Rule, HaveCommon, IsNormal}
use Rattle.mg_rules.specs.First.{IsFirstDescendant}
use Rattle.mg_rules.specs.Reading.{LeadsBy}
use Rattle.mg_rules.specs.Shortlex.{AllDecrease}
use Rattle.mg_rules.specs.Index.{IsIndexOf}
use Rattle.mg_rulelog.specs.declared.moves.Move.{Move}
use Rattle.mg_complete.specs.declared.desk.Desk.{Desk}
use Rattle.mg_complete.specs.declared.desk.Given.{Given}
use Rattle.mg_complete.specs.declared.desk.Settled.{Settled}
use Rattle.mg_complete.specs.declared.desk.Settled.TheVariants.{Joined, Added, Full}
use Rattle.mg_complete.specs.declared.system.System.{System}
use Rattle.mg_complete.specs.declared.work.Work.{Work}
use Rattle.mg_complete.specs.Equations.{Equation, Gives, IsGiven, turned}
use Rattle.mg_complete.specs.Completion.{Completion, AllGiven, Done, IsWithin, letters_in, moves_in}
use Rattle.mg_complete.specs.Turn.{NoRoom}

-- one more rule keeps the limits
pub record HasRoom (rules : List Rule) (reasons : List (List Move)) (rule : Rule) (moves : List Move) : Type 0 where
  pub count : length rules + 1 ≤ MOST_RULES
  pub side : length rule.left ≤ MOST_SIDE_LETTERS
  pub letters : letters_in rules + (length rule.left + length rule.right) ≤ MOST_LETTERS
  pub all_moves : moves_in reasons + length moves ≤ MOST_MOVES

-- the index is of the rules, there is a list of moves for each, letters and moves are counted, and the limits are kept
pub record IsCounted (s : System) : Type 0 where
  pub index : IsIndexOf s.rules s.index
  pub paired : length s.reasons ≡ length s.rules
  pub letters : s.letters ≡ letters_in s.rules
  pub moves : s.moves ≡ moves_in s.reasons
  pub within : IsWithin s.rules s.reasons

-- besides, each rule is given by the rules before it
pub record IsSystem (group : Group) (s : System) : Type 0 where
  pub counted : IsCounted s
  pub given : AllGiven group s.rules s.reasons
  pub decrease : AllDecrease s.rules

-- the equation on the desk
abbrev pub on_desk : Desk → Equation
on_desk desk = record { one = desk.one.letters; other = desk.other.letters; moves = desk.moves }

-- the ends on the desk are normal descendants of its words, by the rewritings that are told
pub record IsRewritten (rules : List Rule) (desk : Desk) : Type 0 where
  pub one : LeadsBy rules desk.one.letters desk.one_told desk.one_end.letters
  pub other : LeadsBy rules desk.other.letters desk.other_told desk.other_end.letters
  pub one_normal : IsNormal rules desk.one_end.letters
  pub other_normal : IsNormal rules desk.other_end.letters

-- the equation gives this rule, read in one of the two ways, or its words have a common descendant
abbrev pub GivesPair : List Rule → Equation → Option Given → Type 0
GivesPair rules e (Some given) = Gives rules e given.pair given.moves ⊎ Gives rules (turned e) given.pair given.moves
GivesPair rules e None = HaveCommon rules e.one e.other

-- a system has one rule more, which its rules gave
pub record AddsRule (group : Group) (before : System) (rule : Rule) (after : System) : Type 0 where
  pub moves : List Move
  pub given : IsGiven group before.rules rule moves
  pub rules : after.rules ≡ before.rules ++ rule ∷ []
  pub reasons : after.reasons ≡ before.reasons ++ moves ∷ []
  pub system : IsSystem group after

-- a rule that is given is added, or it would pass a limit
abbrev pub Adds : Group → System → Rule → Settled → System → Type 0
Adds group before rule Joined after = ⊥
Adds group before rule Added after = AddsRule group before rule after
Adds group before rule (Full passed) after = (after ≡ before) × NoRoom group before.rules before.reasons passed.what passed.count

-- What becomes of an equation: its words have a common descendant, or they have one with a rule more, or that would pass
-- a limit.
abbrev pub Settles : Group → Equation → System → Settled → System → Type 0
Settles group e before Joined after = (after ≡ before) × HaveCommon before.rules e.one e.other
Settles group e before Added after = (rule : Rule) × AddsRule group before rule after × HaveCommon after.rules e.one e.other
Settles group e before (Full passed) after =
    (after ≡ before) × NoRoom group before.rules before.reasons passed.what passed.count

-- what holds while a turn works, with so many pairs and relators dealt with
pub record Works (w : Work) (dealt : ℕ) : Type 0 where
  pub alone : w.ask.subgroup ≡ []
  pub system : IsSystem w.ask.group w.system
  pub done : Done w.system.rules w.last w.spent
  pub few : length w.system.rules ≤ dealt + w.spent

-- rules are added, and the Ask is the same
pub record Grows (before after : Work) : Type 0 where
  pub ask : after.ask ≡ before.ask
  pub added : List Rule
  pub rules : after.system.rules ≡ before.system.rules ++ added
  pub added_reasons : List (List Move)
  pub reasons : after.system.reasons ≡ before.system.reasons ++ added_reasons

-- the search that the work is of
abbrev pub seen : Work → (is_open begun : Bool) → Completion
seen w is_open begun = record {
  ask = w.ask;
  rules = w.system.rules;
  reasons = w.system.reasons;
  last = w.last;
  spent = w.spent;
  is_open = is_open;
  begun = begun;
}

-- the first descendant of each goal is empty
abbrev pub AllVanish : Work → Type 0
AllVanish w = (goal : List ℤ) → Contains w.ask.goals goal → IsFirstDescendant w.system.rules goal []

-- nothing has changed but the desk and the goal that is tested first
pub record SameWork (before after : Work) : Type 0 where
  pub ask : after.ask ≡ before.ask
  pub system : after.system ≡ before.system
  pub last : after.last ≡ before.last
  pub spent : after.spent ≡ before.spent

-- an equation is settled
pub record Deals (e : Equation) (before : Work) (settled : Settled) (after : Work) : Type 0 where
  pub ask : after.ask ≡ before.ask
  pub last : after.last ≡ before.last
  pub spent : after.spent ≡ before.spent
  pub settles : Settles before.ask.group e before.system settled after.system
  pub works : (dealt : ℕ) → Works before dealt → Works after (dealt + 1)

-- no unit is spent where a limit would be passed
abbrev pub spent_by : Settled → ℕ
spent_by Joined = 1
spent_by Added = 1
spent_by (Full passed) = 0

-- where a limit would be passed, it would be by a rule that the rules give
abbrev pub IsFullBy : Work → Settled → Type 0
IsFullBy w Joined = Unit {0}
IsFullBy w Added = Unit {0}
IsFullBy w (Full passed) = NoRoom w.ask.group w.system.rules w.system.reasons passed.what passed.count

-- an equation that is joined adds no rule
abbrev pub IsAlike : Work → Settled → Work → Type 0
IsAlike before Joined after = after.system ≡ before.system
IsAlike before Added after = Unit {0}
IsAlike before (Full passed) after = after.system ≡ before.system

-- one unit, or none where a limit would be passed
pub record Takes (before : Work) (settled : Settled) (after : Work) : Type 0 where
  pub grows : Grows before after
  pub spent : after.spent ≡ before.spent + spent_by settled
  pub works : (dealt : ℕ) → Works before dealt → Works after dealt
  pub full : IsFullBy after settled
  pub alike : IsAlike before settled after
