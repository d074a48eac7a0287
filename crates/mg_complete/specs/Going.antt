-- How a turn goes on from unit to unit. Private functions alone cite it.
use Rattle.std.specs.Prelude.{◌≡◌, ℕ, ◌+◌, ◌≤◌, Option, None, Some}
use Rattle.mg_complete.specs.declared.going.Pause.{Pause}
use Rattle.mg_complete.specs.declared.going.Pause.TheVariants.{GoalsVanish, NothingLeft, UnitsSpent, WouldPass}
use Rattle.mg_complete.specs.declared.work.Work.{Work}
use Rattle.mg_complete.specs.Completion.{AllDone, Vanish, first_equations}
use Rattle.mg_complete.specs.Turn.{NoRoom, Remains}
use Rattle.mg_complete.specs.Working.{Works, Grows, AllVanish}

-- why a turn that may go on until so many units are spent takes none more
abbrev pub IsWhy : Work → ℕ → Pause → Type 0
IsWhy w until GoalsVanish = AllVanish w
IsWhy w until NothingLeft = Remains w.ask w.system.rules × AllDone w.system.rules w.last
IsWhy w until UnitsSpent = Remains w.ask w.system.rules × (w.spent ≡ until)
IsWhy w until (WouldPass passed) = NoRoom w.ask.group w.system.rules w.system.reasons passed.what passed.count

-- units are taken, not more than until so many are spent
pub record Advances (before : Work) (until : ℕ) (after : Work) : Type 0 where
  pub grows : Grows before after
  pub least : before.spent ≤ after.spent
  pub most : after.spent ≤ until
  pub works : (dealt : ℕ) → Works before dealt → Works after dealt

-- one unit is taken, and some goal remains, or none is for this reason
abbrev pub IsStep : Work → ℕ → Option Pause → Work → Type 0
IsStep before until (Some pause) after = IsWhy after until pause
IsStep before until None after = Remains after.ask after.system.rules × (after.spent ≡ before.spent + 1)

pub record Steps (before : Work) (until : ℕ) (pause : Option Pause) (after : Work) : Type 0 where
  pub advances : Advances before until after
  pub step : IsStep before until pause after

-- units are taken until there is a reason to take none more
pub record Goes (before : Work) (until : ℕ) (pause : Pause) (after : Work) : Type 0 where
  pub advances : Advances before until after
  pub why : IsWhy after until pause

-- the pairs and relators descend to the empty word, or an equation would pass a limit
abbrev pub IsBegun : Work → Pause → Type 0
IsBegun w GoalsVanish = Vanish w.ask.group w.system.rules
IsBegun w NothingLeft = Vanish w.ask.group w.system.rules
IsBegun w UnitsSpent = Vanish w.ask.group w.system.rules
IsBegun w (WouldPass passed) = Unit {0}

-- a turn up to its end; where no turn has ended More or Found it begins with pairs and relators
pub record Runs (before : Work) (until : ℕ) (pause : Pause) (after : Work) : Type 0 where
  pub grows : Grows before after
  pub least : before.spent ≤ after.spent
  pub most : after.spent ≤ until
  pub works : Works after (first_equations after.ask.group)
  pub why : IsWhy after until pause
  pub begun : IsBegun after pause
