-- The least of some causes.
use Rattle.std.specs.Prelude.{◌≡◌, ◌⊎◌, ◌<◌, ◌≤◌, Option, Some, None, List, [], ◌++◌}
use Rattle.mg_lex.specs.Cause.{cause_number}
use Rattle.mg_names.specs.declared.least.Fault.{Fault}
use Rattle.mg_names.specs.Cause.{Shown, IsFirst}

-- none where there are none, and else the first
abbrev pub IsLeastOf : List Shown → Option Shown → Type 0
IsLeastOf all None = all ≡ []
IsLeastOf all (Some s) = IsFirst all s

-- what is the least of the causes found, and of these too afterwards
abbrev pub Gets : List Shown → Option Shown → Option Shown → Type 0
Gets causes before after = (all : List Shown) → IsLeastOf all before → IsLeastOf (all ++ causes) after

-- the first stands before the other, or at the same place with no greater number
abbrev pub IsNotAfter : Shown → Shown → Type 0
IsNotAfter s t = (s.place < t.place) ⊎ ((s.place ≡ t.place) × (cause_number s.cause ≤ cause_number t.cause))

abbrev pub shown_of : Fault → Shown
shown_of fault = record { place = fault.place; cause = fault.cause }

abbrev pub least_of : Option Fault → Option Shown
least_of None = None
least_of (Some fault) = Some (shown_of fault)
