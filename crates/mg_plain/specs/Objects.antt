-- The searches through the objects of each procedure as plain searches.
use Rattle.std.specs.Prelude.{◌≡◌, ℕ, ◌+◌, ◌<◌, true, false}
use Rattle.mg_words.specs.declared.procedure.Procedure.{Procedure}
use Rattle.mg_words.specs.declared.procedure.Procedure.TheVariants.{Derive, Act, Residue}
use Rattle.mg_numbers.specs.declared.advance.Advance.{Advance}
use Rattle.mg_numbers.specs.declared.advance.Advance.TheVariants.{More, Found}
use Rattle.mg_numbers.specs.Plain.{TestsAll, FindsFirst}
use Rattle.mg_present.specs.Ask.{Inquiry}
use Rattle.mg_present.specs.Applies.{Applies}
use Rattle.mg_derive.specs.Acceptance.{IsAccepted, IsNumbered}
use Rattle.mg_action.specs.Action as by_action
use Rattle.mg_action.specs.Number as actions_by
use Rattle.mg_cyclic.specs.Map as by_residues
use Rattle.mg_cyclic.specs.Number as maps_by
use Rattle.mg_plain.specs.Plain.{Plain, AcceptedBy}
use Rattle.mg_plain.specs.declared.plain.StartRefused.{StartRefused}
use Rattle.mg_plain.specs.declared.plain.StartRefused.TheVariants.{DoesNotApply, NoMemory}
use Rattle.mg_plain.specs.declared.objects.Objects.{Objects}
use Rattle.mg_plain.specs.declared.objects.Objects.TheVariants.{Texts, Actions, Maps}

-- a search through objects as a plain search
abbrev pub seen : Objects → Plain
seen (Texts texts) = record { procedure = Derive; ask = texts.ask; cursor = texts.cursor; is_open = texts.is_open }
seen (Actions actions) = record { procedure = Act; ask = actions.ask; cursor = actions.cursor; is_open = actions.is_open }
seen (Maps maps) = record { procedure = Residue; ask = maps.ask; cursor = maps.cursor; is_open = maps.is_open }

-- the object on which the search stands has the cursor as its number, and it is accepted, at the first goal where it
-- refutes one
abbrev pub HasFound : Objects → Type 0
HasFound (Texts texts) = IsNumbered texts.ask texts.text texts.cursor × IsAccepted texts.ask texts.text
HasFound (Actions actions) = actions_by.IsNumbered actions.ask.group.generators actions.action actions.cursor × by_action.Refutes actions.ask actions.goal actions.action × ((k : ℕ) → k < actions.goal → by_action.Refutes actions.ask k actions.action → ⊥)
HasFound (Maps maps) = maps_by.IsNumbered maps.ask.group.generators maps.map maps.cursor × by_residues.Refutes maps.ask maps.goal maps.map × ((k : ℕ) → k < maps.goal → by_residues.Refutes maps.ask k maps.map → ⊥)

-- what a call does that tests the next numbers: it tests all its units and accepts none, or it ends at the first number
-- that is accepted
abbrev pub Advances : Plain → ℕ → Advance → Plain → Type 0
Advances search units More after = TestsAll (AcceptedBy search.procedure search.ask) search.cursor units units × (after ≡ record search { cursor = search.cursor + units; is_open = true })
Advances search units (Found spent) after = FindsFirst (AcceptedBy search.procedure search.ask) search.cursor units spent × (after ≡ record search { cursor = search.cursor + spent; is_open = false })

-- a search of the procedure for the Ask that has tested nothing
abbrev pub fresh : Procedure → Inquiry → Plain
fresh procedure ask = record { procedure = procedure; ask = ask; cursor = 0; is_open = true }

-- why a search isn't started: its procedure may not be used for the Ask, or it may, and memory is wanting
abbrev pub IsNotStarted : Procedure → Inquiry → StartRefused → Type 0
IsNotStarted procedure ask DoesNotApply = Applies procedure ask → ⊥
IsNotStarted procedure ask NoMemory = Applies procedure ask
