-- The beginning of the first turn. Private functions alone cite it.
use Rattle.std.specs.Prelude.{◌≡◌, ℕ, ◌+◌, ◌<◌, ℤ, neg_ℤ, Option, None, Some, List, [], ◌∷◌, slice_get}
use Rattle.mg_words.specs.Letter.{IsLetterOf}
use Rattle.mg_rules.specs.Rule.{Rule, Descends}
use Rattle.mg_complete.specs.declared.system.Passed.{Passed}
use Rattle.mg_complete.specs.declared.work.Work.{Work}
use Rattle.mg_complete.specs.declared.desk.Settled.{Settled}
use Rattle.mg_complete.specs.declared.desk.Settled.TheVariants.{Joined, Added, Full}
use Rattle.mg_complete.specs.Turn.{NoRoom}
use Rattle.mg_complete.specs.Working.{Works, Grows}

-- this holds of the rules, or one more would pass a limit
abbrev pub ComesTo : (List Rule → Type 0) → Option Passed → Work → Type 0
ComesTo holds None w = holds w.system.rules
ComesTo holds (Some passed) w = NoRoom w.ask.group w.system.rules w.system.reasons passed.what passed.count

-- at most so many equations are dealt with, no overlap, and then this holds of the rules
pub record Begins (before : Work) (count : ℕ) (holds : List Rule → Type 0) (full : Option Passed) (after : Work) : Type 0 where
  pub grows : Grows before after
  pub last : after.last ≡ before.last
  pub spent : after.spent ≡ before.spent
  pub works : (dealt : ℕ) → Works before dealt → Works after (dealt + count)
  pub comes : ComesTo holds full after

-- the word descends to the empty word
abbrev pub Vanishes : List ℤ → List Rule → Type 0
Vanishes word rules = Descends rules word []

-- the letters of the first so many generators, each before its inverse, descend to the empty word
abbrev pub PairsVanish : ℕ → List Rule → Type 0
PairsVanish generators rules = (x : ℤ) → IsLetterOf generators x → Descends rules (x ∷ neg_ℤ x ∷ []) []

-- the letter and its inverse, in both orders, descend to the empty word
abbrev pub LetterVanishes : ℤ → List Rule → Type 0
LetterVanishes x rules = Vanishes (x ∷ neg_ℤ x ∷ []) rules × Vanishes (neg_ℤ x ∷ neg_ℤ (neg_ℤ x) ∷ []) rules

-- the first so many relators descend to the empty word
abbrev pub RelatorsVanish : List (List ℤ) → ℕ → List Rule → Type 0
RelatorsVanish relators count rules =
    (place : ℕ) (word : List ℤ) → place < count → slice_get relators place ≡ Some word → Descends rules word []

-- the limit that would have been passed
abbrev pub full_by : Settled → Option Passed
full_by Joined = None
full_by Added = None
full_by (Full passed) = Some passed
