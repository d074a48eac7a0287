-- The states of Nielsen reduction, and its units: elementary steps and peelings (Lyndon and Schupp, I.2).
use Rattle.std.specs.Prelude.{◌≡◌, ◌≢◌, ℕ, zero, suc, ◌+◌, ◌*◌, ◌^◌, ◌<◌, ◌≤◌, ◌⊎◌, ℤ, Bool, true, false, List, [], ◌∷◌, ◌++◌, map, length, sum_by, set, slice_index_or}
use Rattle.std.specs.List.{AllByRecursion}
use Rattle.mg_turn.specs.declared.bounds.TheConstants.{MOST_SYMBOLS}
use Rattle.mg_words.specs.Word.{inv}
use Rattle.mg_words.specs.Reduction.{free_form}
use Rattle.mg_present.specs.Ask.{Inquiry, IsAsked}
use Rattle.mg_present.specs.Same.{Lies}
use Rattle.mg_nielsen.specs.Expressed.{Expressed, empty, turned, times, IsExpressed, AreRests}

-- a search: the members of the tuple, a rest for each goal, the units spent, and whether it goes on
pub record Nielsen : Type 0 where
  pub ask : Inquiry
  pub members : List Expressed
  pub rests : List Expressed
  pub spent : ℕ
  pub is_open : Bool

abbrev pub words_of : List Expressed → List (List ℤ)
words_of members = map (λ e. e.word) members

abbrev pub letters_in : List Expressed → ℕ
letters_in list = sum_by (λ e. length e.word) list

abbrev pub signs_in : List Expressed → ℕ
signs_in list = sum_by (λ e. length e.signs) list

-- the letters of the members and the rests
abbrev pub letters_left : Nielsen → ℕ
letters_left s = letters_in s.members + letters_in s.rests

-- the signs of all lists together
abbrev pub signs_held : Nielsen → ℕ
signs_held s = signs_in s.members + signs_in s.rests

-- the letters of the subgroup words and the goals
abbrev pub letters_at_start : Inquiry → ℕ
letters_at_start ask = sum_by (λ w. length w) ask.subgroup + sum_by (λ w. length w) ask.goals

abbrev pub member_at : List Expressed → ℕ → Expressed
member_at list place = slice_index_or list place empty

-- the member times a factor, or the factor times the member
abbrev pub on_side : (left : Bool) → Expressed → Expressed → Expressed
on_side false member factor = times member factor
on_side true member factor = times factor member

-- a member that is empty needs no signs: it is dropped, though its place stays
abbrev pub trim : List ℤ → List ℤ → Expressed
trim [] signs = empty
trim (x ∷ word) signs = record { word = x ∷ word; signs = signs }

abbrev pub trimmed : Expressed → Expressed
trimmed e = trim e.word e.signs

-- a member times another one or its inverse, on either side
abbrev pub stepped : List Expressed → (place other : ℕ) (inverse left : Bool) → Expressed
stepped members place other inverse left = on_side left (member_at members place) (turned inverse (member_at members other))

-- an elementary step: a member is replaced by a shorter product with another one
pub record Steps (before after : Nielsen) : Type 0 where
  pub place : ℕ
  pub other : ℕ
  pub inverse : Bool
  pub left : Bool
  pub there : place < length before.members
  pub other_there : other < length before.members
  pub apart : other ≢ place
  pub shorter : length (stepped before.members place other inverse left).word < length (member_at before.members place).word
  pub after_it : after ≡ record before { members = set before.members place (trimmed (stepped before.members place other inverse left)); spent = before.spent + 1 }

-- a member or the inverse of one
pub record IsSingle (members : List Expressed) (p : Expressed) : Type 0 where
  pub place : ℕ
  pub inverse : Bool
  pub there : place < length members
  pub is : p ≡ turned inverse (member_at members place)

-- what a goal is peeled by: a member, the inverse of one, or a product of two such
pub data IsFactor (members : List Expressed) (p : Expressed) : Type 0 where
  one : IsSingle members p → IsFactor members p
  two : (a b : Expressed) → IsSingle members a → IsSingle members b → p ≡ times a b → IsFactor members p

-- a rest multiplied on the left by the inverse of a factor, whose signs are put behind those of the rest
abbrev pub peeled : Expressed → Expressed → Expressed
peeled p rest = record { word = free_form (inv p.word ++ rest.word); signs = free_form (rest.signs ++ p.signs) }

-- a peeling: a rest becomes shorter
pub record Peels (before after : Nielsen) : Type 0 where
  pub goal : ℕ
  pub factor : Expressed
  pub there : goal < length before.rests
  pub is_factor : IsFactor before.members factor
  pub shorter : length (peeled factor (member_at before.rests goal)).word < length (member_at before.rests goal).word
  pub after_it : after ≡ record before { rests = set before.rests goal (peeled factor (member_at before.rests goal)); spent = before.spent + 1 }

-- one unit
abbrev pub Moves : Nielsen → Nielsen → Type 0
Moves before after = Steps before after ⊎ Peels before after

-- so many units lead from one state to another, none of them past the limit of signs
abbrev pub Reaches : ℕ → Nielsen → Nielsen → Type 0
Reaches zero first last = last ≡ first
Reaches (suc n) first last = (between : Nielsen) × Reaches n first between × Moves between last × (signs_held last ≤ MOST_SYMBOLS)

-- no elementary step shortens a member, and no peeling shortens a rest
pub record NothingShortens (s : Nielsen) : Type 0 where
  pub no_step : (place other : ℕ) (inverse left : Bool) → place < length s.members → other < length s.members → other ≢ place
      → length (member_at s.members place).word ≤ length (stepped s.members place other inverse left).word
  pub no_peeling : (goal : ℕ) (p : Expressed) → goal < length s.rests → IsFactor s.members p
      → length (member_at s.rests goal).word ≤ length (peeled p (member_at s.rests goal)).word

-- what a state keeps
pub record IsKept (s : Nielsen) : Type 0 where
  pub asked : IsAsked s.ask
  pub free : s.ask.group.relators ≡ []
  pub members : AllByRecursion (IsExpressed s.ask.subgroup) s.members
  pub generate : AllByRecursion (Lies s.ask.group (words_of s.members)) s.ask.subgroup
  pub rests : AreRests s.ask.subgroup s.rests s.ask.goals
  pub most : signs_held s ≤ MOST_SYMBOLS
  pub growth : signs_held s ≤ length s.ask.subgroup * 3 ^ s.spent
  pub lengths : s.spent + letters_left s ≤ letters_at_start s.ask
