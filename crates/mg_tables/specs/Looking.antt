-- Which rows are still to be looked at: each cut of a relator that forces passes through one of them.
use Rattle.std.specs.Prelude.{◌≡◌, ℕ, ◌*◌, ℤ, neg_ℤ, List, [], ◌∷◌, ◌++◌, take, drop, Option, Some, None, ◌⊎◌, slice_get}
use Rattle.std.specs.Option.{option_and_then}
use Rattle.mg_words.specs.Letter.{IsLetterOf}
use Rattle.mg_words.specs.Word.{inv}
use Rattle.mg_present.specs.Presentation.{Group}
use Rattle.mg_tables.specs.Table.{column, row_after}
use Rattle.mg_tables.specs.Force.{Cut, ForcesRows, ForcesLetter, ForcesJoining, ForcesEntry}
use Rattle.mg_tables.specs.Gaps.{Places, Stands, number, packed, cell_at}
use Rattle.mg_tables.specs.Cells.{places_of}
use Rattle.mg_tables.specs.Scan.{ForcesNothing}
use Rattle.mg_tables.specs.declared.look.Found.{Found}
use Rattle.mg_tables.specs.declared.look.Found.TheVariants as found

-- one of the rows
abbrev pub In : ℕ → List ℕ → Type 0
In c [] = ⊥
In c (d ∷ ds) = (c ≡ d) ⊎ In c ds

-- the place to which a word leads
abbrev pub place_after : Places → ℕ → List ℤ → Option ℕ
place_after ps c [] = Some c
place_after ps c (x ∷ w) = option_and_then (λ d. place_after ps d w) (cell_at ps c (column x))

-- the way of a word passes through one of the rows
abbrev pub Passes : List ℕ → Places → ℕ → List ℤ → Type 0
Passes rows ps c [] = In c rows
Passes rows ps c (x ∷ w) = In c rows ⊎ ((d : ℕ) × (cell_at ps c (column x) ≡ Some d) × Passes rows ps d w)

-- each cut of a relator that forces passes through one of the rows
pub record IsCovered (relators : List (List ℤ)) (ps : Places) (rows : List ℕ) : Type 0 where
  pub joinings : (k r p q : ℕ) (u v : List ℤ) → slice_get relators k ≡ Some (u ++ v) → Stands ps r →
      place_after ps r u ≡ Some p → place_after ps r (inv v) ≡ Some q → (p ≡ q → ⊥) → Passes rows ps r u ⊎ Passes rows ps r (inv v)
  pub entries : (k r p q : ℕ) (x : ℤ) (u v : List ℤ) → slice_get relators k ≡ Some (u ++ x ∷ v) → Stands ps r →
      place_after ps r u ≡ Some p → place_after ps r (inv v) ≡ Some q → cell_at ps p (column x) ≡ None → cell_at ps q (column (neg_ℤ x)) ≡ None →
      Passes rows ps r u ⊎ Passes rows ps r (inv v)

-- rows are new, and entries of rows that still stand are away, and entries are new, only at the given rows
pub record Changes (generators : ℕ) (old new : Places) (rows : List ℕ) : Type 0 where
  pub stood : (c : ℕ) → Stands new c → Stands old c ⊎ In c rows
  pub kept : (c d : ℕ) (x : ℤ) → IsLetterOf generators x → Stands new c → cell_at old c (column x) ≡ Some d → (e : ℕ) × (cell_at new c (column x) ≡ Some e)
  pub told : (c i d : ℕ) → cell_at new c i ≡ Some d → (cell_at old c i ≡ Some d) ⊎ (In c rows ⊎ In d rows)

-- so many numbers are changed, and the rows that have got entries stand on the list
pub record Touched (m n : ℕ) (old new : List ℕ) (before after : List ℕ) : Type 0 where
  pub more : (c : ℕ) → In c before → In c after
  pub told : (c i d : ℕ) → cell_at (places_of (2 * m) n new) c i ≡ Some d → (cell_at (places_of (2 * m) n old) c i ≡ Some d) ⊎ (In c after ⊎ In d after)

-- a cut of the word at the row forces this
abbrev pub IsFoundIn : Places → ℕ → List ℤ → Found → Type 0
IsFoundIn ps row w (found.Rows a b) =
    Stands ps a × Stands ps b × (u v : List ℤ) × (w ≡ u ++ v) × ForcesRows (packed ps) (number ps row) u v (number ps a) (number ps b)
IsFoundIn ps row w (found.Entry e) =
    Stands ps e.from × Stands ps e.to × (u v : List ℤ) × (w ≡ u ++ e.letter ∷ v) ×
    ForcesLetter (packed ps) (number ps row) u e.letter v (number ps e.from) (number ps e.to)

-- some cut forces this
abbrev pub IsFound : Group → List (List ℤ) → Places → Found → Type 0
IsFound group subgroup ps (found.Rows a b) =
    Stands ps a × Stands ps b × (cut : Cut) × ForcesJoining group subgroup (packed ps) cut (number ps a) (number ps b)
IsFound group subgroup ps (found.Entry e) =
    Stands ps e.from × Stands ps e.to × IsLetterOf group.generators e.letter × (cut : Cut) ×
    ForcesEntry group subgroup (packed ps) cut (number ps e.from) e.letter (number ps e.to)

-- the word forces nothing at a row from which its way passes through the row, from the front or from the back
abbrev pub IsQuiet : Places → ℕ → List ℤ → Type 0
IsQuiet ps row w = (u v : List ℤ) (r : ℕ) → w ≡ u ++ v → Stands ps r →
    (row_after (packed ps) (number ps r) u ≡ Some (number ps row)) ⊎ (row_after (packed ps) (number ps r) (inv v) ≡ Some (number ps row)) →
    ForcesNothing (packed ps) (number ps r) w

-- the same at one place of the word
abbrev pub IsQuietAt : Places → ℕ → List ℤ → ℕ → Type 0
IsQuietAt ps row w place = (r : ℕ) → Stands ps r →
    (row_after (packed ps) (number ps r) (take place w) ≡ Some (number ps row)) ⊎ (row_after (packed ps) (number ps r) (inv (drop place w)) ≡ Some (number ps row)) →
    ForcesNothing (packed ps) (number ps r) w

-- no relator forces anything through the row
abbrev pub AreQuiet : List (List ℤ) → Places → ℕ → Type 0
AreQuiet relators ps row = (k : ℕ) (w : List ℤ) → slice_get relators k ≡ Some w → IsQuiet ps row w

-- the subgroup words force nothing at row 0
abbrev pub MembersForceNothing : List (List ℤ) → Places → Type 0
MembersForceNothing subgroup ps = (k : ℕ) (w : List ℤ) → slice_get subgroup k ≡ Some w → ForcesNothing (packed ps) 0 w
