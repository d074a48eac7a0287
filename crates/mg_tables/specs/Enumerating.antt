-- An enumeration of cosets on its way.
use Rattle.std.specs.Prelude.{◌≡◌, ℕ, suc, ◌+◌, ◌*◌, ◌<◌, ◌≤◌, ℤ, pos, List, [], ◌∷◌, length, Option, Some, None, slice_index}
use Rattle.std.specs.List.{AllByRecursion}
use Rattle.mg_words.specs.Letter.{IsLetterOf}
use Rattle.mg_words.specs.Word.{IsOver}
use Rattle.mg_present.specs.Presentation.{Group, IsPresented}
use Rattle.mg_tables.specs.Force.{IsStable}
use Rattle.mg_tables.specs.Looking.{IsFound}
use Rattle.mg_tables.specs.declared.look.Found.TheVariants as found
use Rattle.mg_tables.specs.declared.deduce.Turn.{Turn}
use Rattle.mg_tables.specs.declared.deduce.Turn.TheVariants as turn
use Rattle.mg_tables.specs.Table.{Row, Table, column, entry, first_table, IsComplete}
use Rattle.mg_tables.specs.Gaps.{Places, Gapped, Stands, number, packed, cell_at}
use Rattle.mg_tables.specs.Enumeration.{Leads, Enumerated, IsFirstEmpty}
use Rattle.mg_tables.specs.declared.spot.Spot.{Spot}

-- what contracts see of an enumeration: of which group and subgroup words, how many rows were made, and the table
pub record Enumeration : Type 0 where
  pub group : Group
  pub subgroup : List (List ℤ)
  pub units : ℕ
  pub table : Table

-- some list of tables leads from the table of one row to this one
abbrev pub Reached : Group → List (List ℤ) → ℕ → Table → Type 0
Reached group subgroup made table = (tables : List Table) × Leads group subgroup (first_table group.generators) tables made table

-- no entry at a place before this one is empty
abbrev pub IsFullBefore : ℕ → Places → ℕ → Type 0
IsFullBefore generators ps row = (c : ℕ) (x : ℤ) → IsLetterOf generators x → c < row → Stands ps c → (d : ℕ) × (cell_at ps c (column x) ≡ Some d)

-- the letter of the first empty entry of a row, if one is
abbrev pub IsGapOf : ℕ → Places → ℕ → Option ℤ → Type 0
IsGapOf generators ps row None = Stands ps row → (x : ℤ) → IsLetterOf generators x → (d : ℕ) × (cell_at ps row (column x) ≡ Some d)
IsGapOf generators ps row (Some x) = Stands ps row × IsLetterOf generators x × (cell_at ps row (column x) ≡ None) ×
    ((y : ℤ) → IsLetterOf generators y → column y < column x → (d : ℕ) × (cell_at ps row (column y) ≡ Some d))

-- where the first empty entry is, if one is
abbrev pub IsSpot : ℕ → Places → Option Spot → Type 0
IsSpot generators ps None = IsComplete generators (packed ps)
IsSpot generators ps (Some spot) =
    Stands ps spot.row × IsLetterOf generators spot.letter × IsFullBefore generators ps spot.row × IsFirstEmpty generators (packed ps) (number ps spot.row) spot.letter

-- rows that stand stood, and none of their entries is away
abbrev pub Lasts : ℕ → Places → Places → Type 0
Lasts generators old new = (c : ℕ) → Stands new c → Stands old c ×
    ((d : ℕ) (x : ℤ) → IsLetterOf generators x → cell_at old c (column x) ≡ Some d → (e : ℕ) × (cell_at new c (column x) ≡ Some e))

-- by what is forced one table leads to another, in which no more rows stand
pub record Deduced (group : Group) (subgroup : List (List ℤ)) (old new : Gapped) : Type 0 where
  pub generators : new.generators ≡ old.generators
  pub few : length (packed new.places) ≤ length (packed old.places)
  pub reached : (made : ℕ) → Reached group subgroup made (packed old.places) → Reached group subgroup made (packed new.places)
  pub lasts : Lasts old.generators old.places new.places

-- how many entries of a row are empty
abbrev pub empties_in : Row → ℕ
empties_in [] = 0
empties_in (None ∷ row) = suc (empties_in row)
empties_in (Some d ∷ row) = empties_in row

-- how many entries are empty
abbrev pub empties : Table → ℕ
empties [] = 0
empties (row ∷ table) = empties_in row + empties table

-- how much is left to do before rows are joined
abbrev pub left_to_set : Gapped → List ℕ → ℕ
left_to_set table rows = 2 * empties (packed table.places) + length rows

-- what came of a look
abbrev pub IsTurn : Group → List (List ℤ) → Gapped → List ℕ → Gapped → List ℕ → Turn → Type 0
IsTurn group subgroup old before new after turn.On = left_to_set new after < left_to_set old before
IsTurn group subgroup old before new after (turn.Join pair) = IsFound group subgroup new.places (found.Rows pair.left pair.right)
IsTurn group subgroup old before new after turn.Done = IsStable group subgroup (packed new.places)

-- what holds of every enumeration
pub record IsEnumeration (group : Group) (subgroup : List (List ℤ)) (units : ℕ) (table : Gapped) (rows : ℕ) (spot : Option Spot) : Type 0 where
  pub some : 1 ≤ group.generators
  pub presented : IsPresented group
  pub over : AllByRecursion (IsOver group.generators) subgroup
  pub generators : table.generators ≡ group.generators
  pub count : rows ≡ length (packed table.places)
  pub spotted : IsSpot group.generators table.places spot
  pub enumerated : Enumerated group subgroup units (packed table.places)

-- the numbers of the places
pub record AreNumbers (ps : Places) (numbers : List ℕ) : Type 0 where
  pub count : length numbers ≡ length ps
  pub at : (c : ℕ) → c < length ps → slice_index numbers c ≡ number ps c

-- the rows to which a letter leads from the rows before a place stand at the end of the list
pub record Imaging (ps : Places) (x : ℤ) (before after : List ℕ) (place : ℕ) : Type 0 where
  pub count : length after ≡ length before + number ps place
  pub kept : (i : ℕ) → i < length before → slice_index after i ≡ slice_index before i
  pub made : (c : ℕ) → c < place → Stands ps c → (d : ℕ) × (cell_at ps c (column x) ≡ Some d) × (slice_index after (length before + number ps c) ≡ number ps d)

-- the rows to which the generators lead, generator after generator, from each row
pub record AreImages (generators : ℕ) (table : Table) (images : List ℕ) : Type 0 where
  pub count : length images ≡ generators * length table
  pub at : (g c : ℕ) → g < generators → c < length table → entry table c (pos (suc g)) ≡ Some (slice_index images (g * length table + c))
