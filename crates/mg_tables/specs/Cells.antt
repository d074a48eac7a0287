-- How a table with gaps is kept: as numbers in one list, row after row. 0 is an empty entry, and d + 1 one that
-- leads to the place d. A number from GONE on in the first column says that the row is gone.
use Rattle.std.specs.Prelude.{◌≡◌, ℕ, zero, suc, ◌*◌, ◌≤◌, List, [], ◌∷◌, length, map, get_or, take, drop, Option, Some, None, cond, leb}
use Rattle.mg_tables.specs.Table.{Row}
use Rattle.mg_tables.specs.Gaps.{Places, Gapped, IsGapped}
use Rattle.mg_tables.specs.declared.table.TheConstants.{GONE, MOST_PLACES}
use Rattle.mg_present.specs.declared.presentation.TheConstants.{MOST_GENERATORS}

abbrev pub cell : ℕ → Option ℕ
cell zero = None
cell (suc d) = Some d

abbrev pub row_of : List ℕ → Option Row
row_of cells = cond (leb GONE (get_or cells 0 0)) None (Some (map cell cells))

-- the first n rows of so many numbers
abbrev pub places_of : ℕ → ℕ → List ℕ → Places
places_of width zero cells = []
places_of width (suc n) cells = row_of (take width cells) ∷ places_of width n (drop width cells)

-- what contracts see of so many numbers
abbrev pub seen : ℕ → ℕ → List ℕ → Gapped
seen generators n cells = record { generators = generators; places = places_of (2 * generators) n cells }

-- what holds of every table
pub record IsKept (generators n : ℕ) (cells : List ℕ) : Type 0 where
  pub some : 1 ≤ generators
  pub few : generators ≤ MOST_GENERATORS
  pub size : length cells ≡ n * (2 * generators)
  pub most : n ≤ MOST_PLACES
  pub gapped : IsGapped generators (places_of (2 * generators) n cells)
