-- What runs do to rows and to logs.
use Rattle.std.specs.Prelude.{◌≡◌, ◌≢◌, ℕ, ◌+◌, ◌-◌, ◌≤◌, ◌==◌, true, Option, Some, List, [], ◌∷◌, insert, if◌then◌else◌}
use Rattle.std.specs.List.{AllByRecursion}
use Rattle.mg_core.specs.declared.entries.Entry.{Entry}
use Rattle.mg_turn.specs.Turn.{Searching}
use Rattle.mg_workers.specs.Run.{Row, Running}

-- two lists of one length, whose members are related place by place
abbrev pub EachPair : {X Y : Type 0} → (X → Y → Type 0) → List X → List Y → Type 0
EachPair Related [] [] = Unit {0}
EachPair Related [] (y ∷ ys) = ⊥
EachPair Related (x ∷ xs) [] = ⊥
EachPair Related (x ∷ xs) (y ∷ ys) = Related x y × EachPair Related xs ys

-- what stays of a row: whose search it is, the units that it holds and has spent together, and those that it
-- holds beyond the allowed ones; a row that has left stays whole
pub record Keeps {R K G S : Type 0} (searching : Searching R K G S) (row after : Row S) : Type 0 where
  pub number : after.number ≡ row.number
  pub key : searching.key after.search ≡ searching.key row.search
  pub group : searching.group after.search ≡ searching.group row.search
  pub balance : after.held + after.spent ≡ row.held + row.spent
  pub kept_back : after.held - after.allowed ≡ row.held - row.allowed
  pub within : after.allowed ≤ after.held
  pub rises : row.spent ≤ after.spent
  pub counted : searching.spent row.search ≡ row.spent → searching.spent after.search ≡ after.spent
  pub stays_left : row.left ≡ true → after ≡ row

-- no row may spend more than it holds
abbrev pub AreFunded : {S : Type 0} → List (Row S) → Type 0
AreFunded rows = AllByRecursion (λ row. row.allowed ≤ row.held) rows

-- no two rows have the same number
abbrev pub AreApart : {S : Type 0} → List (Row S) → Type 0
AreApart [] = Unit {0}
AreApart (row ∷ rows) = AllByRecursion (λ other. row.number ≢ other.number) rows × AreApart rows

-- the entries of each row's search are asked for its key
abbrev pub AreAsked : {R K G S : Type 0} → Searching R K G S → (Entry R → Option K) → List (Row S) → Type 0
AreAsked {R} searching asks rows = AllByRecursion (λ row. (entry : Entry R) → entry.search ≡ row.number → asks entry ≡ Some (searching.key row.search)) rows

-- the units of the entries of a search
abbrev pub units_of : {R : Type 0} → ℕ → List (Entry R) → ℕ
units_of number [] = 0
units_of number (entry ∷ log) = (if entry.search == number then entry.units else 0) + units_of number log

-- how many entries a search has
abbrev pub entries_of : {R : Type 0} → ℕ → List (Entry R) → ℕ
entries_of number [] = 0
entries_of number (entry ∷ log) = (if entry.search == number then 1 else 0) + entries_of number log

-- the units that rows have spent
abbrev pub total_spent : {S : Type 0} → List (Row S) → ℕ
total_spent [] = 0
total_spent (row ∷ rows) = row.spent + total_spent rows

-- a run with one row more, at a place
abbrev pub with_row : {R S : Type 0} → ℕ → Row S → Running R S → Running R S
with_row place row running = record { rows = insert running.rows place row; log = running.log }
