-- One worker that goes round its searches.
use Rattle.std.specs.Prelude.{◌≡◌, ℕ, ◌+◌, ◌≤◌, ◌^◌, Bool, true, false, List, map}
use Rattle.mg_core.specs.declared.entries.Entry.{Entry}
use Rattle.mg_core.specs.Recording.{Recording}
use Rattle.mg_turn.specs.Turn.{Searching}
use Rattle.mg_workers.specs.declared.held.Held.{Held}
use Rattle.mg_workers.specs.Run.{Row, Running, Runs, Finished}
use Rattle.mg_workers.specs.Rows.{EachPair}

-- a search as a run holds it, whether or not it has left and looked
abbrev pub row_of : {S : Type 0} → Bool → Bool → Held S → Row S
row_of left looked search = record {
  search = search.search;
  number = search.number;
  held = search.held;
  spent = search.spent;
  allowed = search.allowed;
  turns = search.turns;
  read = search.read;
  end = search.end;
  left = left;
  looked = looked;
}

-- searches as they come into a run
abbrev pub entered : {R S : Type 0} → List (Held S) → List (Entry R) → Running R S
entered searches log = record { rows = map (row_of false false) searches; log = log }

-- Of a row that may take turns: it spends no more than it holds, its units are those that the search counts, no more
-- than 2^62 in all, and where it hasn't left and may spend some, the search is open.
pub record IsFit {R K G S : Type 0} (searching : Searching R K G S) (row : Row S) : Type 0 where
  pub within : row.allowed ≤ row.held
  pub counted : searching.spent row.search ≡ row.spent
  pub in_all : row.spent + row.held ≤ 2 ^ 62
  pub openness : row.left ≡ false → 1 ≤ row.allowed → searching.is_open row.search ≡ true

-- a run of one worker with a policy comes from these searches and this log to the other log
abbrev pub ComesTo : {R K G S : Type 0} → Recording R K G → Searching R K G S → (ℕ → ℕ → ℕ → ℕ → Type 0) → List (Entry R) → Running R S → List (Entry R) → Type 0
ComesTo {R} {K} {G} {S} recording searching IsSize begin old log =
    (rows : List (Row S)) × Runs recording searching 1 IsSize begin old (record { rows = rows; log = log })

-- a finished run of one worker with a policy, from these searches and this log to those: each search keeps its cell
pub record GoesRound {R K G S : Type 0} (recording : Recording R K G) (searching : Searching R K G S) (IsSize : ℕ → ℕ → ℕ → ℕ → Type 0) (searches : List (Held S)) (log : List (Entry R)) (after : List (Held S)) (log_after : List (Entry R)) : Type 0 where
  pub last : Running R S
  pub runs : Runs recording searching 1 IsSize log (entered searches log) last
  pub finished : Finished last
  pub log_is : last.log ≡ log_after
  pub rows_are : EachPair (λ (row : Row S) search. row ≡ row_of row.left row.looked search) last.rows after
  pub cells : map (λ (search : Held S). search.cell) after ≡ map (λ search. search.cell) searches
