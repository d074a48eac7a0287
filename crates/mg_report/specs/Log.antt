-- The texts of the facts of a log, and of the log itself. Facts, entries and generators count from 1.
use Rattle.std.specs.Prelude.{ℕ, ◌+◌, List, [], ◌∷◌, ◌++◌, map, codes}
use Rattle.std.specs.List.{flat_map, range_with_len}
use Rattle.std.specs.Fmt.{decimal}
use Rattle.mg_core.specs.declared.entries.Entry.{Entry}
use Rattle.mg_words.specs.declared.procedure.Procedure.{Procedure}
use Rattle.mg_certs.specs.Claim.{Model, Fact, settled, model_of}
use Rattle.mg_certtext.specs.Pieces.{line}
use Rattle.mg_certtext.specs.Models.{model_pieces}
use Rattle.mg_report.specs.Report.{group_text, ask_text, verdict_line, procedure_piece}

-- the texts of members that are numbered from a number on, one behind another
abbrev pub numbered : {X : Type 0} → (ℕ → X → List ℕ) → ℕ → List X → List ℕ
numbered text n [] = []
numbered text n (x ∷ xs) = text n x ++ numbered text (n + 1) xs

-- x1, x2 and so on
abbrev pub standard_names : ℕ → List (List ℕ)
standard_names generators = map (λ n. codes "x" ++ decimal n) (range_with_len 1 generators)

-- which fact it is, and of which kind
abbrev pub fact_line : ℕ → List ℕ → List ℕ
fact_line n kind = line (codes "fact") (decimal n ∷ kind ∷ [])

-- the line of a model, where the generators have these names in order
unfoldable pub model_line : List (List ℕ) → Model → List ℕ
model_line names model = line (codes "model") (model_pieces names model)

-- a fact: what is asked, with the verdict; or a group, with the model
abbrev pub fact_text : ℕ → Fact → List ℕ
fact_text n (settled ask verdict) =
    fact_line n (codes "settled") ++ ask_text (standard_names ask.group.generators) ask ++ verdict_line (standard_names ask.group.generators) verdict
fact_text n (model_of group model) = fact_line n (codes "model") ++ group_text (standard_names group.generators) group.relators ++ model_line (standard_names group.generators) model

-- all facts of a log
abbrev pub facts_text : List Fact → List ℕ
facts_text facts = line (codes "facts") [] ++ numbered fact_text 1 facts ++ line (codes "end") []

-- what became of a turn: it was kept with so many records, or dropped by the fact that is its verdict
pub data Fate : Type 0 where
  kept : (records : ℕ) → Fate
  dropped_by : (fact : ℕ) → Fate

-- what is printed of an entry
pub record EntryLine : Type 0 where
  pub pass : ℕ
  pub search : ℕ
  pub turn : ℕ
  pub units : ℕ
  pub fate : Fate

abbrev pub entry_line : Entry Fact → Fate → EntryLine
entry_line entry fate = record { pass = entry.pass; search = entry.search; turn = entry.turn; units = entry.units; fate = fate }

-- what is printed of all entries of a search: their units, and the question and procedure of the search
pub record SumLine : Type 0 where
  pub search : ℕ
  pub name : List ℕ
  pub procedure : Procedure
  pub units : ℕ

abbrev pub fate_pieces : Fate → List (List ℕ)
fate_pieces (kept records) = codes "kept" ∷ decimal records ∷ []
fate_pieces (dropped_by fact) = codes "dropped" ∷ codes "by" ∷ decimal fact ∷ []

-- which turn it was, and its units
abbrev pub turn_pieces : EntryLine → List (List ℕ)
turn_pieces entry = codes "pass" ∷ decimal entry.pass ∷ codes "search" ∷ decimal entry.search ∷ codes "turn" ∷ decimal entry.turn ∷ codes "units" ∷ decimal entry.units ∷ []

unfoldable pub entry_text : ℕ → EntryLine → List ℕ
entry_text n entry = line (codes "entry") (decimal n ∷ turn_pieces entry ++ fate_pieces entry.fate)

abbrev pub sum_text : SumLine → List ℕ
sum_text sum = line (codes "sum") (decimal sum.search ∷ sum.name ∷ procedure_piece sum.procedure ∷ codes "units" ∷ decimal sum.units ∷ [])

-- a whole log
abbrev pub log_text : List EntryLine → List SumLine → List ℕ
log_text entries sums = line (codes "log") [] ++ numbered entry_text 1 entries ++ flat_map sum_text sums ++ line (codes "end") []
