-- How pairs of a question and a procedure are kept.
use Rattle.std.specs.Prelude.{◌≡◌, ℕ, false, ◌+◌, ◌*◌, ◌<◌, List, length, slice_index_or, if◌then◌else◌}
use Rattle.std.specs.List.{AllByRecursion}
use Rattle.mg_words.specs.declared.procedure.Procedure.{Procedure}
use Rattle.mg_words.specs.declared.procedure.Procedure.TheVariants as procedure
use Rattle.mg_names.specs.declared.searches.Searches.{Searches}
use Rattle.mg_names.specs.Meaning.{same_procedure, is_named}
use Rattle.mg_names.specs.Cause.{of_procedure}

abbrev pub number_of : Procedure → ℕ
number_of procedure.Derive = 0
number_of procedure.Act = 1
number_of procedure.Residue = 2
number_of procedure.Rewrite = 3
number_of procedure.Cosets = 4
number_of procedure.Nielsen = 5
number_of procedure.Recall = 6

-- the place of a pair: the procedures of the first question in order, then those of the next
abbrev pub place : ℕ → Procedure → ℕ
place question p = question * 7 + number_of p

-- one where the procedures are the same
abbrev pub one_of : Procedure → Procedure → ℕ
one_of this p = if same_procedure p this then 1 else 0

-- these are the pairs, of so many questions
pub record Holds (ss : List (ℕ × Procedure)) (n : ℕ) (s : Searches) : Type 0 where
  pub room : length s.named.items ≡ n * 7
  pub below : AllByRecursion (λ pair. pair.0 < n) ss
  pub each : (q : ℕ) (p : Procedure) → q < n → slice_index_or s.named.items (place q p) false ≡ is_named ss q p
  pub count : s.count ≡ length ss
  pub rewrites : s.rewrites ≡ of_procedure procedure.Rewrite ss
  pub cosets : s.cosets ≡ of_procedure procedure.Cosets ss
