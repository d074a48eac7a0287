use Rattle.std.proofs.Common.{◌≡◌, ℕ, ◌<◌, [], length, replicate, get_or, drop}
use Rattle.std.specs.Prelude.{slice_index_or}
use Rattle.std.specs.List.{AllByRecursion}
use Rattle.mg_words.specs.Word.{IsOver, letters_of}
use Rattle.mg_cyclic.specs.Kept.{IsKept}
use Rattle.mg_cyclic.specs.declared.kept.Kept.{Kept}
use Rattle.mg_cyclic.proofs.Sums.{tuple}
use Rattle.mg_cyclic.proofs.kept.kept_of.Given as goal

abbrev pub invariant-loop-word : goal.invariant-loop-word
invariant-loop-word l = record {
  over : AllByRecursion (IsOver l.generators) (letters_of (drop l.word-index l.words));
  count : length l.rows.items ≡ l.word-index;
  each : (k : ℕ) → (row : Kept) → k < l.word-index → IsKept (tuple 2 (replicate l.generators 0)) (slice_index_or (letters_of l.words) k []) (get_or l.rows.items k row);
}
