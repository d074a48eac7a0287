use Rattle.std.proofs.Common.{ℕ, ℤ, ◌<◌, List, get_or, drop}
use Rattle.std.specs.List.{AllByRecursion}
use Rattle.mg_words.specs.Word.{IsOver, letters_of}
use Rattle.mg_cyclic.specs.Exponents.{VanishesWith}
use Rattle.mg_cyclic.proofs.exponents.content_of.Given as goal

-- the number divides the exponent sums of the words so far
abbrev pub invariant-loop-word : goal.invariant-loop-word
invariant-loop-word l = record {
  over : AllByRecursion (IsOver l.generators) (letters_of (drop l.word-index l.words));
  each : (k : ℕ) (e : List ℤ) → k < l.word-index → VanishesWith l.generators l.content (get_or (letters_of l.words) k e);
}
