use Rattle.std.proofs.Common.{◌≡◌, [], drop}
use Rattle.std.specs.List.{AllByRecursion}
use Rattle.mg_words.specs.Word.{letters_of}
use Rattle.mg_action.proofs.evidence.has_letters.Given as goal

abbrev pub invariant-loop-word : goal.invariant-loop-word
invariant-loop-word l = AllByRecursion (λ w. w ≡ []) (letters_of (drop l.word-index l.words)) → AllByRecursion (λ w. w ≡ []) (letters_of l.words)
