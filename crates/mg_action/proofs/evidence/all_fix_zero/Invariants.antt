use Rattle.std.proofs.Common.{◌≡◌, ◌↔◌, length, drop}
use Rattle.std.specs.List.{AllByRecursion}
use Rattle.mg_words.specs.Word.{IsOver, letters_of}
use Rattle.mg_action.specs.Action.{image_of_zero}
use Rattle.mg_action.proofs.evidence.all_fix_zero.Given as goal

-- whether all words fix the point 0 depends on those that are left
abbrev pub invariant-loop-word : goal.invariant-loop-word
invariant-loop-word l =
    record {
      over : AllByRecursion (IsOver (length l.action.images)) (letters_of (drop l.word-index l.words));
      fixed : AllByRecursion (λ w. image_of_zero l.action w ≡ 0) (letters_of (drop l.word-index l.words)) ↔ AllByRecursion (λ w. image_of_zero l.action w ≡ 0) (letters_of l.words);
    }
