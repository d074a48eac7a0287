use Rattle.std.proofs.Common.{◌≡◌, ◌↔◌, length, drop}
use Rattle.std.specs.List.{AllByRecursion}
use Rattle.mg_words.specs.Word.{IsOver, letters_of}
use Rattle.mg_action.specs.Permutation.{identity}
use Rattle.mg_action.specs.Action.{perm_of_word}
use Rattle.mg_action.proofs.evidence.all_fix_each_point.Given as goal

-- whether all words fix each point depends on those that are left
abbrev pub invariant-loop-word : goal.invariant-loop-word
invariant-loop-word l =
    record {
      over : AllByRecursion (IsOver (length l.action.images)) (letters_of (drop l.word-index l.words));
      fixed : AllByRecursion (λ w. perm_of_word l.action w ≡ identity l.action.degree) (letters_of (drop l.word-index l.words)) ↔ AllByRecursion (λ w. perm_of_word l.action w ≡ identity l.action.degree) (letters_of l.words);
    }
