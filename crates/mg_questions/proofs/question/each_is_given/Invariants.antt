use Rattle.std.proofs.Common.{◌↔◌, drop}
use Rattle.std.specs.List.{AllByRecursion}
use Rattle.mg_words.specs.Word.{letters_of}
use Rattle.mg_questions.specs.Asking.{IsGiven}
use Rattle.mg_questions.proofs.question.each_is_given.Given as goal

-- whether each word is given depends on those that are left
abbrev pub invariant-loop-w : goal.invariant-loop-w
invariant-loop-w l = AllByRecursion (IsGiven l.generators) (letters_of (drop l.w-index l.words)) ↔ AllByRecursion (IsGiven l.generators) (letters_of l.words)
