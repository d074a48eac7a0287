use Rattle.std.proofs.Common.{◌↔◌, drop}
use Rattle.std.specs.List.{AllByRecursion}
use Rattle.mg_words.specs.Word.{letters_of}
use Rattle.mg_present.specs.Presentation.{IsRelator}
use Rattle.mg_present.proofs.presentation.are_relators.Given as goal

-- whether all words may be relators depends on those that are left
abbrev pub invariant-loop-w : goal.invariant-loop-w
invariant-loop-w l = AllByRecursion (IsRelator l.generators) (letters_of (drop l.w-index l.words)) ↔ AllByRecursion (IsRelator l.generators) (letters_of l.words)
