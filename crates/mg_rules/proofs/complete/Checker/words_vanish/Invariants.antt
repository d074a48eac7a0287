use Rattle.std.proofs.Common.{◌↔◌, drop}
use Rattle.std.specs.List.{AllByRecursion}
use Rattle.mg_words.specs.Word.{letters_of}
use Rattle.mg_rules.specs.Checking.{Vanishes}
use Rattle.mg_rules.proofs.complete.Checker.words_vanish.Given as goal

-- whether all vanish depends on those that are left
abbrev pub invariant-loop-w : goal.invariant-loop-w
invariant-loop-w l = AllByRecursion (Vanishes l.rules) (letters_of (drop l.w-index l.words)) ↔ AllByRecursion (Vanishes l.rules) (letters_of l.words)
