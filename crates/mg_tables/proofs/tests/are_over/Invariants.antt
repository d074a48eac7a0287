use Rattle.std.specs.Prelude.{drop}
use Rattle.std.specs.List.{AllByRecursion}
use Rattle.mg_words.specs.Word.{IsOver, letters_of}
use Rattle.mg_tables.proofs.tests.are_over.Given as goal

abbrev pub invariant-loop-w : goal.invariant-loop-w
invariant-loop-w l = AllByRecursion (IsOver l.generators) (letters_of (drop l.w-index l.words)) → AllByRecursion (IsOver l.generators) (letters_of l.words)
