use Rattle.std.proofs.Common.{◌↔◌, drop}
use Rattle.std.specs.List.{AllByRecursion}
use Rattle.mg_words.specs.Word.{letters_of}
use Rattle.mg_present.specs.Ask.{IsReducedOver}
use Rattle.mg_fixtures.proofs.asks.are_reduced.Given as goal

-- whether all words are reduced depends on those that are left
abbrev pub invariant-loop-word : goal.invariant-loop-word
invariant-loop-word l = AllByRecursion (IsReducedOver l.generators) (letters_of (drop l.word-index l.words)) ↔ AllByRecursion (IsReducedOver l.generators) (letters_of l.words)
