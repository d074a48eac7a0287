use Rattle.std.proofs.Common.{◌≤◌, length}
use Rattle.std.specs.List.{AllByRecursion}
use Rattle.mg_present.specs.Ask.{IsReducedOver}
use Rattle.mg_present.specs.Presentation.{IsRelator}
use Rattle.mg_action.proofs.tests.words.Given as goal

abbrev pub invariant-loop-list : goal.invariant-loop-list
invariant-loop-list l = record {
  relators : AllByRecursion (IsRelator l.generators) l.words;
  members : AllByRecursion (IsReducedOver l.generators) l.words;
  count : length l.words ≤ l.list-index;
}
