use Rattle.std.proofs.Common.{◌+◌, ◌≤◌, [], false, length, drop}
use Rattle.std.specs.Prelude.{◌↔◌}
use Rattle.mg_words.specs.Word.{IsReduced}
use Rattle.mg_derive.specs.Symbols.{letters_alone, written_out}
use Rattle.mg_derive.specs.Reading.{Runs}
use Rattle.mg_derive.proofs.checker.read.Given as goal

abbrev pub invariant-loop-symbol : goal.invariant-loop-symbol
invariant-loop-symbol l = record {
  runs : Runs l.ask (drop l.symbol-index l.text) (drop l.stand.goal l.ask.goals) l.stand.members l.letters.letters l.written.letters ↔ Runs l.ask l.text l.ask.goals false [] [];
  goal : l.stand.goal ≤ length l.ask.goals;
  letters_reduced : IsReduced l.letters.letters;
  written_reduced : IsReduced l.written.letters;
  letters_room : length l.letters.letters + length (letters_alone (drop l.symbol-index l.text)) ≤ l.letters.capacity;
  written_room : length l.written.letters + length (written_out l.ask (drop l.symbol-index l.text)) ≤ l.written.capacity;
  letters_kept : l.initial.letters.capacity ≤ l.letters.capacity;
  written_kept : l.initial.written.capacity ≤ l.written.capacity;
}
