use Rattle.std.proofs.Common.{◌≡◌, ◌≤◌, ◌++◌, take}
use Rattle.mg_words.specs.Reduction.{free_form}
use Rattle.mg_derive.proofs.checker.write_word.Given as goal

abbrev pub invariant-loop-letter : goal.invariant-loop-letter
invariant-loop-letter l = record {
  done : l.written.letters ≡ free_form (l.initial.written.letters ++ take l.letter-index l.word);
  room : l.initial.written.capacity ≤ l.written.capacity;
}
