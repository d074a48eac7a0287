use Rattle.std.proofs.Common.{◌≡◌, ◌+◌, ◌≤◌, length, drop}
use Rattle.mg_derive.specs.Symbols.{letters_alone}
use Rattle.mg_derive.proofs.buffers.letter_count.Given as goal

abbrev pub invariant-loop-symbol : goal.invariant-loop-symbol
invariant-loop-symbol l = record {
  within : l.count ≤ l.symbol-index;
  counted : l.count + length (letters_alone (drop l.symbol-index l.symbols)) ≡ length (letters_alone l.symbols);
}
