use Rattle.std.proofs.Common.{◌≡◌, ◌≤◌, ◌+◌, drop, length}
use Rattle.mg_turn.specs.declared.bounds.TheConstants.{MOST_LETTERS}
use Rattle.mg_derive.specs.Symbols.{written_out}
use Rattle.mg_nielsen.proofs.text.is_short_enough.Given as goal

-- the letters of the symbols before the place are counted
abbrev pub invariant-loop-symbol : goal.invariant-loop-symbol
invariant-loop-symbol l = record {
  within : l.letters ≤ MOST_LETTERS;
  counted : l.letters + length (written_out l.ask (drop l.symbol-index l.text)) ≡ length (written_out l.ask l.text);
}
