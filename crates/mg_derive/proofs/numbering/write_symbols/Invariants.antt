use Rattle.std.proofs.Common.{◌≡◌, ◌≤◌, map, take}
use Rattle.std.specs.List.{AllByRecursion}
use Rattle.mg_derive.specs.Symbols.{IsSymbolOf, digit_of}
use Rattle.mg_derive.proofs.numbering.write_symbols.Given as goal

abbrev pub invariant-loop-digit : goal.invariant-loop-digit
invariant-loop-digit l = record {
  symbols : AllByRecursion (IsSymbolOf l.ask) l.out.symbols;
  digits_done : map (digit_of l.ask) l.out.symbols ≡ take l.digit-index l.digits;
  capacity : l.initial.out.capacity ≤ l.out.capacity;
}
