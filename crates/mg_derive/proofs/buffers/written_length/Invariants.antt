use Rattle.std.proofs.Common.{◌≡◌, ◌+◌, length, drop}
use Rattle.mg_derive.specs.Symbols.{written_out}
use Rattle.mg_derive.proofs.buffers.written_length.Given as goal

abbrev pub invariant-loop-symbol : goal.invariant-loop-symbol
invariant-loop-symbol l = l.count + length (written_out l.ask (drop l.symbol-index l.symbols)) ≡ length (written_out l.ask l.symbols)
