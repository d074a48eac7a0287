use Rattle.std.proofs.Common.{take}
use Rattle.mg_names.proofs.Led.{IsLedTo}
use Rattle.mg_names.proofs.resolving.resolve.Given as goal

abbrev pub invariant-loop-line : goal.invariant-loop-line
invariant-loop-line l = IsLedTo (take l.line-index l.lines) l.resolver
