use Rattle.std.proofs.Common.{◌≡◌, take}
use Rattle.mg_lex.specs.Number.{number_value}
use Rattle.mg_lex.proofs.number.value_of.Given as goal

abbrev pub invariant-loop-digit : goal.invariant-loop-digit
invariant-loop-digit l = l.value ≡ number_value (take l.digit-index l.digits)
