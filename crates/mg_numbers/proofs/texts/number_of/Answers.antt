use Rattle.std.proofs.Common.{◌≡◌, ◌+◌, ◌*◌, arith, get_or, take}
use Rattle.mg_numbers.specs.Texts.{value, IsDigit}
use Rattle.mg_numbers.proofs.TextsValues.{digit_at}
use Rattle.mg_numbers.proofs.TextsSteps.{value-take_more, value_of_front}
use Rattle.mg_numbers.proofs.texts.number_of.Goals as goal

pub returns-then-longer-from-clause-none : goal.returns-then-longer-from-clause-none
returns-then-longer-from-clause-none c =
    let base = c.args.base in
    let xs = c.args.digits.now in
    let i = c.loop-digit.digit-index in
    let product : c.from.result * c.from-in-loop-digit.result ≡ value base (take i xs) * base = cc (c.loop-digit.invariant.0) in
    let digit : IsDigit base (get_or xs i 0) = digit_at base xs i c.requires (omega arith) in
    omega (arith, product, value-take_more base xs i (omega arith), value_of_front base (i + 1) xs (omega (arith, digit.least, digit.most)))

pub loop-digit-preserved : goal.loop-digit-preserved
loop-digit-preserved c =
    let base = c.args.base in
    let xs = c.args.digits.now in
    let i = c.loop-digit.digit-index in
    let product : c.from.result * c.from-in-loop-digit.result ≡ value base (take i xs) * base = cc (c.loop-digit.invariant.0) in
    (omega (arith, product, value-take_more base xs i (omega arith)), omega arith)
