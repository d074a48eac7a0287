use Rattle.std.proofs.Common.{◌+◌, arith}
use Rattle.mg_lex.proofs.Numbers.{digit_at, number_value-more, number_value-grows}
use Rattle.mg_lex.proofs.number.value_of.Goals as goal

pub loop-digit-preserved : goal.loop-digit-preserved
loop-digit-preserved c = omega (arith, number_value-more c.args.digits.now c.loop-digit.digit-index c.requires c.loop-digit-test.true, digit_at c.args.digits.now c.loop-digit.digit-index c.requires c.loop-digit-test.true)

pub returns-then-value-clause-none : goal.returns-then-value-clause-none
returns-then-value-clause-none c =
    omega (arith, number_value-more c.args.digits.now c.loop-digit.digit-index c.requires c.loop-digit-test.true, digit_at c.args.digits.now c.loop-digit.digit-index c.requires c.loop-digit-test.true, number_value-grows c.args.digits.now (c.loop-digit.digit-index + 1))
