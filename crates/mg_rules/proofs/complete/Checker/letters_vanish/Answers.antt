use Rattle.std.proofs.Common.{◌≡◌, ◌+◌, true, false, refl, arith, pos}
use Rattle.mg_rules.proofs.Checks.{inverse_vanishes}
use Rattle.mg_rules.proofs.complete.Checker.letters_vanish.Goals as goal

pub returns-then-not-branch-2 : goal.returns-then-not-branch-2
returns-then-not-branch-2 c = (
  λ (t : false ≡ true). absurd cc,
  λ h. (let passes : c.in_ok-vanishes-2.field-0 ≡ true = c.in_ok-vanishes-2.ensures.1
      (inverse_vanishes c.args.rules.now c.args.generators (c.loop-generator.generator + 1) (pos (c.loop-generator.generator + 1)) c.inverted-in-loop-generator.result h (omega arith) (omega (arith, c.from.ensures)) refl c.inverted-in-loop-generator.ensures) in
      let fails : c.in_ok-vanishes-2.field-0 ≡ false = c.if-not-branch-2.true in cc),
)
