use Rattle.std.proofs.Common.{◌≤◌, ◌-◌}
use Rattle.mg_rules.specs.Checking.{LettersVanish}
use Rattle.mg_rules.proofs.complete.Checker.letters_vanish.Given as goal

-- the letters of the generators up to here vanish
abbrev pub invariant-loop-generator : goal.invariant-loop-generator
invariant-loop-generator l = record {
  within : l.generator ≤ l.generators;
  vanish : LettersVanish l.rules l.generator;
}

abbrev pub decreases-loop-generator : goal.decreases-loop-generator
decreases-loop-generator l = l.generators - l.generator
