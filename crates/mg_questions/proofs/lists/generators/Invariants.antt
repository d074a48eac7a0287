use Rattle.std.proofs.Common.{◌≡◌}
use Rattle.mg_questions.specs.Goals.{generators}
use Rattle.mg_questions.proofs.lists.generators.Given as goal

-- the generators before the place are there
abbrev pub invariant-loop-place : goal.invariant-loop-place
invariant-loop-place l = l.words ≡ generators l.place
