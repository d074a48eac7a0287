use Rattle.mg_board.specs.Passes.{IsAlone}
use Rattle.mg_board.proofs.tests.commit_all.Given as goal

abbrev pub invariant-loop-turn : goal.invariant-loop-turn
invariant-loop-turn g l = IsAlone l.initial.board l.initial.n l.pass
