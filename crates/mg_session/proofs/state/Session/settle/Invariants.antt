use Rattle.mg_session.proofs.Phasing.{Settling}
use Rattle.mg_session.proofs.state.Session.settle.Given as goal

abbrev pub invariant-loop-place : goal.invariant-loop-place
invariant-loop-place l = Settling l.fn.self l.place l.place-end l.self
