use Rattle.mg_session.proofs.Phasing.{Allowing}
use Rattle.mg_session.proofs.state.Session.allow.Given as goal

abbrev pub invariant-loop-place : goal.invariant-loop-place
invariant-loop-place l = Allowing l.fn.self l.bound l.place l.place-end l.self
