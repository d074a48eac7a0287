use Rattle.std.proofs.Common.{◌≡◌, take, length}
use Rattle.mg_workers.specs.Rows.{EachPair}
use Rattle.mg_session.specs.At.{once}
use Rattle.mg_session.proofs.Phasing.{Taking}
use Rattle.mg_session.proofs.state.Session.those_that_run.Given as goal

-- it is known of the first which take part
abbrev pub invariant-loop-place : goal.invariant-loop-place
invariant-loop-place l = EachPair (Taking once l.self) (take l.place l.self.searches) l.runs.items × (l.place-end ≡ length l.self.searches)
