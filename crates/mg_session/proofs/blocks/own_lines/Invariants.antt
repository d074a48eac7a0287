use Rattle.std.proofs.Common.{◌≡◌, ◌++◌, map}
use Rattle.mg_report.specs.Values.{search_of}
use Rattle.mg_session.proofs.Shown.{own_from}
use Rattle.mg_session.proofs.blocks.own_lines.Given as goal

-- the lines so far, with those from the place on, are all
abbrev pub invariant-loop-place : goal.invariant-loop-place
invariant-loop-place l = map search_of l.lines ++ own_from l.question l.session.searches l.place ≡ own_from l.question l.session.searches 0
