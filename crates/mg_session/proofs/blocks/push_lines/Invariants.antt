use Rattle.std.proofs.Common.{◌≡◌, ◌++◌, map, take}
use Rattle.std.specs.Prelude.{filter}
use Rattle.mg_report.specs.Values.{search_of}
use Rattle.mg_session.specs.Output.{procedure_place}
use Rattle.mg_session.proofs.Shown.{by_place}
use Rattle.mg_session.proofs.blocks.push_lines.Given as goal

abbrev pub invariant-loop-line : goal.invariant-loop-line
invariant-loop-line l = map search_of l.lines ≡ map search_of l.fn.lines ++ filter (by_place (procedure_place l.procedure)) (map search_of (take l.line-index l.own))
