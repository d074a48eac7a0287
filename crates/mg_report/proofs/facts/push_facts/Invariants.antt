use Rattle.std.proofs.Common.{◌≡◌, ◌+◌, ◌++◌, drop}
use Rattle.std.specs.Prelude.{map}
use Rattle.mg_report.specs.Log.{numbered, fact_text}
use Rattle.mg_report.specs.Values.{fact_of}
use Rattle.mg_report.proofs.facts.push_facts.Given as goal

-- what is written, with the facts that are left, is all facts
abbrev pub invariant-loop-place : goal.invariant-loop-place
invariant-loop-place l = l.out.items ++ numbered fact_text (l.place + 1) (map fact_of (drop l.place l.facts)) ≡ l.fn.out.items ++ numbered fact_text 1 (map fact_of l.facts)
