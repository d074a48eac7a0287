use Rattle.std.proofs.Common.{◌≡◌, map, take}
use Rattle.mg_report.specs.Values.{fact_of}
use Rattle.mg_session.proofs.facts.fact_blocks.Given as goal

abbrev pub invariant-loop-claim : goal.invariant-loop-claim
invariant-loop-claim l = map fact_of l.blocks.items ≡ take l.claim-index l.claims
