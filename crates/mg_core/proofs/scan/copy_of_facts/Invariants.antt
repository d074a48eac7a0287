use Rattle.std.proofs.Common.{◌≡◌, take}
use Rattle.mg_core.proofs.scan.copy_of_facts.Given as goal

abbrev pub invariant-loop-fact : goal.invariant-loop-fact
invariant-loop-fact g l = l.copies.items ≡ take l.fact-index l.facts
