use Rattle.std.proofs.Common.{◌≡◌, length}
use Rattle.mg_recall.specs.Recall.{NoneRefutes}
use Rattle.mg_recall.proofs.reading.read.Given as goal

abbrev pub invariant-loop-place : goal.invariant-loop-place
invariant-loop-place l = record {
  all : l.place-end ≡ length l.facts;
  none : NoneRefutes l.ask l.facts l.place;
}
