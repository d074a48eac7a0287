use Rattle.std.proofs.Common.{◌≡◌, ◌++◌, take}
use Rattle.std.specs.Prelude.{map}
use Rattle.std.specs.List.{flat_map}
use Rattle.mg_report.specs.Log.{sum_text}
use Rattle.mg_report.specs.Values.{sum_of}
use Rattle.mg_report.proofs.log.push_sums.Given as goal

abbrev pub invariant-loop-sum : goal.invariant-loop-sum
invariant-loop-sum l = l.out.items ≡ l.fn.out.items ++ flat_map sum_text (map sum_of (take l.sum-index l.sums))
