use Rattle.std.proofs.Common.{◌≡◌, ◌++◌, ◌≤◌, ◌+◌, List, length}
use Rattle.std.specs.Vec.{vec_len, vec_capacity}
use Rattle.mg_core.proofs.scan.put_records.Given as goal

-- those that are left and those that are put are all, and there is room for those that are left
abbrev pub invariant-loop-record : goal.invariant-loop-record
invariant-loop-record g l = record {
  put : (put : List g.row.R.Denot) × (l.facts.items ≡ l.fn.facts.items ++ put) × (l.records ++ put ≡ l.fn.records);
  behind : l.behind ≡ length l.fn.facts.items;
  room : vec_len l.facts + length l.records ≤ vec_capacity l.facts;
}

abbrev pub decreases-loop-record : goal.decreases-loop-record
decreases-loop-record g l = length l.records
