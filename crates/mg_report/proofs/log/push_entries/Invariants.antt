use Rattle.std.proofs.Common.{◌≡◌, ◌+◌, ◌++◌, drop}
use Rattle.std.specs.Prelude.{map}
use Rattle.mg_report.specs.Log.{numbered, entry_text}
use Rattle.mg_report.specs.Values.{entry_of}
use Rattle.mg_report.proofs.log.push_entries.Given as goal

-- what is written, with the entries that are left, is all entries
abbrev pub invariant-loop-place : goal.invariant-loop-place
invariant-loop-place l = l.out.items ++ numbered entry_text (l.place + 1) (map entry_of (drop l.place l.entries)) ≡ l.fn.out.items ++ numbered entry_text 1 (map entry_of l.entries)
