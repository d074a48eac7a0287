use Rattle.std.proofs.Common.{◌≡◌, ◌++◌, List, length, map}
use Rattle.mg_core.specs.declared.entries.Entry.{Entry}
use Rattle.mg_workers.specs.Rows.{EachPair}
use Rattle.mg_certs.specs.Claim.{Fact}
use Rattle.mg_report.specs.Values.{entry_of}
use Rattle.mg_session.specs.Output.{IsEntryLine}
use Rattle.mg_session.proofs.entries.entry_lines.Given as goal

-- the entries that came, which with those to come are the log, have their lines
abbrev pub invariant-loop-entry : goal.invariant-loop-entry
invariant-loop-entry l = (past : List (Entry Fact)) × (l.session.log ≡ past ++ l.entries) × EachPair (IsEntryLine l.session) past (map entry_of l.lines.items)

abbrev pub decreases-loop-entry : goal.decreases-loop-entry
decreases-loop-entry l = length l.entries
