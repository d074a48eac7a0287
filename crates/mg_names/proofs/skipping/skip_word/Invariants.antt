use Rattle.std.proofs.Common.{◌≡◌, ◌+◌, ◌≤◌, length}
use Rattle.mg_names.proofs.Skips.{skipped}
use Rattle.mg_names.proofs.skipping.skip_word.Given as goal

abbrev pub invariant-loop-step : goal.invariant-loop-step
invariant-loop-step l = record {
  same : skipped l.depth l.cursor ≡ skipped 0 l.fn.cursor;
  few : l.depth ≤ l._step;
  left : length l.cursor + l._step ≡ length l.fn.cursor;
}
