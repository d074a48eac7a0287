use Rattle.std.proofs.Common.{◌≡◌, ◌+◌, ◌≤◌, ◌∷◌, ◌++◌, drop}
use Rattle.std.specs.Prelude.{map}
use Rattle.mg_certtext.specs.Pieces.{spaced, Extends}
use Rattle.mg_certtext.specs.Words.{run_piece, runs_of}
use Rattle.mg_certtext.proofs.Runs.{more_runs}
use Rattle.mg_certtext.proofs.words.push_runs.Given as goal

-- what is written, with the run at hand in front of the runs of the rest, is the whole word's
abbrev pub invariant-loop-letter : goal.invariant-loop-letter
invariant-loop-letter l = record {
  few : l.count ≤ l.letter-index + 1;
  whole : l.out.items ++ spaced (map (run_piece l.names) (more_runs l.run l.count (runs_of (drop l.letter-index l.rest))))
      ≡ l.fn.out.items ++ spaced (map (run_piece l.names) (runs_of (l.fn.first ∷ l.rest)));
  behind : Extends l.fn.out.items l.out.items;
}
