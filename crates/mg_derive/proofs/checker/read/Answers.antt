use Rattle.std.proofs.Common.{length, ap, ◌∙◌, arith}
use Rattle.std.specs.Prelude.{◌==◌}
use Rattle.mg_derive.proofs.Steps.{refused_here, finished}
use Rattle.mg_derive.proofs.Standings.{runs_on, letters_split, written_split}
use Rattle.mg_derive.proofs.checker.read.Goals as goal

pub loop-symbol-preserved : goal.loop-symbol-preserved
loop-symbol-preserved c =
    let ask = c.args.ask.now in
    let text = c.args.text.now in
    let i = c.loop-symbol.symbol-index in
    let symbol = c.symbol-item.result in
    let taken = c.in-Some.ensures in
    let letters = letters_split text i symbol (omega arith) c.symbol-item.is in
    let written = written_split ask text i symbol (omega arith) c.symbol-item.is in
    record {
      runs = runs_on ask text i symbol _ _ _ (omega arith) c.symbol-item.is c.loop-symbol.invariant.letters_reduced taken.taken c.loop-symbol.invariant.runs;
      goal = taken.goal;
      letters_reduced = taken.letters_reduced;
      written_reduced = taken.written_reduced;
      letters_room = omega (arith, letters, taken.letters, taken.letters_room, c.loop-symbol.invariant.letters_room);
      written_room = omega (arith, written, taken.written, taken.written_room, c.loop-symbol.invariant.written_room);
      letters_kept = omega (arith, taken.letters_room, c.loop-symbol.invariant.letters_kept);
      written_kept = omega (arith, taken.written_room, c.loop-symbol.invariant.written_kept);
    }

pub returns-in-None-clause-accepted : goal.returns-in-None-clause-accepted
returns-in-None-clause-accepted c =
    refused_here c.args.ask.now c.args.text.now c.loop-symbol.symbol-index c.symbol-item.result _ _ _ _ c.goals.ensures.fits (omega arith) c.symbol-item.is c.loop-symbol.invariant.runs
    c.in-None.ensures.refused

pub returns-clause-accepted : goal.returns-clause-accepted
returns-clause-accepted c =
    finished c.args.ask.now c.args.text.now c.loop-symbol.symbol-index c.loop-symbol.stand.goal _ _ _ _ c.goals.ensures.fits c.loop-symbol.invariant.goal (omega arith)
    (ap (λ n. c.loop-symbol.stand.goal == n) (c.len-goals.ensures ∙ ap length c.goals.ensures.value)) c.loop-symbol.invariant.runs
