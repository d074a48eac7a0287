use Rattle.std.proofs.Common.{sym, ◌∙◌, arith}
use Rattle.mg_certtext.proofs.Extended.{extends_on, extends_trans, extends_err, on_err}
use Rattle.mg_certtext.proofs.Runs.{goes_on_same, goes_on_other}
use Rattle.mg_certtext.proofs.words.push_runs.Goals as goal
use Rattle.mg_certtext.proofs.words.push_runs.Goals.{then-same, else-same+in_ok-push_run}

pub loop-letter-preserved : goal.loop-letter-preserved
loop-letter-preserved c =
    let at = c.loop-letter in
    elim c.if-same.branch [
      | then-same w ↦ record {
        few = omega arith;
        whole = rw (w.out-is, w.run-is, w.count-is) (sym (goes_on_same c.args.names.now at.out.items at.run c.letter-item.result at.count at.letter-index c.args.rest.now c.loop-letter-test.true c.letter-item.is (sym w.if-same.ensures)) ∙ at.invariant.whole);
        behind = rw w.out-is at.invariant.behind;
      }
      | else-same+in_ok-push_run w ↦ record {
        few = omega arith;
        whole = rw (w.out-is, w.run-is, w.count-is, w.in_ok-push_run.ensures.pushed) (sym (goes_on_other c.args.names.now at.out.items at.run c.letter-item.result at.count at.letter-index c.args.rest.now c.loop-letter-test.true c.letter-item.is (sym w.if-same.ensures)) ∙ at.invariant.whole);
        behind = rw w.out-is (extends_on _ _ _ _ at.invariant.behind w.in_ok-push_run.ensures.pushed);
      }
    ]

pub returns-in_err-push_run-clause-part : goal.returns-in_err-push_run-clause-part
returns-in_err-push_run-clause-part c = on_err _ (extends_trans _ _ _ c.loop-letter.invariant.behind c.in_err-push_run.ensures.part)

pub returns-clause-part : goal.returns-clause-part
returns-clause-part c = extends_err _ _ _ _ c.loop-letter.invariant.behind c.push_run-2.ensures.part
