use Rattle.std.proofs.Common.{◌∙◌}
use Rattle.mg_session.proofs.Shown.{own_pushed, own_left}
use Rattle.mg_session.proofs.blocks.own_lines.Goals as goal
use Rattle.mg_session.proofs.blocks.own_lines.Goals.{then-question+in_ok-push, else-question}

pub loop-place-preserved : goal.loop-place-preserved
loop-place-preserved c =
    let at = c.loop-place in
    let state = c.args.session.now in
    elim c.if-question.branch [
      | then-question+in_ok-push w ↦
          own_pushed c.args.question c.question.result state at.place at.lines c.if-question.lines w.line.result (w.lines-is ∙ w.in_ok-push.ensures.ok) w.if-question.true c.question.ensures w.line.ensures ∙ at.invariant
      | else-question w ↦
          own_left c.args.question c.question.result state at.place at.lines c.if-question.lines w.lines-is w.if-question.false c.question.ensures ∙ at.invariant
    ]
