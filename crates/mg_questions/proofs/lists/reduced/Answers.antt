use Rattle.mg_questions.proofs.Forms.{forms_next}
use Rattle.mg_questions.proofs.lists.reduced.Goals as goal

pub loop-word-preserved : goal.loop-word-preserved
loop-word-preserved c =
    forms_next c.args.words.now c.loop-word.word-index c.word-item.result c.loop-word.goals c.push.new.self c.in_ok-reduce.field-0.letters
    (record { within = c.loop-word-test.true; is = c.word-item.is }) c.loop-word.invariant
    (record { reduced = c.in_ok-reduce.ensures.reduced; over = c.in_ok-reduce.ensures.over; equal = c.in_ok-reduce.ensures.equal }) c.in_ok-push.ensures.ok
