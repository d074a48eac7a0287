use Rattle.std.proofs.Common.{length}
use Rattle.mg_words.specs.Word.{IsOver}
use Rattle.mg_present.specs.Image.{image_of}
use Rattle.mg_questions.proofs.Forms.{letters_at, made_forms_next}
use Rattle.mg_questions.proofs.lists.images.Goals as goal

pub image-requires : goal.image-requires
image-requires c =
    letters_at (IsOver (length c.args.map.now)) c.args.words.now c.loop-word.word-index c.word-item.result
    (record { within = c.loop-word-test.true; is = c.word-item.is }) c.requires

pub loop-word-preserved : goal.loop-word-preserved
loop-word-preserved c =
    made_forms_next (image_of c.args.map.now) c.args.words.now c.loop-word.word-index c.word-item.result c.loop-word.goals c.push.new.self c.in_ok-image.field-0.letters
    (record { within = c.loop-word-test.true; is = c.word-item.is }) c.loop-word.invariant c.in_ok-image.ensures c.in_ok-push.ensures.ok
