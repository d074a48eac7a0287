use Rattle.std.proofs.Common.{[], length, get_or, ap, arith}
use borrow.Author.Count.{below_more}
use Rattle.mg_questions.specs.Asking.{IsGiven}
use Rattle.mg_questions.proofs.Forms.{letters_at}
use Rattle.mg_questions.proofs.Bounds.{IsShort, images_of, image_at, first_long, all_short}
use Rattle.mg_questions.proofs.limits.too_long.Goals as goal

given : (c : goal.After-index-words-place) → IsGiven (length c.args.map.now) c.index-words-place.result.letters
given c =
    letters_at (IsGiven (length c.args.map.now)) c.args.words.now c.loop-place.place c.index-words-place.result
    (record { within = c.loop-place-test.true; is = c.index-words-place.is }) c.requires.words

pub image_length-length-requires-clause-there : goal.image_length-length-requires-clause-there
image_length-length-requires-clause-there c = (given c).over

pub image_length-length-requires-clause-short : goal.image_length-length-requires-clause-short
image_length-length-requires-clause-short c = (given c).short

pub returns-then-length-gt-MOST_GOAL_LETTERS : goal.returns-then-length-gt-MOST_GOAL_LETTERS
returns-then-length-gt-MOST_GOAL_LETTERS c =
    first_long c.args.map.now c.args.words.now c.loop-place.place c.index-words-place.result c.image_length-length.result c.requires.count
    (record { within = c.loop-place-test.true; is = c.index-words-place.is }) c.image_length-length.ensures c.if-length-gt-MOST_GOAL_LETTERS.true c.loop-place.invariant

pub loop-place-preserved : goal.loop-place-preserved
loop-place-preserved c =
    below_more (λ k. IsShort (get_or (images_of c.args.map.now c.args.words.now) k [])) c.loop-place.place c.loop-place.invariant
    (omega (arith, c.image_length-length.ensures, c.if-length-gt-MOST_GOAL_LETTERS.false, ap length (image_at c.args.map.now c.args.words.now c.loop-place.place c.index-words-place.result (record { within = c.loop-place-test.true; is = c.index-words-place.is }))))

pub returns : goal.returns
returns c = all_short c.args.map.now c.args.words.now c.loop-place.place c.requires.count c.loop-place-test.false c.loop-place.invariant
