use Rattle.std.proofs.Common.{ℕ, ◌<◌, ◌≤◌, [], map, length}
use Rattle.std.specs.Prelude.{slice_index_or}
use Rattle.mg_words.specs.Word.{letters_of}
use Rattle.mg_present.specs.Image.{image_of}
use Rattle.mg_questions.specs.declared.question.TheConstants.{MOST_GOAL_LETTERS}
use Rattle.mg_questions.proofs.limits.too_long.Given as goal

-- the images of the words before the place are short
abbrev pub invariant-loop-place : goal.invariant-loop-place
invariant-loop-place l = (k : ℕ) → k < l.place → length (slice_index_or (map (image_of l.map) (letters_of l.words)) k []) ≤ MOST_GOAL_LETTERS
