use Rattle.std.proofs.Common.{map, take}
use Rattle.std.specs.List.{AllZip}
use Rattle.mg_words.specs.Word.{letters_of}
use Rattle.mg_words.specs.Reduction.{IsFormOf}
use Rattle.mg_present.specs.Image.{image_of}
use Rattle.mg_questions.proofs.lists.images.Given as goal

-- the images of the words before the place are there
abbrev pub invariant-loop-word : goal.invariant-loop-word
invariant-loop-word l = AllZip IsFormOf (map (image_of l.map) (letters_of (take l.word-index l.words))) l.goals
