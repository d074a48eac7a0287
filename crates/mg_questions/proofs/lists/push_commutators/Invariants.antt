use Rattle.std.proofs.Common.{◌≡◌, ◌++◌, map, take}
use Rattle.mg_words.specs.Word.{commutator_of, letters_of}
use Rattle.mg_questions.proofs.lists.push_commutators.Given as goal

-- the commutators with the words before the place are appended
abbrev pub invariant-loop-v : goal.invariant-loop-v
invariant-loop-v l = l.words ≡ l.fn.words ++ map (commutator_of l.u.letters) (letters_of (take l.v-index l.vs))
