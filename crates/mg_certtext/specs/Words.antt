-- The pieces of words, where the generators have these names in order.
use Rattle.std.specs.Prelude.{ℕ, ◌+◌, ◌-◌, ◌==◌, ℤ, pos, negsuc, nat_abs, List, [], ◌∷◌, ◌++◌, map, codes, slice_index_or, if◌then◌else◌}
use Rattle.std.specs.Ordering.{int_eq}
use Rattle.std.specs.Fmt.{decimal}
use Rattle.mg_certtext.specs.Pieces.{listed}

-- a letter in front of runs, which joins the first of them where that is of the same letter
abbrev pub onto_runs : ℤ → List (ℤ × ℕ) → List (ℤ × ℕ)
onto_runs x [] = (x, 1) ∷ []
onto_runs x (run ∷ runs) = if int_eq x run.0 then (x, run.1 + 1) ∷ runs else (x, 1) ∷ run ∷ runs

-- the maximal runs of one letter in a word: the letter, and how often it stands there
abbrev pub runs_of : List ℤ → List (ℤ × ℕ)
runs_of [] = []
runs_of (x ∷ w) = onto_runs x (runs_of w)

-- the name of a letter's generator
abbrev pub name_of : List (List ℕ) → ℤ → List ℕ
name_of names x = slice_index_or names (nat_abs x - 1) []

-- the exponent of a run: nothing for a single generator, and a negative number for an inverse
abbrev pub exponent : ℤ → ℕ → List ℕ
exponent (pos place) n = if n == 1 then [] else codes "^" ++ decimal n
exponent (negsuc k) n = codes "^-" ++ decimal n

abbrev pub run_piece : List (List ℕ) → ℤ × ℕ → List ℕ
run_piece names run = name_of names run.0 ++ exponent run.0 run.1

-- a word as runs; the empty word is 1
abbrev pub word_pieces : List (List ℕ) → List ℤ → List (List ℕ)
word_pieces names [] = codes "1" ∷ []
word_pieces names (x ∷ w) = map (run_piece names) (runs_of (x ∷ w))

-- words in a list
abbrev pub words_pieces : List (List ℕ) → List (List ℤ) → List (List ℕ)
words_pieces names words = listed (map (word_pieces names) words)

-- generators in a list
abbrev pub names_pieces : List (List ℕ) → List (List ℕ)
names_pieces names = listed (map (λ name. name ∷ []) names)
