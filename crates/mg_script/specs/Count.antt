-- What is counted in a script.
use Rattle.std.specs.Prelude.{◌≡◌, ℕ, ◌+◌, ◌≤◌, ◌==◌, Bool, false, Option, Some, None, List, [], ◌∷◌, filter, length}
use Rattle.mg_present.specs.declared.presentation.TheConstants.{MOST_GENERATORS, MOST_RELATORS}
use Rattle.mg_present.specs.declared.ask.TheConstants.{MOST_SUBGROUP_WORDS}
use Rattle.mg_terms.specs.declared.limits.TheConstants.{WORD_LIMIT}
use Rattle.mg_terms.specs.Event.{AreWithin, word_events}
use Rattle.mg_terms.specs.Word.{Word, word_letters}
use Rattle.mg_script.specs.declared.counted.Counted.{Counted}
use Rattle.mg_script.specs.declared.counted.Counted.TheVariants as counted
use Rattle.mg_script.specs.declared.counted.Counts.{Counts}
use Rattle.mg_script.specs.declared.counted.TheConstants.{LETTER_LIMIT, MOST_GROUPS, MOST_WORDS, MOST_SUBGROUPS, MOST_MAPS, MOST_QUESTIONS, MOST_REPORTS}
use Rattle.mg_script.specs.Statement.{Piece, sign, term}

-- how many there may be
abbrev pub limit_of : Counted → ℕ
limit_of counted.Groups = MOST_GROUPS
limit_of counted.Words = MOST_WORDS
limit_of counted.Subgroups = MOST_SUBGROUPS
limit_of counted.Maps = MOST_MAPS
limit_of counted.Questions = MOST_QUESTIONS
limit_of counted.Generators = MOST_GENERATORS
limit_of counted.Relators = MOST_RELATORS
limit_of counted.Members = MOST_SUBGROUP_WORDS
limit_of counted.Reports = MOST_REPORTS

abbrev pub count_of : Counts → Counted → ℕ
count_of c counted.Groups = c.groups
count_of c counted.Words = c.words
count_of c counted.Subgroups = c.subgroups
count_of c counted.Maps = c.maps
count_of c counted.Questions = c.questions
count_of c counted.Generators = c.generators
count_of c counted.Relators = c.relators
count_of c counted.Members = c.members
count_of c counted.Reports = c.reports

abbrev pub counted_number : Counted → ℕ
counted_number counted.Groups = 0
counted_number counted.Words = 1
counted_number counted.Subgroups = 2
counted_number counted.Maps = 3
counted_number counted.Questions = 4
counted_number counted.Generators = 5
counted_number counted.Relators = 6
counted_number counted.Members = 7
counted_number counted.Reports = 8

-- the piece is counted as this
abbrev pub is_one : Counted → Option Counted → Bool
is_one k None = false
is_one k (Some j) = counted_number k == counted_number j

abbrev pub is_counted : Counted → Piece → Bool
is_counted k (sign kind x) = is_one k kind
is_counted k (term kind left w) = is_one k kind

abbrev pub how_many : Counted → List Piece → ℕ
how_many k ps = length (filter (is_counted k) ps)

-- the letters of the words among pieces, written out
abbrev pub piece_letters : Piece → ℕ
piece_letters (sign kind x) = 0
piece_letters (term kind left w) = word_letters w

abbrev pub letters_in : List Piece → ℕ
letters_in [] = 0
letters_in (p ∷ ps) = piece_letters p + letters_in ps

-- the counts with those of some pieces
pub record Adds (ps : List Piece) (before after : Counts) : Type 0 where
  pub counted : (k : Counted) → count_of after k ≡ count_of before k + how_many k ps
  pub letters : after.letters ≡ before.letters + letters_in ps

-- the counts are within their limits
pub record AreWithinLimits (c : Counts) : Type 0 where
  pub counted : (k : Counted) → count_of c k ≤ limit_of k
  pub letters : c.letters ≤ LETTER_LIMIT

-- a word within the limits of words, with the word on the left side of its equation
abbrev pub left_letters : Option Word → ℕ
left_letters None = 0
left_letters (Some u) = word_letters u

pub record IsBoundedTerm (left : Option Word) (w : Word) : Type 0 where
  pub within : AreWithin (word_events 0 0 w)
  pub relation : left_letters left + word_letters w ≤ WORD_LIMIT

abbrev pub IsBounded : Piece → Type 0
IsBounded (sign kind x) = Unit {0}
IsBounded (term kind left w) = IsBoundedTerm left w
