-- The symbols that derivations of an Ask are written in, and their digits.
use Rattle.std.specs.Prelude.{ℕ, ℤ, pos, negsuc, ◌+◌, ◌-◌, ◌*◌, ◌≤◌, Bool, true, false, List, [], ◌∷◌, length, slice_index_or}
use Rattle.std.specs.List.{flat_map}
use Rattle.mg_words.specs.Letter.{IsLetterOf}
use Rattle.mg_present.specs.Ask.{Inquiry}
use Rattle.mg_present.specs.Same.{signed}
use Rattle.mg_derive.specs.declared.symbol.Symbol.{Symbol}
use Rattle.mg_derive.specs.declared.symbol.Symbol.TheVariants.{Letter, Relator, Member, Cut}

-- a place from 1 in a list
pub record IsPlaceIn (words : List (List ℤ)) (place : ℕ) : Type 0 where
  pub least : 1 ≤ place
  pub most : place ≤ length words

-- a letter of the group, a sign of one of its relators, a sign of one of the subgroup words, or the cut
abbrev pub IsSymbolOf : Inquiry → Symbol → Type 0
IsSymbolOf ask (Letter x) = IsLetterOf ask.group.generators x
IsSymbolOf ask (Relator place inverse) = IsPlaceIn ask.group.relators place
IsSymbolOf ask (Member place inverse) = IsPlaceIn ask.subgroup place
IsSymbolOf ask Cut = Unit {0}

-- how many symbols an Ask has
abbrev pub symbol_count : Inquiry → ℕ
symbol_count ask = 2 * ask.group.generators + 2 * length ask.group.relators + 2 * length ask.subgroup + 1

-- of two neighbouring digits the first, or the second for an inverse
abbrev pub pair_digit : ℕ → ℕ → Bool → ℕ
pair_digit before place false = before + 2 * place - 1
pair_digit before place true = before + 2 * place

-- the digit of a symbol: x1, x1^-1, x2 and so on, then the relator signs, the member signs and last the cut
abbrev pub digit_of : Inquiry → Symbol → ℕ
digit_of ask (Letter (pos place)) = pair_digit 0 place false
digit_of ask (Letter (negsuc n)) = pair_digit 0 (n + 1) true
digit_of ask (Relator place inverse) = pair_digit (2 * ask.group.generators) place inverse
digit_of ask (Member place inverse) = pair_digit (2 * ask.group.generators + 2 * length ask.group.relators) place inverse
digit_of ask Cut = symbol_count ask

-- the word that a symbol stands for: a sign its relator or subgroup word, inverted where it says so
abbrev pub word_of : Inquiry → Symbol → List ℤ
word_of ask (Letter x) = x ∷ []
word_of ask (Relator place inverse) = signed inverse (slice_index_or ask.group.relators (place - 1) [])
word_of ask (Member place inverse) = signed inverse (slice_index_or ask.subgroup (place - 1) [])
word_of ask Cut = []

-- a text with each sign replaced by its word
abbrev pub written_out : Inquiry → List Symbol → List ℤ
written_out ask text = flat_map (word_of ask) text

-- a letter as a word, and a sign as nothing
abbrev pub letter_of : Symbol → List ℤ
letter_of (Letter x) = x ∷ []
letter_of (Relator place inverse) = []
letter_of (Member place inverse) = []
letter_of Cut = []

-- the letters of a text alone
abbrev pub letters_alone : List Symbol → List ℤ
letters_alone text = flat_map letter_of text
