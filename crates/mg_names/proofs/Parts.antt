-- Reading factors and bases.
use Rattle.std.proofs.Common.{◌≡◌, ◌≢◌, ℕ, zero, suc, ◌*◌, ◌≤◌, ◌==◌, ℤ, Bool, true, false, Result, Ok, Err, IfOk, Option, Some, List, [], ◌∷◌, ◌++◌, length, drop, refl, sym, ap, subst, ◌∙◌, append_assoc, arith}
use Rattle.std.proofs.lemmas.List.{nil_from_length}
use Rattle.std.proofs.lemmas.Bool.Decides.{Decides-eqb}
use Rattle.mg_lex.specs.declared.mark.Mark.TheVariants as mark
use Rattle.mg_terms.specs.declared.lexeme.Lexeme.{Lexeme}
use Rattle.mg_terms.specs.declared.lexeme.Lexeme.TheVariants as lexeme
use Rattle.mg_terms.specs.Word.{base_letters}
use Rattle.mg_words.specs.Word.{Held, times as repeated, power_of, commutator_of}
use Rattle.mg_words.specs.declared.operations.WordFault.{WordFault}
use Rattle.mg_words.specs.declared.limits.TheConstants.{MOST_POWER_LETTERS}
use Rattle.mg_names.specs.declared.home.Home.{Home}
use Rattle.mg_names.specs.declared.words.Exponent.{Exponent}
use Rattle.mg_names.specs.Named.{Named, Base, named, one, round, commutator, Factor, bare, power, Word, base_names, factor_names, word_names, plain_base}
use Rattle.mg_names.specs.Cause.{Shown, not_a_letter}
use Rattle.mg_names.specs.Meaning.{signed, letter_at, base_written, factor_written, written}
use Rattle.mg_names.specs.Scope.{generator_place}
use Rattle.mg_names.specs.Sign.{Sign, a_name, the_mark, the_number, minus_signs, first_lexeme, Stops, base_signs, factor_signs, word_signs}
use Rattle.mg_names.specs.Least.{Gets}
use Rattle.mg_names.specs.Reads.{IsRead, BaseFits, FactorFits, IsNotTooLong, StartsWithoutCaret}
use Rattle.mg_names.proofs.Leasts.{gets_none, gets_one, gets_more}
use Rattle.mg_names.proofs.Tails.{base_first, base_begins}
use Rattle.mg_names.proofs.Lengths.{base_length}

pub ok_more : {A E : Type 0} {P Q : A → Type 0} (r : Result A E) → ((a : A) → P a → Q a) → IfOk r P → IfOk r Q
ok_more (Ok a) f h = f a h
ok_more (Err e) f h = tt

-- what the call for a base brings
abbrev pub ReadsBase : Home → List Sign → Option Shown → Held → List Sign → Option Shown → Type 0
ReadsBase home old before word left after =
    (b : Base) (rest : List Sign) → old ≡ base_signs b ++ rest → IsRead home (base_names b) (base_written home.generators.now b) rest before word left after

-- what a base brings, and that it doesn't fail, as facts about a base and what stands behind it
abbrev pub BaseIsRead : Home → Option Shown → Held → List Sign → Option Shown → Base → List Sign → Type 0
BaseIsRead home before word left after b rest = IsRead home (base_names b) (base_written home.generators.now b) rest before word left after

abbrev pub BaseRead : Home → Option Shown → Result Held WordFault → List Sign → Option Shown → Base → List Sign → Type 0
BaseRead home before r left after b rest = IfOk r (λ v. BaseIsRead home before v left after b rest)

abbrev pub BaseNotLong : Result Held WordFault → Base → List Sign → Type 0
BaseNotLong r b rest = BaseFits b → IsNotTooLong r

-- what stands behind the base of a power
abbrev pub behind_base : Bool → ℕ → List Sign → List Sign
behind_base negative n rest = the_mark mark.Caret ∷ (minus_signs negative ++ the_number n ∷ rest)

power_ahead : (b : Base) (negative : Bool) (n : ℕ) (rest : List Sign) → factor_signs (power b negative n) ++ rest ≡ base_signs b ++ behind_base negative n rest
power_ahead b negative n rest = simp append_assoc

module _ (home : Home) (old : List Sign) (before : Option Shown) (root : Held) (mid : List Sign) (after : Option Shown) (reads : ReadsBase home old before root mid after) where
  pub without_caret : first_lexeme mid ≢ Some (lexeme.Mark mark.Caret) → (f : Factor) (rest : List Sign) → old ≡ factor_signs f ++ rest →
      IsRead home (factor_names f) (factor_written home.generators.now f) rest before root mid after
  without_caret none (bare b) rest e = reads b rest e
  without_caret none (power b negative n) rest e =
      let first = reads b (behind_base negative n rest) (e ∙ power_ahead b negative n rest) in
      absurd (none (ap first_lexeme first.rest_is))

  module _ (skipped new : List Sign) (exponent : Exponent) (word : Held) (caret : first_lexeme mid ≡ Some (lexeme.Mark mark.Caret)) (skip : skipped ≡ drop 1 mid)
      (raises : (negative : Bool) (n : ℕ) (rest : List Sign) → skipped ≡ minus_signs negative ++ the_number n ∷ rest → (exponent ≡ record { negative = negative; size = n }) × (new ≡ rest)) where
    abbrev PowerIs : Type 0
    PowerIs = word.letters ≡ power_of (signed exponent.negative exponent.size) root.letters

    pub with_caret : PowerIs → (f : Factor) (rest : List Sign) → old ≡ factor_signs f ++ rest → StartsWithoutCaret rest →
        IsRead home (factor_names f) (factor_written home.generators.now f) rest before word new after
    with_caret is (bare b) rest e h =
        let first = reads b rest e in
        absurd (h (ap first_lexeme (sym first.rest_is) ∙ caret))
    with_caret is (power b negative n) rest e h =
        let first = reads b (behind_base negative n rest) (e ∙ power_ahead b negative n rest) in
        let after_it = raises negative n rest (skip ∙ ap (drop 1) first.rest_is) in
        record {
          letters_are =
              is ∙ (ap (λ (x : Exponent). power_of (signed x.negative x.size) root.letters) after_it.0 ∙ ap (power_of (signed negative n)) first.letters_are);
          rest_is = after_it.1;
          causes = first.causes;
        }

    pub power_fits : (P : Type 0) → (length root.letters * exponent.size ≤ MOST_POWER_LETTERS → P) → (f : Factor) (rest : List Sign) → old ≡ factor_signs f ++ rest → StartsWithoutCaret rest → FactorFits f → P
    power_fits P fits (bare b) rest e h k =
        let first = reads b rest e in
        absurd (h (ap first_lexeme (sym first.rest_is) ∙ caret))
    power_fits P fits (power b negative n) rest e h k =
        let first = reads b (behind_base negative n rest) (e ∙ power_ahead b negative n rest) in
        let after_it = raises negative n rest (skip ∙ ap (drop 1) first.rest_is) in
        let size : exponent.size ≡ n = ap (λ (x : Exponent). x.size) after_it.0 in
        let short : length root.letters ≤ base_letters (plain_base b) =
        subst (λ (xs : List ℤ). length xs ≤ base_letters (plain_base b)) (sym first.letters_are) (base_length home.generators.now b) in
        fits (bounded (length root.letters) (base_letters (plain_base b)) exponent.size n MOST_POWER_LETTERS short size k.1)
      where
        bounded : (x y m k most : ℕ) → x ≤ y → m ≡ k → y * k ≤ most → x * m ≤ most
        bounded x y m k most h e b = grind arith

-- where a power isn't reached, nothing of it fails
pub factor_of_base : (P : Type 0) (old : List Sign) → ((b : Base) (rest : List Sign) → old ≡ base_signs b ++ rest → BaseFits b → P) →
    (f : Factor) (rest : List Sign) → old ≡ factor_signs f ++ rest → FactorFits f → P
factor_of_base P old fits (bare b) rest e h = fits b rest e h
factor_of_base P old fits (power b negative n) rest e h = fits b (behind_base negative n rest) (e ∙ power_ahead b negative n rest) h.0

-- which base stands here
module _ (P : Base → List Sign → Type 0) (old : List Sign) where
  begun : (b : Base) (rest : List Sign) (x : Lexeme) → old ≡ base_signs b ++ rest → first_lexeme old ≡ Some x → base_first b ≡ x
  begun b rest x e f = let same : Some (base_first b) ≡ Some x = sym (base_begins b rest) ∙ (ap first_lexeme (sym e) ∙ f) in cc

  pub only_round : first_lexeme old ≡ Some (lexeme.Mark mark.OpenRound) → ((w : Word) (rest : List Sign) → old ≡ base_signs (round w) ++ rest → P (round w) rest) →
      (b : Base) (rest : List Sign) → old ≡ base_signs b ++ rest → P b rest
  only_round first holds (named n) rest e = let f : lexeme.Name ≡ lexeme.Mark mark.OpenRound = begun (named n) rest (lexeme.Mark mark.OpenRound) e first in absurd cc
  only_round first holds one rest e = let f : lexeme.Number 1 ≡ lexeme.Mark mark.OpenRound = begun one rest (lexeme.Mark mark.OpenRound) e first in absurd cc
  only_round first holds (round w) rest e = holds w rest e
  only_round first holds (commutator u v) rest e =
      let f : lexeme.Mark mark.OpenSquare ≡ lexeme.Mark mark.OpenRound = begun (commutator u v) rest (lexeme.Mark mark.OpenRound) e first in absurd cc

  pub only_square : first_lexeme old ≡ Some (lexeme.Mark mark.OpenSquare) → ((u v : Word) (rest : List Sign) → old ≡ base_signs (commutator u v) ++ rest → P (commutator u v) rest) →
      (b : Base) (rest : List Sign) → old ≡ base_signs b ++ rest → P b rest
  only_square first holds (named n) rest e = let f : lexeme.Name ≡ lexeme.Mark mark.OpenSquare = begun (named n) rest (lexeme.Mark mark.OpenSquare) e first in absurd cc
  only_square first holds one rest e = let f : lexeme.Number 1 ≡ lexeme.Mark mark.OpenSquare = begun one rest (lexeme.Mark mark.OpenSquare) e first in absurd cc
  only_square first holds (round w) rest e =
      let f : lexeme.Mark mark.OpenRound ≡ lexeme.Mark mark.OpenSquare = begun (round w) rest (lexeme.Mark mark.OpenSquare) e first in absurd cc
  only_square first holds (commutator u v) rest e = holds u v rest e

  pub no_bracket : first_lexeme old ≢ Some (lexeme.Mark mark.OpenRound) → first_lexeme old ≢ Some (lexeme.Mark mark.OpenSquare) →
      ((n : Named) (rest : List Sign) → old ≡ base_signs (named n) ++ rest → P (named n) rest) → ((rest : List Sign) → old ≡ base_signs one ++ rest → P one rest) →
      (b : Base) (rest : List Sign) → old ≡ base_signs b ++ rest → P b rest
  no_bracket r s name number (named n) rest e = name n rest e
  no_bracket r s name number one rest e = number rest e
  no_bracket r s name number (round w) rest e = absurd (r (ap first_lexeme e))
  no_bracket r s name number (commutator u v) rest e = absurd (s (ap first_lexeme e))

-- what the call for a word brings
abbrev pub ReadsWord : Home → List Sign → Option Shown → Held → List Sign → Option Shown → Type 0
ReadsWord home old before word left after =
    (w : Word) (rest : List Sign) → old ≡ word_signs w ++ rest → Stops rest → IsRead home (word_names w) (written home.generators.now w) rest before word left after

pub round_ahead : (old inside : List Sign) → inside ≡ drop 1 old → (w : Word) (rest : List Sign) → old ≡ base_signs (round w) ++ rest → inside ≡ word_signs w ++ the_mark mark.CloseRound ∷ rest
round_ahead old inside skip w rest e = skip ∙ (ap (drop 1) e ∙ append_assoc (word_signs w) (the_mark mark.CloseRound ∷ []) rest)

pub round_read : (home : Home) (old inside left new : List Sign) (before after : Option Shown) (word : Held) → inside ≡ drop 1 old → ReadsWord home inside before word left after → new ≡ drop 1 left →
    (w : Word) (rest : List Sign) → old ≡ base_signs (round w) ++ rest → IsRead home (base_names (round w)) (base_written home.generators.now (round w)) rest before word new after
round_read home old inside left new before after word skip reads close w rest e =
    let found = reads w (the_mark mark.CloseRound ∷ rest) (round_ahead old inside skip w rest e) refl in
    record { letters_are = found.letters_are; rest_is = close ∙ ap (drop 1) found.rest_is; causes = found.causes }

-- what stands behind the first word of a commutator
abbrev pub behind_left : Word → List Sign → List Sign
behind_left v rest = the_mark mark.Comma ∷ (word_signs v ++ the_mark mark.CloseSquare ∷ rest)

pub left_ahead : (old inside : List Sign) → inside ≡ drop 1 old → (u v : Word) (rest : List Sign) → old ≡ base_signs (commutator u v) ++ rest → inside ≡ word_signs u ++ behind_left v rest
left_ahead old inside skip u v rest e = skip ∙ (ap (drop 1) e ∙ simp append_assoc)

module _ (home : Home) (old inside behind second : List Sign) (before mid : Option Shown) (left : Held) (skip : inside ≡ drop 1 old) (reads : ReadsWord home inside before left behind mid) (comma : second ≡ drop 1 behind) where
  pub right_ahead : (u v : Word) (rest : List Sign) → old ≡ base_signs (commutator u v) ++ rest → second ≡ word_signs v ++ the_mark mark.CloseSquare ∷ rest
  right_ahead u v rest e =
      let found = reads u (behind_left v rest) (left_ahead old inside skip u v rest e) refl in
      comma ∙ ap (drop 1) found.rest_is

  pub square_read : (last new : List Sign) (after : Option Shown) (right word : Held) → ReadsWord home second mid right last after → new ≡ drop 1 last →
      word.letters ≡ commutator_of left.letters right.letters →
      (u v : Word) (rest : List Sign) → old ≡ base_signs (commutator u v) ++ rest → IsRead home (base_names (commutator u v)) (base_written home.generators.now (commutator u v)) rest before word new after
  square_read last new after right word reads_right close is u v rest e =
      let first = reads u (behind_left v rest) (left_ahead old inside skip u v rest e) refl in
      let next = reads_right v (the_mark mark.CloseSquare ∷ rest) (right_ahead u v rest e) refl in
      record {
        letters_are = is ∙ (ap (λ (xs : List ℤ). commutator_of xs right.letters) first.letters_are ∙ ap (commutator_of (written home.generators.now u)) next.letters_are);
        rest_is = close ∙ ap (drop 1) next.rest_is;
        causes = gets_more (not_a_letter home.names.now home.generators.now) (word_names u) (word_names v) before mid after first.causes next.causes;
      }

-- a name and the number 1
pub name_read : (home : Home) (old new : List Sign) (before after : Option Shown) (m : Named) (word : Held) → old ≡ a_name m ∷ new →
    word.letters ≡ letter_at (generator_place home.generators.now m.text) → Gets (not_a_letter home.names.now home.generators.now m) before after →
    (n : Named) (rest : List Sign) → old ≡ base_signs (named n) ++ rest → IsRead home (base_names (named n)) (base_written home.generators.now (named n)) rest before word new after
name_read home old new before after m word is letters causes n rest e =
    let both : ◌≡◌ {A = List Sign} (a_name m ∷ new) (a_name n ∷ rest) = sym is ∙ e in
    let same : m ≡ n = cc in
    let left : new ≡ rest = cc in
    record {
      letters_are = letters ∙ ap (λ (x : Named). letter_at (generator_place home.generators.now x.text)) same;
      rest_is = left;
      causes = gets_one (not_a_letter home.names.now home.generators.now) n before after
          (subst (λ (x : Named). Gets (not_a_letter home.names.now home.generators.now x) before after) same causes);
    }

pub one_read : (home : Home) (old new : List Sign) (found : Option Shown) (word : Held) → new ≡ drop 1 old → word.letters ≡ [] →
    (rest : List Sign) → old ≡ base_signs one ++ rest → IsRead home (base_names one) (base_written home.generators.now one) rest found word new found
one_read home old new found word skip letters rest e = record { letters_are = letters; rest_is = skip ∙ ap (drop 1) e; causes = gets_none found }

-- powers of the empty word
times_nil : (k : ℕ) → repeated k [] ≡ []
times_nil zero = refl
times_nil (suc k) = times_nil k

pub power_nil : (negative : Bool) (n : ℕ) → power_of (signed negative n) [] ≡ []
power_nil false n = times_nil n
power_nil true zero = refl
power_nil true (suc n) = times_nil (suc n)

pub empty_power : (negative : Bool) (n : ℕ) (w : List ℤ) {v : List ℤ} → (length v == 0) ≡ true → v ≡ w → w ≡ power_of (signed negative n) w
empty_power negative n w {v} h e =
    let none : w ≡ [] = sym e ∙ nil_from_length v ((Decides-eqb (length v) 0).0 h) in
    none ∙ (sym (power_nil negative n) ∙ ap (power_of (signed negative n)) (sym none))
