-- Words are read one after another, with commas between them.
use Rattle.std.proofs.Common.{◌≡◌, ◌≢◌, ℤ, ◌<◌, ◌≤◌, Option, Some, List, [], ◌∷◌, ◌++◌, map, length, refl, sym, ap, subst, ◌∙◌, append_assoc, append-nil, arith}
use Rattle.std.specs.List.{AllByRecursion, flat_map}
use Rattle.std.proofs.lemmas.List.{map-append, length-append}
use Rattle.mg_lex.specs.declared.mark.Mark.TheVariants as mark
use Rattle.mg_terms.specs.declared.lexeme.Lexeme.TheVariants as lexeme
use Rattle.mg_words.specs.Word.{Held}
use Rattle.mg_names.specs.declared.home.Home.{Home}
use Rattle.mg_names.specs.Named.{Base, named, one, round, commutator, Factor, bare, power, Word, single, times}
use Rattle.mg_names.specs.Meaning.{value}
use Rattle.mg_names.specs.Cause.{Shown, in_word}
use Rattle.mg_names.specs.Declaring.{words_signs, AreWordsAhead, AreReadUpTo}
use Rattle.mg_names.specs.Least.{Gets}
use Rattle.mg_names.specs.Reads.{IsWordAhead}
use Rattle.mg_names.specs.Sign.{Sign, the_mark, first_lexeme, the_number, minus_signs, star_signs, listed_on, base_signs, factor_signs, word_signs, Stops}
use Rattle.mg_names.specs.Within.{IsSizedWord}
use Rattle.mg_names.proofs.Leasts.{gets_none, gets_more, gets_one}

-- what stands behind the first word
abbrev pub behind : List Word → List Sign
behind ws = listed_on (map word_signs ws) ++ the_mark mark.Greater ∷ []

pub behind_stops : (ws : List Word) → Stops (behind ws)
behind_stops [] = refl
behind_stops (w ∷ ws) = refl

pub first_word : (w : Word) (ws : List Word) → words_signs (w ∷ ws) ≡ word_signs w ++ behind ws
first_word w ws = append_assoc (word_signs w) (listed_on (map word_signs ws)) (the_mark mark.Greater ∷ [])

pub some_left : (ws : List Word) (now : List Sign) → now ≡ words_signs ws → first_lexeme now ≢ Some (lexeme.Mark mark.Greater) → (w : Word) × (others : List Word) × (ws ≡ w ∷ others)
some_left [] now e other = absurd (other (ap first_lexeme e))
some_left (w ∷ ws) now e other = (w, ws, refl)

pub word_ahead : (now : List Sign) → AreWordsAhead now → first_lexeme now ≢ Some (lexeme.Mark mark.Greater) → IsWordAhead now
word_ahead now ahead other =
    let s = some_left ahead.words now ahead.written other in
    let sized = subst (λ (ws : List Word). AllByRecursion IsSizedWord ws) s.2 ahead.sized in
    record {
      word = s.0;
      rest = behind s.1;
      written = ahead.written ∙ ap words_signs s.2 ∙ first_word s.0 s.1;
      stops = behind_stops s.1;
      bounded = sized.0;
    }

-- how words begin
mutual
  base_begins : (b : Base) (rest : List Sign) → first_lexeme (base_signs b ++ rest) ≢ Some (lexeme.Mark mark.Greater)
  base_begins (named n) rest e = absurd cc
  base_begins one rest e = absurd cc
  base_begins (round w) rest e = absurd cc
  base_begins (commutator u v) rest e = absurd cc

  factor_begins : (f : Factor) (rest : List Sign) → first_lexeme (factor_signs f ++ rest) ≢ Some (lexeme.Mark mark.Greater)
  factor_begins (bare b) rest e = base_begins b rest e
  factor_begins (power b negative n) rest e =
      let tail : List Sign = the_mark mark.Caret ∷ (minus_signs negative ++ the_number n ∷ []) in
      base_begins b (tail ++ rest) (ap first_lexeme (sym (append_assoc (base_signs b) tail rest)) ∙ e)

  word_begins : (w : Word) (rest : List Sign) → first_lexeme (word_signs w ++ rest) ≢ Some (lexeme.Mark mark.Greater)
  word_begins (single f) rest e = factor_begins f rest e
  word_begins (times w star f) rest e =
      word_begins w ((star_signs star ++ factor_signs f) ++ rest) (ap first_lexeme (sym (append_assoc (word_signs w) (star_signs star ++ factor_signs f) rest)) ∙ e)

mutual
  base_some : (b : Base) → 1 ≤ length (base_signs b)
  base_some (named n) = omega arith
  base_some one = omega arith
  base_some (round w) = omega arith
  base_some (commutator u v) = omega arith

  factor_some : (f : Factor) → 1 ≤ length (factor_signs f)
  factor_some (bare b) = base_some b
  factor_some (power b negative n) =
      let h = base_some b in omega (arith, h, length-append (base_signs b) (the_mark mark.Caret ∷ (minus_signs negative ++ the_number n ∷ [])))

  word_some : (w : Word) → 1 ≤ length (word_signs w)
  word_some (single f) = factor_some f
  word_some (times w star f) = let h = word_some w in omega (arith, h, length-append (word_signs w) (star_signs star ++ factor_signs f))

-- nothing has been read
pub read_start : (home : Home) (ws : List Word) (start : List Sign) (before : Option Shown) (words : List (List ℤ)) → start ≡ words_signs ws → words ≡ [] → AreReadUpTo home ws before words start before
read_start home ws start before words e none = record {
  done = [];
  left = ws;
  split = refl;
  ahead = e;
  words_are = none;
  causes = gets_none before;
}

-- one word more has been read
pub one_more : (home : Home) (ws : List Word) (before mid after : Option Shown) (old new : List (List ℤ)) (now next last : List Sign) (v : Held) → AreReadUpTo home ws before old now mid → first_lexeme now ≢ Some (lexeme.Mark mark.Greater)
    → ((w : Word) (rest : List Sign) → now ≡ word_signs w ++ rest → Stops rest → v.letters ≡ value home.names.now home.place home.generators.now w)
    → ((w : Word) (rest : List Sign) → now ≡ word_signs w ++ rest → Stops rest → next ≡ rest)
    → ((w : Word) (rest : List Sign) → now ≡ word_signs w ++ rest → Stops rest → Gets (in_word home.names.now home.place home.generators.now w) mid after)
    → new ≡ old ++ v.letters ∷ [] → ((vs : List Word) → next ≡ behind vs → last ≡ words_signs vs) → AreReadUpTo home ws before new last after
one_more home ws before mid after old new now next last v read other letters rest causes pushed goes =
    let s = some_left read.left now read.ahead other in
    let f : Word → List ℤ = value home.names.now home.place home.generators.now in
    let shows : Word → List Shown = in_word home.names.now home.place home.generators.now in
    let here : now ≡ word_signs s.0 ++ behind s.1 = read.ahead ∙ ap words_signs s.2 ∙ first_word s.0 s.1 in
    let stops = behind_stops s.1 in
    record {
      done = read.done ++ s.0 ∷ [];
      left = s.1;
      split = read.split ∙ ap (λ (vs : List Word). read.done ++ vs) s.2 ∙ sym (append_assoc read.done (s.0 ∷ []) s.1);
      ahead = goes s.1 (rest s.0 (behind s.1) here stops);
      words_are = pushed ∙ ap (λ (us : List (List ℤ)). us ++ v.letters ∷ []) read.words_are ∙ ap (λ (u : List ℤ). map f read.done ++ u ∷ []) (letters s.0 (behind s.1) here stops)
          ∙ sym (map-append f read.done (s.0 ∷ []));
      causes = gets_more shows read.done (s.0 ∷ []) before mid after read.causes (gets_one shows s.0 mid after (causes s.0 (behind s.1) here stops));
    }

pub still_ahead : (now next last : List Sign) → AreWordsAhead now → first_lexeme now ≢ Some (lexeme.Mark mark.Greater) → ((w : Word) (rest : List Sign) → now ≡ word_signs w ++ rest → Stops rest → next ≡ rest)
    → ((vs : List Word) → next ≡ behind vs → last ≡ words_signs vs) → AreWordsAhead last
still_ahead now next last ahead other rest goes =
    let s = some_left ahead.words now ahead.written other in
    let sized = subst (λ (ws : List Word). AllByRecursion IsSizedWord ws) s.2 ahead.sized in
    let here : now ≡ word_signs s.0 ++ behind s.1 = ahead.written ∙ ap words_signs s.2 ∙ first_word s.0 s.1 in
    record { words = s.1; written = goes s.1 (rest s.0 (behind s.1) here (behind_stops s.1)); sized = sized.1 }

-- fewer signs are left
behind_longer : (ws : List Word) → length (words_signs ws) ≤ length (behind ws)
behind_longer [] = omega arith
behind_longer (w ∷ ws) = omega arith

pub shorter : (now next last : List Sign) → AreWordsAhead now → first_lexeme now ≢ Some (lexeme.Mark mark.Greater) → ((w : Word) (rest : List Sign) → now ≡ word_signs w ++ rest → Stops rest → next ≡ rest)
    → ((vs : List Word) → next ≡ behind vs → last ≡ words_signs vs) → length last < length now
shorter now next last ahead other rest goes =
    let s = some_left ahead.words now ahead.written other in
    let here : now ≡ word_signs s.0 ++ behind s.1 = ahead.written ∙ ap words_signs s.2 ∙ first_word s.0 s.1 in
    let end : last ≡ words_signs s.1 = goes s.1 (rest s.0 (behind s.1) here (behind_stops s.1)) in
    let some = word_some s.0 in
    let less = behind_longer s.1 in
    omega (arith, ap length here, ap length end, length-append (word_signs s.0) (behind s.1), some, less)

-- at the sign that ends them all have been read
all_done : (left : List Word) (now : List Sign) → now ≡ words_signs left → first_lexeme now ≡ Some (lexeme.Mark mark.Greater) → left ≡ []
all_done [] now e first = refl
all_done (w ∷ ws) now e first = absurd (word_begins w (behind ws) (ap first_lexeme (sym (e ∙ first_word w ws)) ∙ first))

pub read_letters : (home : Home) (ws : List Word) (before after : Option Shown) (words : List (List ℤ)) (now : List Sign) → AreReadUpTo home ws before words now after → first_lexeme now ≡ Some (lexeme.Mark mark.Greater)
    → words ≡ map (value home.names.now home.place home.generators.now) ws
read_letters home ws before after words now read first =
    let all : ws ≡ read.done = read.split ∙ ap (λ (vs : List Word). read.done ++ vs) (all_done read.left now read.ahead first) ∙ append-nil read.done in
    read.words_are ∙ ap (map (value home.names.now home.place home.generators.now)) (sym all)

pub read_causes : (home : Home) (ws : List Word) (before after : Option Shown) (words : List (List ℤ)) (now : List Sign) → AreReadUpTo home ws before words now after → first_lexeme now ≡ Some (lexeme.Mark mark.Greater)
    → Gets (flat_map (in_word home.names.now home.place home.generators.now) ws) before after
read_causes home ws before after words now read first =
    let all : ws ≡ read.done = read.split ∙ ap (λ (vs : List Word). read.done ++ vs) (all_done read.left now read.ahead first) ∙ append-nil read.done in
    subst (λ (vs : List Word). Gets (flat_map (in_word home.names.now home.place home.generators.now) vs) before after) (sym all) read.causes
