-- A word as its first factor and those behind it.
use Rattle.std.proofs.Common.{◌≡◌, ◌≢◌, ℤ, Bool, true, false, Option, Some, List, [], ◌∷◌, ◌++◌, drop, refl, sym, ap, subst, ◌∙◌, append_assoc, append-nil}
use Rattle.mg_lex.specs.declared.mark.Mark.TheVariants as mark
use Rattle.mg_terms.specs.declared.lexeme.Lexeme.{Lexeme}
use Rattle.mg_terms.specs.declared.lexeme.Lexeme.TheVariants as lexeme
use Rattle.mg_words.specs.Word.{Held}
use Rattle.mg_names.specs.declared.home.Home.{Home}
use Rattle.mg_names.specs.Named.{Base, named, one, round, commutator, Factor, bare, power, Word, single, times, factor_names, word_names}
use Rattle.mg_names.specs.Cause.{Shown, not_a_letter}
use Rattle.mg_names.specs.Meaning.{factor_written, written}
use Rattle.mg_names.specs.Sign.{Sign, sign_lexeme, first_lexeme, goes_on, Stops, star_signs, base_signs, factor_signs, word_signs}
use Rattle.mg_names.specs.Least.{Gets}
use Rattle.mg_names.specs.Reads.{IsRead, in_names, FactorFits, WordFits, StartsWithoutCaret}
use Rattle.mg_names.proofs.Leasts.{gets_more}

abbrev pub extended : Word → List (Bool × Factor) → Word
extended w [] = w
extended w (p ∷ ps) = extended (times w p.0 p.1) ps

abbrev pub tail_signs : List (Bool × Factor) → List Sign
tail_signs [] = []
tail_signs (p ∷ ps) = star_signs p.0 ++ (factor_signs p.1 ++ tail_signs ps)

abbrev pub head_of : Word → Factor
head_of (single f) = f
head_of (times w star f) = head_of w

abbrev pub tail_of : Word → List (Bool × Factor)
tail_of (single f) = []
tail_of (times w star f) = tail_of w ++ (star, f) ∷ []

extended_last : (w : Word) (ps : List (Bool × Factor)) (star : Bool) (f : Factor) → extended w (ps ++ (star, f) ∷ []) ≡ times (extended w ps) star f
extended_last w [] star f = refl
extended_last w (p ∷ ps) star f = extended_last (times w p.0 p.1) ps star f

pub extended_whole : (w : Word) → extended (single (head_of w)) (tail_of w) ≡ w
extended_whole (single f) = refl
extended_whole (times w star f) = extended_last (single (head_of w)) (tail_of w) star f ∙ ap (λ (u : Word). times u star f) (extended_whole w)

tail_last : (ps : List (Bool × Factor)) (star : Bool) (f : Factor) → tail_signs (ps ++ (star, f) ∷ []) ≡ tail_signs ps ++ (star_signs star ++ factor_signs f)
tail_last [] star f = ap (λ (ss : List Sign). star_signs star ++ ss) (append-nil (factor_signs f))
tail_last (p ∷ ps) star f =
    ap (λ (ss : List Sign). star_signs p.0 ++ (factor_signs p.1 ++ ss)) (tail_last ps star f) ∙ simp append_assoc

pub word_split : (w : Word) → word_signs w ≡ factor_signs (head_of w) ++ tail_signs (tail_of w)
word_split (single f) = sym (append-nil (factor_signs f))
word_split (times w star f) =
    ap (λ (ss : List Sign). ss ++ (star_signs star ++ factor_signs f)) (word_split w)
    ∙ (append_assoc (factor_signs (head_of w)) (tail_signs (tail_of w)) (star_signs star ++ factor_signs f)
    ∙ ap (λ (ss : List Sign). factor_signs (head_of w) ++ ss) (sym (tail_last (tail_of w) star f)))

-- how parts begin
abbrev pub base_first : Base → Lexeme
base_first (named n) = lexeme.Name
base_first one = lexeme.Number 1
base_first (round w) = lexeme.Mark mark.OpenRound
base_first (commutator u v) = lexeme.Mark mark.OpenSquare

abbrev pub factor_first : Factor → Lexeme
factor_first (bare b) = base_first b
factor_first (power b negative n) = base_first b

pub base_begins : (b : Base) (rest : List Sign) → first_lexeme (base_signs b ++ rest) ≡ Some (base_first b)
base_begins (named n) rest = refl
base_begins one rest = refl
base_begins (round w) rest = refl
base_begins (commutator u v) rest = refl

pub factor_begins : (f : Factor) (rest : List Sign) → first_lexeme (factor_signs f ++ rest) ≡ Some (factor_first f)
factor_begins (bare b) rest = base_begins b rest
factor_begins (power b negative n) rest = ap first_lexeme (append_assoc (base_signs b) _ rest) ∙ base_begins b _

base_goes_on : (b : Base) → goes_on (base_first b) ≡ true
base_goes_on (named n) = refl
base_goes_on one = refl
base_goes_on (round w) = refl
base_goes_on (commutator u v) = refl

pub factor_goes_on : (f : Factor) → goes_on (factor_first f) ≡ true
factor_goes_on (bare b) = base_goes_on b
factor_goes_on (power b negative n) = base_goes_on b

no_base_caret : (b : Base) → base_first b ≢ lexeme.Mark mark.Caret
no_base_caret (named n) e = cc
no_base_caret one e = cc
no_base_caret (round w) e = cc
no_base_caret (commutator u v) e = cc

no_base_star : (b : Base) → base_first b ≢ lexeme.Mark mark.Star
no_base_star (named n) e = cc
no_base_star one e = cc
no_base_star (round w) e = cc
no_base_star (commutator u v) e = cc

no_factor_caret : (f : Factor) → factor_first f ≢ lexeme.Mark mark.Caret
no_factor_caret (bare b) = no_base_caret b
no_factor_caret (power b negative n) = no_base_caret b

no_factor_star : (f : Factor) → factor_first f ≢ lexeme.Mark mark.Star
no_factor_star (bare b) = no_base_star b
no_factor_star (power b negative n) = no_base_star b

pub stops_at : (ss : List Sign) (x : Lexeme) → first_lexeme ss ≡ Some x → Stops ss → goes_on x ≡ false
stops_at [] x e h = absurd cc
stops_at (s ∷ ss) x e h = let same : sign_lexeme s ≡ x = cc in subst (λ (y : Lexeme). goes_on y ≡ false) same h

caret_goes_on : (ss : List Sign) → Stops ss → StartsWithoutCaret ss
caret_goes_on ss h e = let f : true ≡ false = stops_at ss (lexeme.Mark mark.Caret) e h in cc

pub factor_no_caret : (f : Factor) (rest : List Sign) → StartsWithoutCaret (factor_signs f ++ rest)
factor_no_caret f rest e =
    let same : Some (factor_first f) ≡ Some (lexeme.Mark mark.Caret) = sym (factor_begins f rest) ∙ e in
    no_factor_caret f cc

pub factor_no_star : (f : Factor) (rest : List Sign) → first_lexeme (factor_signs f ++ rest) ≢ Some (lexeme.Mark mark.Star)
factor_no_star f rest e =
    let same : Some (factor_first f) ≡ Some (lexeme.Mark mark.Star) = sym (factor_begins f rest) ∙ e in
    no_factor_star f cc

-- no exponent stands behind a factor of a word
pub tail_no_caret : (ps : List (Bool × Factor)) (rest : List Sign) → Stops rest → StartsWithoutCaret (tail_signs ps ++ rest)
tail_no_caret [] rest h = caret_goes_on rest h
tail_no_caret ((true, f) ∷ ps) rest h = λ e. cc
tail_no_caret ((false, f) ∷ ps) rest h =
    subst (λ (ss : List Sign). StartsWithoutCaret ss) (sym (append_assoc (factor_signs f) (tail_signs ps) rest)) (factor_no_caret f (tail_signs ps ++ rest))

-- where nothing goes on all factors have been read
pub tail_ended : (ps : List (Bool × Factor)) (rest : List Sign) → Stops (tail_signs ps ++ rest) → ps ≡ []
tail_ended [] rest h = refl
tail_ended ((true, f) ∷ ps) rest h = let e : true ≡ false = h in absurd cc
tail_ended ((false, f) ∷ ps) rest h =
    let back : Stops (factor_signs f ++ (tail_signs ps ++ rest)) = subst (λ (ss : List Sign). Stops ss) (append_assoc (factor_signs f) (tail_signs ps) rest) h in
    let e : true ≡ false = sym (factor_goes_on f) ∙ stops_at (factor_signs f ++ (tail_signs ps ++ rest)) (factor_first f) (factor_begins f (tail_signs ps ++ rest)) back in
    absurd cc

pub tail_next : (p : Bool × Factor) (ps : List (Bool × Factor)) (rest : List Sign) → tail_signs (p ∷ ps) ++ rest ≡ star_signs p.0 ++ (factor_signs p.1 ++ (tail_signs ps ++ rest))
tail_next p ps rest = simp append_assoc

-- a word that is read up to some of its factors
pub record IsReadUpTo (home : Home) (w : Word) (rest : List Sign) (before : Option Shown) (letters : List ℤ) (left : List Sign) (after : Option Shown) : Type 0 where
  pub done : Word
  pub more : List (Bool × Factor)
  pub whole : extended done more ≡ w
  pub ahead : left ≡ tail_signs more ++ rest
  pub letters_are : letters ≡ written home.generators.now done
  pub causes : Gets (in_names home (word_names done)) before after

-- what the call for a factor brings
abbrev pub ReadsFactor : Home → List Sign → Option Shown → Held → List Sign → Option Shown → Type 0
ReadsFactor home old before word left after =
    (f : Factor) (rest : List Sign) → old ≡ factor_signs f ++ rest → StartsWithoutCaret rest →
    IsRead home (factor_names f) (factor_written home.generators.now f) rest before word left after

pub word_ahead : (old : List Sign) (w : Word) (rest : List Sign) → old ≡ word_signs w ++ rest → old ≡ factor_signs (head_of w) ++ (tail_signs (tail_of w) ++ rest)
word_ahead old w rest e =
    e ∙ (ap (λ (ss : List Sign). ss ++ rest) (word_split w) ∙ append_assoc (factor_signs (head_of w)) (tail_signs (tail_of w)) rest)

pub started : (home : Home) (old : List Sign) (before : Option Shown) (word : Held) (left : List Sign) (after : Option Shown) → ReadsFactor home old before word left after →
    (w : Word) (rest : List Sign) → old ≡ word_signs w ++ rest → Stops rest → IsReadUpTo home w rest before word.letters left after
started home old before word left after reads w rest e h =
    let first = reads (head_of w) (tail_signs (tail_of w) ++ rest) (word_ahead old w rest e) (tail_no_caret (tail_of w) rest h) in
    record {
      done = single (head_of w);
      more = tail_of w;
      whole = extended_whole w;
      ahead = first.rest_is;
      letters_are = first.letters_are;
      causes = first.causes;
    }

abbrev pub SkipsStar : List Sign → List Sign → Type 0
SkipsStar left skipped = (star : Bool) (f : Factor) (rest : List Sign) → left ≡ star_signs star ++ (factor_signs f ++ rest) → skipped ≡ factor_signs f ++ rest

module _ (home : Home) (w : Word) (rest : List Sign) (before mid after : Option Shown) (letters : List ℤ) (left skipped last : List Sign) (next : Held) where
  step : (done : Word) (more : List (Bool × Factor)) → extended done more ≡ w → left ≡ tail_signs more ++ rest → letters ≡ written home.generators.now done →
      Gets (in_names home (word_names done)) before mid → Stops rest → (Stops left → ⊥) → SkipsStar left skipped → ReadsFactor home skipped mid next last after →
      IsReadUpTo home w rest before (letters ++ next.letters) last after
  step done [] whole ahead same causes stops on skips reads = absurd (on (subst (λ (ss : List Sign). Stops ss) (sym ahead) stops))
  step done (p ∷ ps) whole ahead same causes stops on skips reads =
      let found = reads p.1 (tail_signs ps ++ rest) (skips p.0 p.1 (tail_signs ps ++ rest) (ahead ∙ tail_next p ps rest)) (tail_no_caret ps rest stops) in
      record {
        done = times done p.0 p.1;
        more = ps;
        whole = whole;
        ahead = found.rest_is;
        letters_are = ap (λ (xs : List ℤ). xs ++ next.letters) same ∙ ap (λ (xs : List ℤ). written home.generators.now done ++ xs) found.letters_are;
        causes = gets_more (not_a_letter home.names.now home.generators.now) (word_names done) (factor_names p.1) before mid after causes found.causes;
      }

  pub stepped : IsReadUpTo home w rest before letters left mid → Stops rest → (Stops left → ⊥) → SkipsStar left skipped → ReadsFactor home skipped mid next last after →
      IsReadUpTo home w rest before (letters ++ next.letters) last after
  stepped h = step h.done h.more h.whole h.ahead h.letters_are h.causes

module _ (home : Home) (w : Word) (rest : List Sign) (before after : Option Shown) (left : List Sign) (word : Held) where
  finish : (done : Word) (more : List (Bool × Factor)) → more ≡ [] → extended done more ≡ w → left ≡ tail_signs more ++ rest → word.letters ≡ written home.generators.now done →
      Gets (in_names home (word_names done)) before after → IsRead home (word_names w) (written home.generators.now w) rest before word left after
  finish done [] none whole ahead same causes =
      subst (λ (u : Word). IsRead home (word_names u) (written home.generators.now u) rest before word left after) whole
      (record { letters_are = same; rest_is = ahead; causes = causes })
  finish done (p ∷ ps) none whole ahead same causes = absurd cc

  pub finished : IsReadUpTo home w rest before word.letters left after → Stops left → IsRead home (word_names w) (written home.generators.now w) rest before word left after
  finished h stops =
      finish h.done h.more (tail_ended h.more rest (subst (λ (ss : List Sign). Stops ss) h.ahead stops)) h.whole h.ahead h.letters_are h.causes

-- the powers of a word are within the limits, and so those of its factors
fits_done : (done : Word) (more : List (Bool × Factor)) → WordFits (extended done more) → WordFits done
fits_done done [] h = h
fits_done done (p ∷ ps) h = (fits_done (times done p.0 p.1) ps h).0

fits_next : (done : Word) (p : Bool × Factor) (ps : List (Bool × Factor)) → WordFits (extended done (p ∷ ps)) → FactorFits p.1
fits_next done p ps h = (fits_done (times done p.0 p.1) ps h).1

pub head_fits : (w : Word) → WordFits w → FactorFits (head_of w)
head_fits w h = fits_done (single (head_of w)) (tail_of w) (subst WordFits (sym (extended_whole w)) h)

abbrev pub FitsFactor : List Sign → Type 0 → Type 0
FitsFactor old P = (f : Factor) (rest : List Sign) → old ≡ factor_signs f ++ rest → StartsWithoutCaret rest → FactorFits f → P

pub start_fits : (old : List Sign) (P : Type 0) → FitsFactor old P → (w : Word) (rest : List Sign) → old ≡ word_signs w ++ rest → Stops rest → WordFits w → P
start_fits old P fits w rest e stops h =
    fits (head_of w) (tail_signs (tail_of w) ++ rest) (word_ahead old w rest e) (tail_no_caret (tail_of w) rest stops) (head_fits w h)

module _ (w : Word) (rest left skipped : List Sign) (P : Type 0) where
  next_fits : (done : Word) (more : List (Bool × Factor)) → extended done more ≡ w → left ≡ tail_signs more ++ rest → Stops rest → (Stops left → ⊥) → SkipsStar left skipped → FitsFactor skipped P → WordFits w → P
  next_fits done [] whole ahead stops on skips fits h = absurd (on (subst (λ (ss : List Sign). Stops ss) (sym ahead) stops))
  next_fits done (p ∷ ps) whole ahead stops on skips fits h =
      fits p.1 (tail_signs ps ++ rest) (skips p.0 p.1 (tail_signs ps ++ rest) (ahead ∙ tail_next p ps rest)) (tail_no_caret ps rest stops) (fits_next done p ps (subst WordFits (sym whole) h))

  pub step_fits : {home : Home} {before after : Option Shown} {letters : List ℤ} → IsReadUpTo home w rest before letters left after → Stops rest → (Stops left → ⊥) → SkipsStar left skipped → FitsFactor skipped P → WordFits w → P
  step_fits h = next_fits h.done h.more h.whole h.ahead

pub star_skipped : (old new : List Sign) → first_lexeme old ≡ Some (lexeme.Mark mark.Star) → new ≡ drop 1 old → SkipsStar old new
star_skipped old new first skip true f rest e = skip ∙ ap (drop 1) e
star_skipped old new first skip false f rest e = absurd (factor_no_star f rest (ap first_lexeme (sym e) ∙ first))
