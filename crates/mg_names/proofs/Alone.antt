-- Words that are a name alone, and what other words mean.
use Rattle.std.proofs.Common.{◌≡◌, ℕ, ℤ, Bool, true, false, not, Result, Ok, Err, IfOk, OnOk, Option, Some, None, List, [], ◌∷◌, ◌++◌, length, refl, sym, ap, subst, ◌∙◌, append_assoc}
use Rattle.mg_terms.specs.declared.lexeme.Lexeme.{Lexeme}
use Rattle.mg_words.specs.Word.{Held, IsOver, IsReduced}
use Rattle.mg_words.specs.Chain.{FreelyEqual}
use Rattle.mg_words.specs.Reduction.{free_form}
use Rattle.mg_words.proofs.Free.{free_form-reduced, same_form}
use Rattle.mg_names.specs.declared.home.Home.{Home}
use Rattle.mg_names.specs.Named.{Named, named, one, round, commutator, Factor, bare, power, Word, single, times, word_names}
use Rattle.mg_names.specs.Scope.{Declared}
use Rattle.mg_names.specs.Meaning.{alone, written, value, value_or_form}
use Rattle.mg_names.specs.Cause.{Shown, in_word, in_word_or_alone}
use Rattle.mg_names.specs.Sign.{Sign, a_name, sign_lexeme, first_lexeme, goes_on, is_alone, Stops, star_signs, factor_signs, word_signs}
use Rattle.mg_names.specs.Least.{Gets}
use Rattle.mg_names.specs.Reads.{in_names}
use Rattle.mg_names.proofs.Tails.{factor_first, factor_begins, factor_goes_on}
use Rattle.mg_names.proofs.Lengths.{word_over}

abbrev Goes : List Sign → Type 0
Goes more = (x : Lexeme) × (first_lexeme more ≡ Some x) × (goes_on x ≡ true)

behind_name : (n : Named) (more : List Sign) → Goes more → is_alone (a_name n ∷ more) ≡ false
behind_name n [] g = absurd (none_some g.0 g.1)
  where
    none_some : (x : Lexeme) → None ≡ Some x → ⊥
    none_some x e = cc
behind_name n (s ∷ more) g =
    let same : sign_lexeme s ≡ g.0 = some_same (sign_lexeme s) g.0 g.1 in
    ap not (ap goes_on same ∙ g.2)
  where
    some_same : (x y : Lexeme) → Some x ≡ Some y → x ≡ y
    some_same x y e = cc

factor_not_alone : (f : Factor) (more : List Sign) → Goes more → is_alone (factor_signs f ++ more) ≡ false
factor_not_alone (bare (named n)) more g = behind_name n more g
factor_not_alone (bare one) more g = refl
factor_not_alone (bare (round w)) more g = refl
factor_not_alone (bare (commutator u v)) more g = refl
factor_not_alone (power (named n) negative k) more g = refl
factor_not_alone (power one negative k) more g = refl
factor_not_alone (power (round w) negative k) more g = refl
factor_not_alone (power (commutator u v) negative k) more g = refl

next_goes : (star : Bool) (f : Factor) (more : List Sign) → Goes ((star_signs star ++ factor_signs f) ++ more)
next_goes true f more = (_, refl, refl)
next_goes false f more = (factor_first f, factor_begins f more, factor_goes_on f)

word_not_alone : (w : Word) (more : List Sign) → Goes more → is_alone (word_signs w ++ more) ≡ false
word_not_alone (single f) more g = factor_not_alone f more g
word_not_alone (times w star f) more g =
    ap is_alone (append_assoc (word_signs w) (star_signs star ++ factor_signs f) more)
    ∙ word_not_alone w ((star_signs star ++ factor_signs f) ++ more) (next_goes star f more)

times_not_alone : (w : Word) (star : Bool) (f : Factor) (rest : List Sign) → is_alone (word_signs (times w star f) ++ rest) ≡ false
times_not_alone w star f rest =
    ap is_alone (append_assoc (word_signs w) (star_signs star ++ factor_signs f) rest)
    ∙ word_not_alone w ((star_signs star ++ factor_signs f) ++ rest) (next_goes star f rest)

clash : {P : Type 0} {b : Bool} → b ≡ true → b ≡ false → P
clash t f = let e : true ≡ false = sym t ∙ f in absurd cc

pub alone_is : (w : Word) (rest : List Sign) → is_alone (word_signs w ++ rest) ≡ true → (n : Named) × (w ≡ single (bare (named n)))
alone_is (single (bare (named n))) rest e = (n, refl)
alone_is (single (bare one)) rest e = clash e refl
alone_is (single (bare (round w))) rest e = clash e refl
alone_is (single (bare (commutator u v))) rest e = clash e refl
alone_is (single (power (named n) negative k)) rest e = clash e refl
alone_is (single (power one negative k)) rest e = clash e refl
alone_is (single (power (round w) negative k)) rest e = clash e refl
alone_is (single (power (commutator u v) negative k)) rest e = clash e refl
alone_is (times w star f) rest e = clash e (times_not_alone w star f rest)

stops_alone : (n : Named) (rest : List Sign) → Stops rest → is_alone (a_name n ∷ rest) ≡ true
stops_alone n [] h = refl
stops_alone n (s ∷ rest) h = ap not h

pub alone_not : (w : Word) (rest : List Sign) → Stops rest → is_alone (word_signs w ++ rest) ≡ false → alone w ≡ None
alone_not (single (bare (named n))) rest h e = clash (stops_alone n rest h) e
alone_not (single (bare one)) rest h e = refl
alone_not (single (bare (round w))) rest h e = refl
alone_not (single (bare (commutator u v))) rest h e = refl
alone_not (single (power b negative k)) rest h e = refl
alone_not (times w star f) rest h e = refl

-- what holds of the name holds of the word
pub alone_case : (P : Word → List Sign → Type 0) (old new : List Sign) (m : Named) → is_alone old ≡ true → old ≡ a_name m ∷ new → P (single (bare (named m))) new →
    (w : Word) (rest : List Sign) → old ≡ word_signs w ++ rest → P w rest
alone_case P old new m is first holds w rest e =
    let found = alone_is w rest (ap is_alone (sym e) ∙ is) in
    let signs : word_signs w ≡ a_name found.0 ∷ [] = ap word_signs found.1 in
    let both : ◌≡◌ {A = List Sign} (a_name m ∷ new) (a_name found.0 ∷ rest) = sym first ∙ (e ∙ ap (λ (ss : List Sign). ss ++ rest) signs) in
    let same : m ≡ found.0 = cc in
    let left : new ≡ rest = cc in
    let word : single (bare (named m)) ≡ w = ap (λ (n : Named). single (bare (named n))) same ∙ sym found.1 in
    subst (λ (u : Word). P u rest) word (subst (λ (ss : List Sign). P (single (bare (named m))) ss) left holds)

-- a word that is no name alone
pub other_case : (P : Word → Type 0) (old : List Sign) → is_alone old ≡ false → ((w : Word) (rest : List Sign) → old ≡ word_signs w ++ rest → Stops rest → alone w ≡ None → P w) →
    (w : Word) (rest : List Sign) → old ≡ word_signs w ++ rest → Stops rest → P w
other_case P old is holds w rest e h = holds w rest e h (alone_not w rest h (ap is_alone (sym e) ∙ is))

pub ok_so : {A E : Type 0} {P : Type 0} (r : Result A E) → P → OnOk r P
ok_so (Ok a) h = h
ok_so (Err e) h = tt

formed : (gs : List (List ℕ)) (w : Word) (xs ys : List ℤ) → xs ≡ written gs w → ((m : ℕ) → IsOver m xs → FreelyEqual m xs ys) → IsReduced ys → ys ≡ free_form (written gs w)
formed gs w xs ys e equal reduced =
    let over : IsOver (length gs) xs = subst (λ (zs : List ℤ). IsOver (length gs) zs) (sym e) (word_over gs w) in
    sym (free_form-reduced ys reduced) ∙ (sym (same_form (length gs) xs ys (equal (length gs) over)) ∙ ap free_form e)

pub value_read : {E : Type 0} (names : List Declared) (place : ℕ) (gs : List (List ℕ)) (w : Word) (xs : List ℤ) (r : Result Held E) → alone w ≡ None → xs ≡ written gs w →
    IfOk r (λ v. (m : ℕ) → IsOver m xs → FreelyEqual m xs v.letters) → IfOk r (λ v. IsReduced v.letters) → IfOk r (λ v. v.letters ≡ value names place gs w)
value_read names place gs w xs (Ok v) none e equal reduced =
    formed gs w xs v.letters e equal reduced ∙ ap (value_or_form names place gs w) (sym none)
value_read names place gs w xs (Err f) none e equal reduced = tt

pub causes_read : (home : Home) (w : Word) (before after : Option Shown) → alone w ≡ None → Gets (in_names home (word_names w)) before after →
    Gets (in_word home.names.now home.place home.generators.now w) before after
causes_read home w before after none g =
    subst (λ (o : Option Named). Gets (in_word_or_alone home.names.now home.place home.generators.now w o) before after) (sym none) g
