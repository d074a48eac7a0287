-- What a step of the reader brings.
use Rattle.std.proofs.Common.{◌≡◌, ◌≤◌, ◌⊎◌, inl, inr, ⊎_elim, ◌↔◌, ℕ, ◌+◌, ◌<◌, Bool, true, false, IsTrue, Option, Some, None, Result, Ok, Err, List, [], ◌∷◌, ◌++◌, length, filter, get_or, zero, suc, drop, drop-cons, refl, sym, ap, subst, ◌∙◌, arith, length-append}
use Rattle.std.proofs.Math.Seq.{drop-append_seam}
use Rattle.std.specs.List.{AllByRecursion}
use Rattle.std.proofs.lemmas.Bool.{cases_lt, eqb-true}
use Rattle.std.proofs.lemmas.List.Elements.{filter-append}
use Rattle.mg_lex.specs.declared.refusal.Cause.TheVariants as cause
use Rattle.mg_terms.specs.declared.lexeme.Lexeme.{Lexeme}
use Rattle.mg_terms.specs.declared.lexeme.Lexeme.TheVariants as lexeme
use Rattle.mg_terms.specs.Beginning.{BeginsBase}
use Rattle.mg_terms.specs.Word.{Word}
use Rattle.mg_script.specs.declared.counted.Counted.{Counted}
use Rattle.mg_script.specs.declared.counted.Counted.TheVariants as counted
use Rattle.mg_script.specs.declared.counted.Counts.{Counts}
use Rattle.mg_script.specs.declared.counted.TheConstants.{LETTER_LIMIT}
use Rattle.mg_script.specs.declared.fault.StatementFault.{StatementFault}
use Rattle.mg_script.specs.declared.reader.Reader.{Reader}
use Rattle.mg_script.specs.declared.sign.Sign.{Sign}
use Rattle.mg_script.specs.Statement.{Piece, sign, term, pieces_lexemes}
use Rattle.mg_script.specs.Count.{count_of, is_one, is_counted, how_many, piece_letters, letters_in, Adds, limit_of, counted_number, IsBounded, AreWithinLimits}
use Rattle.mg_script.specs.Cause.{IsOneTooMany, IsFirstCause}
use Rattle.mg_script.specs.Grammar.{Class, IsIn, a_property, Rest, end, sign_then, word_then, either, asked_rest, Begins}
use Rattle.mg_script.specs.Reader.{Start, Stand, Knows, Brings, Chooses, class_of, signs_then, IsNext, IsPropertyNext, IsWordThen, any_word, no_property, BeginsWord, AddsOne, numbers, Finishes}
use Rattle.mg_script.proofs.Standing.{pieces_push, Misses, stuck, sign_full, sign_passed, first_chosen, second_chosen, finished}

pub is_not : {A : Type 0} (b : Bool) → b ≡ false → IsTrue b ↔ A → A → ⊥
is_not b off says a = let on : b ≡ true = says.1 a in absurd cc

pub is_so : {A : Type 0} (b : Bool) → b ≡ true → IsTrue b ↔ A → A
is_so b on says = says.0 on

-- counts
how_many_append : (k : Counted) (ps qs : List Piece) → how_many k (ps ++ qs) ≡ how_many k ps + how_many k qs
how_many_append k ps qs = ap length (filter-append (is_counted k) ps qs) ∙ length-append (filter (is_counted k) ps) (filter (is_counted k) qs)

letters_append : (ps qs : List Piece) → letters_in (ps ++ qs) ≡ letters_in ps + letters_in qs
letters_append [] qs = omega arith
letters_append (p ∷ ps) qs = omega (arith, letters_append ps qs)

abbrev pub counted_as : Piece → Option Counted
counted_as (sign kind x) = kind
counted_as (term kind left w) = kind

-- how often a piece is counted depends on what it is counted as alone
one_piece : (k : Counted) (p : Piece) → how_many k (p ∷ []) ≡ how_many k (sign (counted_as p) lexeme.Name ∷ [])
one_piece k (sign kind x) = by_test (is_one k kind) refl
  where
    by_test : (b : Bool) → is_one k kind ≡ b → how_many k (sign kind x ∷ []) ≡ how_many k (sign kind lexeme.Name ∷ [])
    by_test true e = rw e refl
    by_test false e = rw e refl
one_piece k (term kind left w) = by_test (is_one k kind) refl
  where
    by_test : (b : Bool) → is_one k kind ≡ b → how_many k (term kind left w ∷ []) ≡ how_many k (sign kind lexeme.Name ∷ [])
    by_test true e = rw e refl
    by_test false e = rw e refl

pub adds_piece : (a b c : Counts) (done : List Piece) (p : Piece) → Adds done a b → AddsOne (counted_as p) b c → c.letters ≡ b.letters + piece_letters p → Adds (done ++ p ∷ []) a c
adds_piece a b c done p adds one letters = record {
  counted = λ k. omega (arith, adds.counted k, one k, one_piece k p, how_many_append k done (p ∷ []));
  letters = omega (arith, adds.letters, letters, letters_append done (p ∷ []));
}

-- whether one more is too many, by the counts with those of what was read
pub full_since : (a b : Counts) (done : List Piece) (kind : Option Counted) → Adds done a b → IsOneTooMany b [] kind → IsOneTooMany a done kind
full_since a b done None adds full = full
full_since a b done (Some k) adds full = omega (arith, full, adds.counted k)

pub room_since : (a b : Counts) (done : List Piece) (kind : Option Counted) → Adds done a b → ¬ IsOneTooMany b [] kind → ¬ IsOneTooMany a done kind
room_since a b done None adds room full = full
room_since a b done (Some k) adds room full = room (omega (arith, full, adds.counted k))

-- counts with the same numbers
pub same_count : (a b : Counts) → numbers a ≡ numbers b → (k : Counted) → count_of a k ≡ count_of b k
same_count a b e counted.Groups = cc
same_count a b e counted.Words = cc
same_count a b e counted.Subgroups = cc
same_count a b e counted.Maps = cc
same_count a b e counted.Questions = cc
same_count a b e counted.Generators = cc
same_count a b e counted.Relators = cc
same_count a b e counted.Members = cc
same_count a b e counted.Reports = cc

-- the counts stay within their limits where one more isn't too many
counted_at : ℕ → Counted
counted_at n =
    get_or (counted.Groups ∷ counted.Words ∷ counted.Subgroups ∷ counted.Maps ∷ counted.Questions ∷ counted.Generators ∷ counted.Relators ∷ counted.Members ∷ counted.Reports ∷ []) n counted.Groups

counted_back : (k : Counted) → counted_at (counted_number k) ≡ k
unfolding counted_at
counted_back counted.Groups = refl
counted_back counted.Words = refl
counted_back counted.Subgroups = refl
counted_back counted.Maps = refl
counted_back counted.Questions = refl
counted_back counted.Generators = refl
counted_back counted.Relators = refl
counted_back counted.Members = refl
counted_back counted.Reports = refl

one_counted : (k j : Counted) → counted_number k ≡ counted_number j → k ≡ j
one_counted k j e = sym (counted_back k) ∙ ap counted_at e ∙ counted_back j

same_or_other : (k j : Counted) → (k ≡ j) ⊎ (is_one k (Some j) ≡ false)
same_or_other k j = by_test (is_one k (Some j)) refl
  where
    by_test : (b : Bool) → is_one k (Some j) ≡ b → (k ≡ j) ⊎ (is_one k (Some j) ≡ false)
    by_test true e = inl (one_counted k j (eqb-true (counted_number k) (counted_number j) e))
    by_test false e = inr e

none_of : (k : Counted) (kind : Option Counted) → is_one k kind ≡ false → how_many k (sign kind lexeme.Name ∷ []) ≡ 0
none_of k kind e = rw e refl

at_most_one : (k : Counted) (kind : Option Counted) → how_many k (sign kind lexeme.Name ∷ []) ≤ 1
at_most_one k kind = by_test (is_one k kind) refl
  where
    by_test : (b : Bool) → is_one k kind ≡ b → how_many k (sign kind lexeme.Name ∷ []) ≤ 1
    by_test true e = rw e (omega arith)
    by_test false e = rw e (omega arith)

pub within_one : (a b : Counts) (kind : Option Counted) → AddsOne kind a b → ¬ IsOneTooMany a [] kind → AreWithinLimits a → b.letters ≤ LETTER_LIMIT → AreWithinLimits b
within_one a b None one room within letters =
    record { counted = λ k. omega (arith, one k, none_of k None refl, within.counted k); letters = letters }
within_one a b (Some j) one room within letters = record { counted = counted; letters = letters }
  where
    with_one : count_of b j ≤ limit_of j
    with_one =
        ⊎_elim (λ less. omega (arith, one j, at_most_one j (Some j), less)) (λ more. absurd (room (omega (arith, more)))) (cases_lt (count_of a j) (limit_of j))

    counted : (k : Counted) → count_of b k ≤ limit_of k
    counted k =
        ⊎_elim (λ same. subst (λ i. count_of b i ≤ limit_of i) (sym same) with_one)
        (λ other. omega (arith, one k, none_of k (Some j) other, within.counted k)) (same_or_other k j)

pub bounded_push : (ps : List Piece) (p : Piece) → AllByRecursion IsBounded ps → IsBounded p → AllByRecursion IsBounded (ps ++ p ∷ [])
bounded_push [] p all here = (here, tt)
bounded_push (q ∷ ps) p all here = (all.0, bounded_push ps p all.1 here)

-- what is left
pub ahead_is : (s : Start) (r : Rest) (now : Reader) (knows : Knows s r now) → drop now.place now.lexemes.now ≡ knows.ahead
ahead_is s r now knows =
    ap (drop now.place) (knows.lexemes ∙ knows.stand.split) ∙ ap (λ n. drop n (pieces_lexemes knows.done ++ knows.ahead)) knows.place ∙ drop-append_seam (pieces_lexemes knows.done) knows.ahead

misses_sign : (kind : Option Counted) (k : Class) (r : Rest) (zs : List Lexeme) → ((x : Lexeme) (xs : List Lexeme) → zs ≡ x ∷ xs → IsIn k x → ⊥) → Misses (sign_then kind k r) zs
misses_sign kind k r [] other = λ none. none
misses_sign kind k r (x ∷ xs) other = λ in_class. other x xs refl in_class

pub not_next : (s : Start) (t : Rest) (now : Reader) (knows : Knows s t now) (kind : Option Counted) (k : Class) (r : Rest) → ¬ IsNext now k → Misses (sign_then kind k r) knows.ahead
not_next s t now knows kind k r other = misses_sign kind k r knows.ahead (λ x xs e in_class. other (x, xs, ahead_is s t now knows ∙ e, in_class))

misses_word : (kind : Option Counted) (left : Option Word) (f : Word → Rest) (zs : List Lexeme) → ((x : Lexeme) (xs : List Lexeme) → zs ≡ x ∷ xs → BeginsBase x → ⊥) → Misses (word_then kind left f) zs
misses_word kind left f [] other = λ none. none
misses_word kind left f (x ∷ xs) other = λ base. other x xs refl base

misses_asked : (zs : List Lexeme) → ((x : Lexeme) (xs : List Lexeme) → zs ≡ x ∷ xs → BeginsBase x → ⊥) → Misses asked_rest zs
misses_asked [] other = λ can. ⊎_elim (λ none. none) (λ none. none) can
misses_asked (x ∷ xs) other = λ begins. ⊎_elim (λ is_name. other x xs refl (subst BeginsBase (sym is_name) tt)) (λ base. other x xs refl base) begins

misses_word_then : (ahead : List Lexeme) (kind : Option Counted) (left : Option Word) (f : Word → Rest) (r : Rest) → IsWordThen ahead kind left f r → (zs : List Lexeme) →
    ((x : Lexeme) (xs : List Lexeme) → zs ≡ x ∷ xs → BeginsBase x → ⊥) → Misses r zs
misses_word_then ahead _ _ _ _ (any_word kind left f) zs other = misses_word kind left f zs other
misses_word_then ahead _ _ _ _ (no_property apart) zs other = misses_asked zs other

pub no_word : (s : Start) (t : Rest) (now : Reader) (knows : Knows s t now) (kind : Option Counted) (left : Option Word) (f : Word → Rest) → IsWordThen (drop now.place now.lexemes.now) kind left f t →
    ¬ BeginsWord now → Misses t knows.ahead
no_word s t now knows kind left f is_word other =
    misses_word_then (drop now.place now.lexemes.now) kind left f t is_word knows.ahead (λ x xs e base. other (x, xs, ahead_is s t now knows ∙ e, base))

-- whether a name and a property come next
behind_one : (p : ℕ) (xs : List Lexeme) (x : Lexeme) (rest : List Lexeme) → drop p xs ≡ x ∷ rest → drop (p + 1) xs ≡ rest
behind_one zero xs x rest e = ap (drop 1) e
behind_one (suc p) [] x rest e = absurd cc
behind_one (suc p) (y ∷ ys) x rest e = let one : suc p + 1 ≡ suc (p + 1) = omega arith in ap (λ n. drop n (y ∷ ys)) one ∙ behind_one p ys x rest e

pub property_tells : (p : ℕ) (xs : List Lexeme) (b : Bool) (x : Lexeme) (rest : List Lexeme) → drop p xs ≡ x ∷ rest → x ≡ lexeme.Name → (y : Lexeme) (ys : List Lexeme) → drop (p + 1) xs ≡ y ∷ ys →
    IsTrue b ↔ IsIn a_property y → IsTrue b ↔ IsPropertyNext (drop p xs)
property_tells p xs b x rest e is_name y ys f says =
    let behind : rest ≡ y ∷ ys = sym (behind_one p xs x rest e) ∙ f in (
      λ on. (y, ys, e ∙ ap (λ u. u ∷ rest) is_name ∙ ap (λ us. lexeme.Name ∷ us) behind, says.0 on),
      λ next.
          let list : x ∷ rest ≡ lexeme.Name ∷ next.0 ∷ next.1 = sym e ∙ next.2 in
          let same : y ≡ next.0 = cc in
          says.1 (subst (IsIn a_property) (sym same) next.3),
    )

pub property_missing : (p : ℕ) (xs : List Lexeme) (x : Lexeme) (rest : List Lexeme) → drop p xs ≡ x ∷ rest → drop (p + 1) xs ≡ [] → IsTrue false ↔ IsPropertyNext (drop p xs)
property_missing p xs x rest e f =
    let behind : rest ≡ [] = sym (behind_one p xs x rest e) ∙ f in (
      λ on. absurd cc,
      λ next. let list : x ∷ rest ≡ lexeme.Name ∷ next.0 ∷ next.1 = sym e ∙ next.2 in absurd cc,
    )

-- where nothing goes on
pub unexpected : (s : Start) (r : Rest) (now : Reader) (knows : Knows s r now) → Misses r knows.ahead → IsFirstCause s.counts s.lexemes now.place cause.Unexpected
unexpected s r now knows misses = subst (λ p. IsFirstCause s.counts s.lexemes p cause.Unexpected) (sym knows.place) (stuck s r knows.done knows.ahead knows.stand misses)

-- a lexeme
pub sign_refused : (s : Start) (kind : Option Counted) (k : Class) (r : Rest) (now : Reader) → Knows s (sign_then kind k r) now → IsNext now k → IsOneTooMany now.counts [] kind →
    IsFirstCause s.counts s.lexemes now.place cause.TooMany
sign_refused s kind k r now knows next full =
    let left : knows.ahead ≡ next.0 ∷ next.1 = sym (ahead_is s (sign_then kind k r) now knows) ∙ next.2 in
    let stand = subst (λ zs. Stand s (sign_then kind k r) knows.done zs) left knows.stand in
    subst (λ p. IsFirstCause s.counts s.lexemes p cause.TooMany) (sym knows.place)
    (sign_full s kind k r knows.done next.0 next.1 stand next.3 (full_since s.counts now.counts knows.done kind knows.adds full))

pub sign_taken : (s : Start) (kind : Option Counted) (k : Class) (r : Rest) (now : Reader) (counts : Counts) → Knows s (sign_then kind k r) now → IsNext now k → ¬ IsOneTooMany now.counts [] kind →
    AddsOne kind now.counts counts → counts.letters ≡ now.counts.letters → Knows s r (record { lexemes = now.lexemes; place = now.place + 1; counts = counts })
sign_taken s kind k r now counts knows next room one letters =
    let left : knows.ahead ≡ next.0 ∷ next.1 = sym (ahead_is s (sign_then kind k r) now knows) ∙ next.2 in
    let stand = subst (λ zs. Stand s (sign_then kind k r) knows.done zs) left knows.stand in
    let x = next.0 in
    record {
      done = knows.done ++ sign kind x ∷ [];
      ahead = next.1;
      stand = sign_passed s kind k r knows.done x next.1 stand next.3 (room_since s.counts now.counts knows.done kind knows.adds room);
      lexemes = knows.lexemes;
      place = omega (arith, knows.place, ap length (pieces_push knows.done (sign kind x)), length-append (pieces_lexemes knows.done) (x ∷ []));
      adds = adds_piece s.counts now.counts counts knows.done (sign kind x) knows.adds one (omega (arith, letters));
      bounded = bounded_push knows.done (sign kind x) knows.bounded tt;
      within = λ start. let here = knows.within start in within_one now.counts counts kind one room here (omega (arith, letters, here.letters));
    }

-- one of two
pub knows_first : (s : Start) (a b : Rest) (now : Reader) → Knows s (either a b) now → (x : Lexeme) (xs : List Lexeme) → drop now.place now.lexemes.now ≡ x ∷ xs → Begins a x → Knows s a now
knows_first s a b now knows x xs e begins =
    let left : knows.ahead ≡ x ∷ xs = sym (ahead_is s (either a b) now knows) ∙ e in
    record {
      done = knows.done;
      ahead = x ∷ xs;
      stand = first_chosen s a b knows.done x xs (subst (λ zs. Stand s (either a b) knows.done zs) left knows.stand) begins;
      lexemes = knows.lexemes;
      place = knows.place;
      adds = knows.adds;
      bounded = knows.bounded;
      within = knows.within;
    }

pub knows_second : (s : Start) (a b : Rest) (now : Reader) (knows : Knows s (either a b) now) → Misses a knows.ahead → Knows s b now
knows_second s a b now knows misses = record {
  done = knows.done;
  ahead = knows.ahead;
  stand = second_chosen s a b knows.done knows.ahead knows.stand misses;
  lexemes = knows.lexemes;
  place = knows.place;
  adds = knows.adds;
  bounded = knows.bounded;
  within = knows.within;
}

pub none_added : (counts : Counts) → AddsOne None counts counts
none_added counts k = omega arith

pub takes_first : (s : Start) (k : Class) (a b : Rest) (now : Reader) → Knows s (either (sign_then None k a) b) now → IsNext now k →
    Knows s a (record { lexemes = now.lexemes; place = now.place + 1; counts = now.counts })
takes_first s k a b now knows next =
    sign_taken s None k a now now.counts (knows_first s (sign_then None k a) b now knows next.0 next.1 next.2 next.3) next (λ full. full) (none_added now.counts) refl

pub leaves_first : (s : Start) (k : Class) (a b : Rest) (now : Reader) → Knows s (either (sign_then None k a) b) now → ¬ IsNext now k → Knows s b now
leaves_first s k a b now knows other = knows_second s (sign_then None k a) b now knows (not_next s (either (sign_then None k a) b) now knows None k a other)

-- the next of some signs
pub next_sign : (s : Start) (signs : List Sign) (i : ℕ) (d : Sign) (r : Rest) (now : Reader) → i < length signs → Knows s (signs_then (drop i signs) r) now →
    Knows s (sign_then (get_or signs i d).counted (class_of (get_or signs i d).expected) (signs_then (drop (suc i) signs) r)) now
next_sign s signs i d r now inside knows = subst (λ xs. Knows s (signs_then xs r) now) (drop-cons signs i d inside) knows

-- by the answer of a choice
pub went_first : (s : Start) (a b : Rest) (new : Reader) (taken : Bool) → Chooses s a b new taken → taken ≡ true → Knows s a new
went_first s a b new taken chooses e = subst (Chooses s a b new) e chooses

pub went_second : (s : Start) (a b : Rest) (new : Reader) (taken : Bool) → Chooses s a b new taken → taken ≡ false → Knows s b new
went_second s a b new taken chooses e = subst (Chooses s a b new) e chooses

-- at the end
pub end_refused : (s : Start) (now : Reader) → Knows s end now → (x : Lexeme) (xs : List Lexeme) → drop now.place now.lexemes.now ≡ x ∷ xs → IsFirstCause s.counts s.lexemes now.place cause.Unexpected
end_refused s now knows x xs e =
    let left : knows.ahead ≡ x ∷ xs = sym (ahead_is s end now knows) ∙ e in
    unexpected s end now knows (subst (Misses end) (sym left) (λ none. none))

pub end_reached : (s : Start) (now : Reader) → Knows s end now → drop now.place now.lexemes.now ≡ [] → Finishes s now (Ok tt)
end_reached s now knows e =
    let left : knows.ahead ≡ [] = sym (ahead_is s end now knows) ∙ e in
    let h = finished s knows.done (subst (λ zs. Stand s end knows.done zs) left knows.stand) in
    record {
      statement = h.0.0;
      lexemes = ap pieces_lexemes h.0.1 ∙ h.1;
      adds = subst (λ ps. Adds ps s.counts now.counts) (sym h.0.1) knows.adds;
      bounded = subst (AllByRecursion IsBounded) (sym h.0.1) knows.bounded;
      within = knows.within;
      faultless = h.2;
    }

-- a fault that is passed on
pub passed_on : (s : Start) (t : Rest) (now : Reader) (result : Result Unit StatementFault) (f : StatementFault) → (y : StatementFault) × (result ≡ Err y) × (y ≡ f) → IsFirstCause s.counts s.lexemes f.place f.cause → Brings s t now result
passed_on s t now result f p first = rw p.1 (subst (λ g. IsFirstCause s.counts s.lexemes g.place g.cause) (sym p.2) first)
