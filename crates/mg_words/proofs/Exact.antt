-- The orders of letters, words and lists of words tell every two different values apart.
use Rattle.std.proofs.Common.{◌≡◌, ℕ, Bool, true, false, ℤ, pos, negsuc, List, [], ◌∷◌, refl, sym, ap, ◌∙◌, arith}
use Rattle.std.specs.declared.cmp.Ordering.{Ordering}
use Rattle.std.specs.declared.cmp.Ordering.TheVariants.{Less, Equal, Greater}
use Rattle.std.specs.Ordering.{nat_cmp, bool_cmp, ordering_then}
use Rattle.std.specs.Cmp.Lexicographic.{slice_cmp}
use Rattle.std.proofs.lemmas.Bool.Decides.{nat_tests}
use Rattle.std.proofs.lemmas.Cmp.{tied_itself}
use Rattle.mg_words.specs.Letter.{fields_of}
use Rattle.mg_words.specs.Orders.{letter_cmp, letters_cmp, words_cmp, letters_total, words_total}

then_equal : (o p : Ordering) → ordering_then o p ≡ Equal → (o ≡ Equal) × (p ≡ Equal)
then_equal Less p e = cc
then_equal Equal p e = (refl, e)
then_equal Greater p e = cc

nat_exact : (a b : ℕ) → nat_cmp a b ≡ Equal → a ≡ b
nat_exact a b e = grind (arith, nat_tests)

bool_exact : (a b : Bool) → bool_cmp a b ≡ Equal → a ≡ b
bool_exact false false e = refl
bool_exact true true e = refl
bool_exact false true e = cc
bool_exact true false e = cc

fields_exact : (a b : ℤ) → (fields_of a).generator ≡ (fields_of b).generator → (fields_of a).inverse ≡ (fields_of b).inverse → a ≡ b
fields_exact (pos a) (pos b) e f = ap pos e
fields_exact (pos a) (negsuc b) e f = cc
fields_exact (negsuc a) (pos b) e f = cc
fields_exact (negsuc a) (negsuc b) e f = let k : a ≡ b = omega arith in ap negsuc k

pub letter_exact : (a b : ℤ) → letter_cmp a b ≡ Equal → a ≡ b
letter_exact a b e =
    let s = then_equal (nat_cmp (fields_of a).generator (fields_of b).generator) (bool_cmp (fields_of a).inverse (fields_of b).inverse) e in
    fields_exact a b (nat_exact _ _ s.0) (bool_exact _ _ s.1)

-- lists compared member by member are one where they compare equal, if members are
pub lists_exact : {X : Type 0} (cmp : X → X → Ordering) → ((a b : X) → cmp a b ≡ Equal → a ≡ b) → (xs ys : List X) → slice_cmp cmp xs ys ≡ Equal → xs ≡ ys
lists_exact cmp exact [] [] e = refl
lists_exact cmp exact [] (y ∷ ys) e = cc
lists_exact cmp exact (x ∷ xs) [] e = cc
lists_exact cmp exact (x ∷ xs) (y ∷ ys) e =
    let s = then_equal (cmp x y) (slice_cmp cmp xs ys) e in
    ap (λ z. z ∷ xs) (exact x y s.0) ∙ ap (λ t. y ∷ t) (lists_exact cmp exact xs ys s.1)

pub letters_exact : (a b : List ℤ) → letters_cmp a b ≡ Equal → a ≡ b
letters_exact = lists_exact letter_cmp letter_exact

pub words_exact : (a b : List (List ℤ)) → words_cmp a b ≡ Equal → a ≡ b
words_exact = lists_exact letters_cmp letters_exact

-- and each value compares equal to itself
pub letters_same : (a b : List ℤ) → a ≡ b → letters_cmp a b ≡ Equal
letters_same a b e = ap (letters_cmp a) (sym e) ∙ tied_itself letters_total a

pub words_same : (a b : List (List ℤ)) → a ≡ b → words_cmp a b ≡ Equal
words_same a b e = ap (words_cmp a) (sym e) ∙ tied_itself words_total a
