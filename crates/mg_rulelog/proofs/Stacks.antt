-- A word in two stacks: a letter that goes from one to the other leaves the word the same.
use Rattle.std.proofs.Common.{◌≡◌, ℤ, List, [], ◌∷◌, ◌++◌, reverse, ◌↔◌, IsTrue, Bool, true, false, true≢false, refl, sym, ap, ◌∙◌, append_assoc}
use Rattle.std.proofs.lemmas.List.{reverse-append}
use Rattle.std.specs.declared.cmp.Ordering.{Ordering}
use Rattle.std.specs.declared.cmp.Ordering.TheVariants.{Less, Equal, Greater}
use Rattle.std.specs.Ordering.{is_eq, is_ne}
use Rattle.mg_words.specs.Orders.{letters_cmp}
use Rattle.mg_words.proofs.Exact.{letters_exact, letters_same}

equal_of : (o : Ordering) → is_eq o ≡ true → o ≡ Equal
equal_of Less e = cc
equal_of Equal e = refl
equal_of Greater e = cc

equal_from : (o : Ordering) → is_ne o ≡ false → o ≡ Equal
equal_from Less e = cc
equal_from Equal e = refl
equal_from Greater e = cc

-- the last letter before the place goes behind it
pub moved_behind : (before rest behind : List ℤ) (x : ℤ) → before ≡ rest ++ x ∷ [] → rest ++ reverse (behind ++ x ∷ []) ≡ before ++ reverse behind
moved_behind before rest behind x e =
    ap (λ t. rest ++ t) (reverse-append behind (x ∷ [])) ∙ (sym (append_assoc rest (x ∷ []) (reverse behind)) ∙ ap (λ t. t ++ reverse behind) (sym e))

-- the first letter behind the place goes before it
pub moved_before : (before behind rest : List ℤ) (x : ℤ) → behind ≡ rest ++ x ∷ [] → (before ++ x ∷ []) ++ reverse rest ≡ before ++ reverse behind
moved_before before behind rest x e =
    append_assoc before (x ∷ []) (reverse rest) ∙ ap (λ t. before ++ t) (sym (reverse-append rest (x ∷ [])) ∙ ap reverse (sym e))

-- what comparing lists of letters tells
pub tells_equal : (a u b : List ℤ) (same : Bool) → a ≡ u → same ≡ is_eq (letters_cmp a b) → IsTrue same ↔ (u ≡ b)
tells_equal a u b same e told = (
  λ is. sym e ∙ letters_exact a b (equal_of (letters_cmp a b) (sym told ∙ is)),
  λ h. told ∙ ap is_eq (letters_same a b (e ∙ h)),
)

pub differ_told : (a b : List ℤ) (differ : Bool) → differ ≡ is_ne (letters_cmp a b) → differ ≡ true → a ≡ b → ⊥
differ_told a b differ told is e = true≢false (sym is ∙ (told ∙ ap is_ne (letters_same a b e)))

pub same_told : (a b : List ℤ) (differ : Bool) → differ ≡ is_ne (letters_cmp a b) → differ ≡ false → a ≡ b
same_told a b differ told is = letters_exact a b (equal_from (letters_cmp a b) (sym told ∙ is))
