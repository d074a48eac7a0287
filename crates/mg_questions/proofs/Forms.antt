-- Freely reduced forms, one after another.
use Rattle.std.proofs.Common.{◌≡◌, ℕ, ◌+◌, ◌<◌, List, ℤ, [], ◌∷◌, ◌++◌, map, length, get_or, take, sym, ap, subst, ◌∙◌, arith}
use Rattle.std.specs.List.{AllByRecursion, AllZip}
use Rattle.std.proofs.lemmas.List.{map_more, map_push, get_or-map, length-map}
use Rattle.std.proofs.lemmas.List.Elements.{AllZip-push, All-from_recursion}
use Rattle.mg_words.specs.Word.{Held, letters_of}
use Rattle.mg_words.specs.Reduction.{IsFormOf}

-- the word at a place of a list
pub record IsWordAt (words : List Held) (place : ℕ) (word : Held) : Type 0 where
  pub within : place < length words
  pub is : word ≡ get_or words place word

letters_next : (words : List Held) (place : ℕ) (word : Held) → IsWordAt words place word → letters_of (take (place + 1) words) ≡ letters_of (take place words) ++ word.letters ∷ []
letters_next words place word at =
    map_more (λ (w : Held). w.letters) words place word at.within ∙ ap (λ (w : Held). letters_of (take place words) ++ w.letters ∷ []) (sym at.is)

-- one more form
pub forms_next : (words : List Held) (place : ℕ) (word : Held) (goals new : List (List ℤ)) (form : List ℤ) → IsWordAt words place word → AllZip IsFormOf (letters_of (take place words)) goals → IsFormOf word.letters form → new ≡ goals ++ form ∷ []
    → AllZip IsFormOf (letters_of (take (place + 1) words)) new
forms_next words place word goals new form at before one e =
    subst (λ (ws : List (List ℤ)). AllZip IsFormOf ws new) (sym (letters_next words place word at))
    (subst (λ (gs : List (List ℤ)). AllZip IsFormOf (letters_of (take place words) ++ word.letters ∷ []) gs) (sym e)
    (AllZip-push IsFormOf (letters_of (take place words)) goals word.letters form before one))

-- one more form of a word made from the word there
pub made_forms_next : (f : List ℤ → List ℤ) (words : List Held) (place : ℕ) (word : Held) (goals new : List (List ℤ)) (form : List ℤ) → IsWordAt words place word → AllZip IsFormOf (map f (letters_of (take place words))) goals
    → IsFormOf (f word.letters) form → new ≡ goals ++ form ∷ [] → AllZip IsFormOf (map f (letters_of (take (place + 1) words))) new
made_forms_next f words place word goals new form at before one e =
    subst (λ (ws : List (List ℤ)). AllZip IsFormOf ws new) (sym (ap (map f) (letters_next words place word at) ∙ map_push f (letters_of (take place words)) word.letters))
    (subst (λ (gs : List (List ℤ)). AllZip IsFormOf (map f (letters_of (take place words)) ++ f word.letters ∷ []) gs) (sym e)
    (AllZip-push IsFormOf (map f (letters_of (take place words))) goals (f word.letters) form before one))

-- what holds of the letters of each word holds of those of the one there
pub letters_at : (P : List ℤ → Type 0) (words : List Held) (place : ℕ) (word : Held) → IsWordAt words place word → AllByRecursion P (letters_of words) → P word.letters
letters_at P words place word at each =
    subst P (get_or-map (λ (w : Held). w.letters) words place word [] at.within ∙ ap (λ (w : Held). w.letters) (sym at.is))
    (All-from_recursion P (letters_of words) each place [] (omega (arith, at.within, length-map words (λ (w : Held). w.letters))))
