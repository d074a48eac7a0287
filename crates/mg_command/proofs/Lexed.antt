-- The form of a word: `--`, a long option with its value if any, or no long option.
use Rattle.std.proofs.Common.{◌≡◌, ◌⊎◌, inl, inr, ℕ, zero, suc, ◌==◌, Bool, true, false, List, [], ◌∷◌, ◌++◌, Option, Some, None, refl, sym, ap, subst, arith, ◌∙◌}
use Rattle.std.specs.Prelude.{option_and_then, if◌then◌else◌}
use Rattle.std.proofs.lemmas.Bool.{cases_eq}
use Rattle.std.proofs.lemmas.Bool.Decides.{nat_tests}
use Rattle.clap.specs.Lexer.{strip_byte, name_and_value, long_of, long_of_rest}
use Rattle.clap.proofs.CutLemmas.{Lacks}
use Rattle.clap.proofs.LexerLemmas.{name_and_value-at, name_and_value-without}

-- a name, with a value behind an equals sign if there is one
abbrev pub whole : List ℕ → Option (List ℕ) → List ℕ
whole name None = name
whole name (Some text) = name ++ 61 ∷ text

lacks_more : (c x : ℕ) (xs : List ℕ) → (x ≡ c → ⊥) → Lacks c xs → Lacks c (x ∷ xs)
lacks_more c x xs other lacks zero lt = other
lacks_more c x xs other lacks (suc i) lt = lacks i (omega (arith, lt))

lacks_none : (c : ℕ) → Lacks c []
lacks_none c i lt = absurd (omega (arith, lt))

-- a text has no equals sign, or is cut at the first
cut : (text : List ℕ) → Lacks 61 text ⊎ ((xs : List ℕ) × (ys : List ℕ) × Lacks 61 xs × (text ≡ xs ++ 61 ∷ ys))
cut [] = inl (lacks_none 61)
cut (x ∷ text) = elim (cases_eq x 61) [
  | inl same ↦ inr ([], text, lacks_none 61, ap (λ (y : ℕ). y ∷ text) same)
  | inr other ↦ elim (cut text) [
    | inl none ↦ inl (lacks_more 61 x text other none)
    | inr found ↦ inr (x ∷ found.0, found.1, lacks_more 61 x found.0 other found.2, ap (λ (rest : List ℕ). x ∷ rest) found.3)
  ]
]

abbrev IsCut : List ℕ → Type 0
IsCut text = (name : List ℕ) × (v : Option (List ℕ)) × (name_and_value text ≡ (name, v)) × (text ≡ whole name v)

is_cut : (text : List ℕ) → IsCut text
is_cut text = elim (cut text) [
  | inl none ↦ (text, None, name_and_value-without text none, refl)
  | inr found ↦ (found.0, Some found.1, ap name_and_value found.3 ∙ name_and_value-at found.0 found.1 found.2, found.3)
]

pub data Form (word : List ℕ) : Type 0 where
  dashes : word ≡ 45 ∷ 45 ∷ [] → Form word
  named : (name : List ℕ) (v : Option (List ℕ)) → long_of word ≡ Some (name, v) → word ≡ 45 ∷ 45 ∷ whole name v → Form word
  other : long_of word ≡ None → Form word

tested : (x : ℕ) → (x == 45) ≡ true → x ≡ 45
tested x e = grind (arith, nat_tests)

of_rest : (rest : List ℕ) → Form (45 ∷ 45 ∷ rest)
of_rest [] = dashes refl
of_rest (x ∷ xs) = let c = is_cut (x ∷ xs) in named c.0 c.1 (ap Some c.2) (ap (λ (t : List ℕ). 45 ∷ 45 ∷ t) c.3)

pub form : (word : List ℕ) → Form word
form [] = other refl
form (x ∷ xs) = go (x == 45) refl
  where
    second : (xs : List ℕ) → Form (45 ∷ xs)
    second [] = other refl
    second (y ∷ ys) = at_second (y == 45) refl
      where
        at_second : (b : Bool) → (y == 45) ≡ b → Form (45 ∷ y ∷ ys)
        at_second true e = subst (λ (z : ℕ). Form (45 ∷ z ∷ ys)) (sym (tested y e)) (of_rest ys)
        at_second false e = other (ap (λ (c : Bool). option_and_then long_of_rest (if c then Some ys else None)) e)

    go : (b : Bool) → (x == 45) ≡ b → Form (x ∷ xs)
    go true e = subst (λ (z : ℕ). Form (z ∷ xs)) (sym (tested x e)) (second xs)
    go false e = other (ap (λ (c : Bool). option_and_then long_of_rest (option_and_then (strip_byte 45) (if c then Some xs else None))) e)
