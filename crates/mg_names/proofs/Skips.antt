-- Going over a word by counting its brackets.
use Rattle.std.proofs.Common.{◌≡◌, ℕ, ◌+◌, ◌-◌, ◌==◌, ◌&&◌, if◌then◌else◌, Bool, true, false, not, Some, None, List, [], ◌∷◌, ◌++◌, length, drop, refl, sym, ap, subst, ◌∙◌, append_assoc, arith}
use Rattle.std.proofs.lemmas.Bool.Decides.{Decides-eqb}
use Rattle.mg_lex.specs.declared.mark.Mark.TheVariants as mark
use Rattle.mg_terms.specs.declared.lexeme.Lexeme.{Lexeme}
use Rattle.mg_names.specs.Named.{Base, named, one, round, commutator, Factor, bare, power, Word, single, times}
use Rattle.mg_names.specs.Sign.{Sign, a_name, the_mark, the_number, sign_lexeme, first_lexeme, goes_on, depth_behind, Stops, base_signs, factor_signs, word_signs}

-- nothing is gone over outside brackets that is no part of a word
abbrev pub stays : ℕ → Lexeme → Bool
stays n x = (n == 0) && not (goes_on x)

abbrev pub skipped : ℕ → List Sign → List Sign
skipped n [] = []
skipped n (s ∷ ss) = if stays n (sign_lexeme s) then s ∷ ss else skipped (depth_behind n (sign_lexeme s)) ss

and_false : (b : Bool) → b && false ≡ false
and_false true = refl
and_false false = refl

goes_over : (n : ℕ) (s : Sign) (ss : List Sign) → goes_on (sign_lexeme s) ≡ true → skipped n (s ∷ ss) ≡ skipped (depth_behind n (sign_lexeme s)) ss
goes_over n s ss e =
    ap (λ (b : Bool). if b then s ∷ ss else skipped (depth_behind n (sign_lexeme s)) ss) (ap (λ (b : Bool). (n == 0) && not b) e ∙ and_false (n == 0))

not_zero : (n : ℕ) → (n + 1 == 0) ≡ false
not_zero n = decided (n + 1 == 0) refl
  where
    decided : (b : Bool) → (n + 1 == 0) ≡ b → (n + 1 == 0) ≡ false
    decided false e = e
    decided true e = let h : n + 1 ≡ 0 = (Decides-eqb (n + 1) 0).0 e in absurd (omega arith)

goes_inside : (n : ℕ) (s : Sign) (ss : List Sign) → skipped (n + 1) (s ∷ ss) ≡ skipped (depth_behind (n + 1) (sign_lexeme s)) ss
goes_inside n s ss =
    ap (λ (b : Bool). if b && not (goes_on (sign_lexeme s)) then s ∷ ss else skipped (depth_behind (n + 1) (sign_lexeme s)) ss) (not_zero n)

closes : (n : ℕ) (ss : List Sign) → skipped (n + 1 - 1) ss ≡ skipped n ss
closes n ss = let e : n + 1 - 1 ≡ n = omega arith in ap (λ (k : ℕ). skipped k ss) e

mutual
  base_skipped : (n : ℕ) (b : Base) (rest : List Sign) → skipped n (base_signs b ++ rest) ≡ skipped n rest
  base_skipped n (named m) rest = goes_over n (a_name m) rest refl
  base_skipped n one rest = goes_over n (the_number 1) rest refl
  base_skipped n (round w) rest =
      goes_over n (the_mark mark.OpenRound) _ refl
      ∙ (ap (skipped (n + 1)) (append_assoc (word_signs w) (the_mark mark.CloseRound ∷ []) rest)
      ∙ (word_skipped (n + 1) w (the_mark mark.CloseRound ∷ rest) ∙ (goes_inside n (the_mark mark.CloseRound) rest ∙ closes n rest)))
  base_skipped n (commutator u v) rest =
      let right : List Sign = word_signs v ++ the_mark mark.CloseSquare ∷ rest in
      let split : (word_signs u ++ the_mark mark.Comma ∷ (word_signs v ++ the_mark mark.CloseSquare ∷ [])) ++ rest ≡ word_signs u ++ the_mark mark.Comma ∷ right = simp append_assoc in
      goes_over n (the_mark mark.OpenSquare) _ refl
      ∙ (ap (skipped (n + 1)) split
      ∙ (word_skipped (n + 1) u (the_mark mark.Comma ∷ right)
      ∙ (goes_inside n (the_mark mark.Comma) right
      ∙ (word_skipped (n + 1) v (the_mark mark.CloseSquare ∷ rest) ∙ (goes_inside n (the_mark mark.CloseSquare) rest ∙ closes n rest)))))

  factor_skipped : (n : ℕ) (f : Factor) (rest : List Sign) → skipped n (factor_signs f ++ rest) ≡ skipped n rest
  factor_skipped n (bare b) rest = base_skipped n b rest
  factor_skipped n (power b true k) rest =
      ap (skipped n) (append_assoc (base_signs b) (the_mark mark.Caret ∷ the_mark mark.Minus ∷ the_number k ∷ []) rest)
      ∙ (base_skipped n b (the_mark mark.Caret ∷ the_mark mark.Minus ∷ the_number k ∷ rest)
      ∙ (goes_over n (the_mark mark.Caret) (the_mark mark.Minus ∷ the_number k ∷ rest) refl
      ∙ (goes_over n (the_mark mark.Minus) (the_number k ∷ rest) refl ∙ goes_over n (the_number k) rest refl)))
  factor_skipped n (power b false k) rest =
      ap (skipped n) (append_assoc (base_signs b) (the_mark mark.Caret ∷ the_number k ∷ []) rest)
      ∙ (base_skipped n b (the_mark mark.Caret ∷ the_number k ∷ rest)
      ∙ (goes_over n (the_mark mark.Caret) (the_number k ∷ rest) refl ∙ goes_over n (the_number k) rest refl))

  word_skipped : (n : ℕ) (w : Word) (rest : List Sign) → skipped n (word_signs w ++ rest) ≡ skipped n rest
  word_skipped n (single f) rest = factor_skipped n f rest
  word_skipped n (times w true f) rest =
      ap (skipped n) (append_assoc (word_signs w) (the_mark mark.Star ∷ factor_signs f) rest)
      ∙ (word_skipped n w (the_mark mark.Star ∷ (factor_signs f ++ rest)) ∙ (goes_over n (the_mark mark.Star) (factor_signs f ++ rest) refl ∙ factor_skipped n f rest))
  word_skipped n (times w false f) rest =
      ap (skipped n) (append_assoc (word_signs w) (factor_signs f) rest) ∙ (word_skipped n w (factor_signs f ++ rest) ∙ factor_skipped n f rest)

stopped : (ss : List Sign) → Stops ss → skipped 0 ss ≡ ss
stopped [] h = refl
stopped (s ∷ ss) h = ap (λ (b : Bool). if not b then s ∷ ss else skipped (depth_behind 0 (sign_lexeme s)) ss) h

-- behind the word
pub behind_word : (old : List Sign) (w : Word) (rest : List Sign) → old ≡ word_signs w ++ rest → Stops rest → skipped 0 old ≡ rest
behind_word old w rest e h = ap (skipped 0) e ∙ (word_skipped 0 w rest ∙ stopped rest h)

pub stays_here : (ss : List Sign) (x : Lexeme) → Some x ≡ first_lexeme ss → goes_on x ≡ false → skipped 0 ss ≡ ss
stays_here [] x e h = absurd (none_some e)
  where
    none_some : Some x ≡ None → ⊥
    none_some k = cc
stays_here (s ∷ ss) x e h =
    let same : x ≡ sign_lexeme s = cc in
    stopped (s ∷ ss) (subst (λ (y : Lexeme). goes_on y ≡ false) same h)

pub one_skipped : (n : ℕ) (ss : List Sign) (x : Lexeme) → Some x ≡ first_lexeme ss → stays n x ≡ false → skipped n ss ≡ skipped (depth_behind n x) (drop 1 ss)
one_skipped n [] x e h = absurd (none_some e)
  where
    none_some : Some x ≡ None → ⊥
    none_some k = cc
one_skipped n (s ∷ ss) x e h =
    let same : x ≡ sign_lexeme s = cc in
    ap (λ (b : Bool). if b then s ∷ ss else skipped (depth_behind n (sign_lexeme s)) ss) (ap (stays n) (sym same) ∙ h)
    ∙ ap (λ (y : Lexeme). skipped (depth_behind n y) ss) (sym same)

pub none_left : (n : ℕ) (ss : List Sign) → length ss ≡ 0 → ss ≡ skipped n ss
none_left n [] e = refl
none_left n (s ∷ ss) e = absurd (omega arith)

pub none_first : (n : ℕ) (ss : List Sign) → None ≡ first_lexeme ss → ss ≡ skipped n ss
none_first n [] e = refl
none_first n (s ∷ ss) e = absurd (none_some e)
  where
    none_some : None ≡ Some (sign_lexeme s) → ⊥
    none_some k = cc
