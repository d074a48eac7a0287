-- The last token of a line.
use Rattle.std.proofs.Common.{◌≡◌, ℕ, suc, ◌-◌, ◌≤◌, List, [], ◌∷◌, length, get_or, refl, ap, ◌∙◌, arith}
use Rattle.mg_lex.specs.declared.token.Token.{Token}
use Rattle.mg_names.specs.Cause.{last_place}

pub last_is : (ts : List Token) (d : Token) → 1 ≤ length ts → (get_or ts (length ts - 1) d).start ≡ last_place ts
last_is [] d some = absurd (omega arith)
last_is (t ∷ []) d some = refl
last_is (t ∷ (u ∷ ts)) d some =
    let e : length (t ∷ (u ∷ ts)) - 1 ≡ suc (length (u ∷ ts) - 1) = omega arith in
    ap (λ (i : ℕ). (get_or (t ∷ (u ∷ ts)) i d).start) e ∙ last_is (u ∷ ts) d (omega arith)
