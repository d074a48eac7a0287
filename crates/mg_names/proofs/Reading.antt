-- Reading the signs of a line one after another.
use Rattle.std.proofs.Common.{◌≡◌, ◌≢◌, ℕ, zero, suc, ◌+◌, ◌-◌, ◌<◌, ◌≤◌, true, false, not, Some, None, List, [], ◌∷◌, ◌++◌, length, get_or, refl, sym, ap, subst, ◌∙◌, arith}
use Rattle.mg_lex.specs.declared.token.Token.{Token}
use Rattle.mg_lex.specs.Line.{token_bytes}
use Rattle.mg_terms.specs.declared.lexeme.Lexeme.{Lexeme}
use Rattle.mg_terms.specs.declared.lexeme.Lexeme.TheVariants as lexeme
use Rattle.mg_names.specs.Named.{Named}
use Rattle.mg_names.specs.Sign.{Sign, a_name, a_lexeme, sign_of, signs_in, sign_lexeme, first_lexeme, goes_on, is_alone, StartsWithName, EndsWithName}

abbrev pub name_at : List ℕ → Token → Named
name_at bytes t = record { text = token_bytes bytes t; place = t.start }

pub lexeme_of_sign : (bytes : List ℕ) (t : Token) (x : Lexeme) → sign_lexeme (sign_of bytes t x) ≡ x
lexeme_of_sign bytes t lexeme.Name = refl
lexeme_of_sign bytes t (lexeme.Keyword k) = refl
lexeme_of_sign bytes t lexeme.RelatorSign = refl
lexeme_of_sign bytes t (lexeme.Number n) = refl
lexeme_of_sign bytes t (lexeme.Mark m) = refl

pub first_seen : (bytes : List ℕ) (ts : List Token) (xs : List Lexeme) (d : Lexeme) → length ts ≡ length xs → 1 ≤ length xs → Some (get_or xs 0 d) ≡ first_lexeme (signs_in bytes ts xs)
first_seen bytes [] [] d e h = absurd (omega arith)
first_seen bytes [] (x ∷ xs) d e h = absurd (omega arith)
first_seen bytes (t ∷ ts) [] d e h = absurd (omega arith)
first_seen bytes (t ∷ ts) (x ∷ xs) d e h = ap Some (sym (lexeme_of_sign bytes t x))

-- a sign that is a name is the name of its token
the_name : (bytes : List ℕ) (t : Token) (x : Lexeme) (n : Named) → sign_of bytes t x ≡ a_name n → sign_of bytes t x ≡ a_name (name_at bytes t)
the_name bytes t lexeme.Name n e = refl
the_name bytes t (lexeme.Keyword k) n e = absurd cc
the_name bytes t lexeme.RelatorSign n e = absurd cc
the_name bytes t (lexeme.Number k) n e = absurd cc
the_name bytes t (lexeme.Mark m) n e = absurd cc

last_alone : (bytes : List ℕ) (t : Token) (x : Lexeme) (front : List Sign) (n : Named) → sign_of bytes t x ∷ [] ≡ front ++ a_name n ∷ [] → sign_of bytes t x ∷ [] ≡ a_name (name_at bytes t) ∷ []
last_alone bytes t x [] n e = let same : sign_of bytes t x ≡ a_name n = cc in ap (λ (s : Sign). s ∷ []) (the_name bytes t x n same)
last_alone bytes t x (s ∷ []) n e = absurd cc
last_alone bytes t x (s ∷ r ∷ front) n e = absurd cc

abbrev pub BehindOne : List Sign → Sign → Type 0
BehindOne ss s = (front : List Sign) × (ss ≡ front ++ s ∷ [])

more_behind : (s : Sign) (ss : List Sign) (front : List Sign) (n : Named) → s ∷ ss ≡ front ++ a_name n ∷ [] → 1 ≤ length ss → EndsWithName ss
more_behind s ss [] n e h = let none : ss ≡ [] = cc in absurd (subst (λ (xs : List Sign). 1 ≤ length xs → ⊥) (sym none) (λ (k : 1 ≤ 0). omega arith) h)
more_behind s ss (r ∷ front) n e h = (front, n, cc)

pub last_sign : (bytes : List ℕ) (ts : List Token) (xs : List Lexeme) (d : Token) (i : ℕ) → length ts ≡ length xs → i + 1 ≡ length ts → EndsWithName (signs_in bytes ts xs) →
    BehindOne (signs_in bytes ts xs) (a_name (name_at bytes (get_or ts i d)))
last_sign bytes [] xs d i e h k = absurd (omega arith)
last_sign bytes (t ∷ ts) [] d i e h k = absurd (omega arith)
last_sign bytes (t ∷ []) (x ∷ []) d i e h k =
    let at : i ≡ 0 = omega arith in
    subst (λ (j : ℕ). BehindOne (sign_of bytes t x ∷ []) (a_name (name_at bytes (get_or (t ∷ []) j d)))) (sym at) ([], last_alone bytes t x k.0 k.1 k.2)
last_sign bytes (t ∷ []) (x ∷ y ∷ xs) d i e h k = absurd (omega arith)
last_sign bytes (t ∷ u ∷ ts) (x ∷ []) d i e h k = absurd (omega arith)
last_sign bytes (t ∷ u ∷ ts) (x ∷ y ∷ xs) d zero e h k = absurd (omega arith)
last_sign bytes (t ∷ u ∷ ts) (x ∷ y ∷ xs) d (suc i) e h k =
    let rest = last_sign bytes (u ∷ ts) (y ∷ xs) d i (omega arith) (omega arith) (more_behind (sign_of bytes t x) (signs_in bytes (u ∷ ts) (y ∷ xs)) k.0 k.1 k.2 (omega arith)) in
    (sign_of bytes t x ∷ rest.0, ap (λ (ss : List Sign). sign_of bytes t x ∷ ss) rest.1)

pub last_named : (bytes : List ℕ) (ts : List Token) (xs : List Lexeme) (ss : List Sign) (d : Token) (n : Named) → signs_in bytes ts xs ≡ ss → length ts ≡ length xs → 1 ≤ length ts →
    EndsWithName ss → n ≡ name_at bytes (get_or ts (length ts - 1) d) → BehindOne ss (a_name n)
last_named bytes ts xs ss d n e same some h is =
    let last = last_sign bytes ts xs d (length ts - 1) same (omega arith) (subst (λ (r : List Sign). EndsWithName r) (sym e) h) in
    (last.0, sym e ∙ (last.1 ∙ ap (λ (m : Named). last.0 ++ a_name m ∷ []) (sym is)))

-- a name comes next
pub name_first : (bytes : List ℕ) (ts : List Token) (xs : List Lexeme) (ss : List Sign) (d : Lexeme) → signs_in bytes ts xs ≡ ss → length ts ≡ length xs → 1 ≤ length xs → get_or xs 0 d ≡ lexeme.Name → StartsWithName ss
name_first bytes [] xs ss d e same some h = absurd (omega arith)
name_first bytes (t ∷ ts) [] ss d e same some h = absurd (omega arith)
name_first bytes (t ∷ ts) (x ∷ xs) ss d e same some h =
    (name_at bytes t, signs_in bytes ts xs, sym e ∙ ap (λ (y : Lexeme). sign_of bytes t y ∷ signs_in bytes ts xs) h)

pub no_name_first : (bytes : List ℕ) (ts : List Token) (xs : List Lexeme) (ss : List Sign) (d : Lexeme) → signs_in bytes ts xs ≡ ss → length ts ≡ length xs → 1 ≤ length xs → get_or xs 0 d ≢ lexeme.Name → first_lexeme ss ≢ Some lexeme.Name
no_name_first bytes ts xs ss d e same some n f =
    let same : Some (get_or xs 0 d) ≡ Some lexeme.Name = first_seen bytes ts xs d same some ∙ (ap first_lexeme e ∙ f) in n cc

pub nothing_first : (bytes : List ℕ) (ts : List Token) (xs : List Lexeme) (ss : List Sign) → signs_in bytes ts xs ≡ ss → length xs < 1 → first_lexeme ss ≢ Some lexeme.Name
nothing_first bytes [] xs ss e none f = let g : None ≡ Some lexeme.Name = ap first_lexeme e ∙ f in absurd cc
nothing_first bytes (t ∷ ts) [] ss e none f = let g : None ≡ Some lexeme.Name = ap first_lexeme e ∙ f in absurd cc
nothing_first bytes (t ∷ ts) (x ∷ xs) ss e none f = absurd (omega arith)

-- a name alone
pub not_alone : (ss : List Sign) → first_lexeme ss ≢ Some lexeme.Name → false ≡ is_alone ss
not_alone [] n = refl
not_alone (a_name m ∷ ss) n = absurd (n refl)
not_alone (a_lexeme x ∷ ss) n = refl

pub alone_next : (bytes : List ℕ) (ts : List Token) (xs : List Lexeme) (ss : List Sign) (d : Lexeme) → signs_in bytes ts xs ≡ ss → length ts ≡ length xs → 2 ≤ length xs → StartsWithName ss →
    not (goes_on (get_or xs 1 d)) ≡ is_alone ss
alone_next bytes [] xs ss d e same some h = absurd (omega arith)
alone_next bytes (t ∷ []) (x ∷ xs) ss d e same some h = absurd (omega arith)
alone_next bytes (t ∷ ts) [] ss d e same some h = absurd (omega arith)
alone_next bytes (t ∷ ts) (x ∷ []) ss d e same some h = absurd (omega arith)
alone_next bytes (t ∷ u ∷ ts) (x ∷ y ∷ xs) ss d e same some h =
    let both : ◌≡◌ {A = List Sign} (sign_of bytes t x ∷ sign_of bytes u y ∷ signs_in bytes ts xs) (a_name h.0 ∷ h.1) = e ∙ h.2 in
    let first : sign_of bytes t x ≡ a_name h.0 = cc in
    ap (λ (z : Lexeme). not (goes_on z)) (sym (lexeme_of_sign bytes u y))
    ∙ ap is_alone (ap (λ (s : Sign). s ∷ sign_of bytes u y ∷ signs_in bytes ts xs) (sym first) ∙ e)

pub alone_last : (bytes : List ℕ) (ts : List Token) (xs : List Lexeme) (ss : List Sign) → signs_in bytes ts xs ≡ ss → length ts ≡ length xs → length xs < 2 → StartsWithName ss → true ≡ is_alone ss
alone_last bytes [] xs ss e same less h = let both : ◌≡◌ {A = List Sign} [] (a_name h.0 ∷ h.1) = e ∙ h.2 in absurd cc
alone_last bytes (t ∷ ts) [] ss e same less h = absurd (omega arith)
alone_last bytes (t ∷ []) (x ∷ []) ss e same less h =
    let both : ◌≡◌ {A = List Sign} (sign_of bytes t x ∷ []) (a_name h.0 ∷ h.1) = e ∙ h.2 in
    let first : sign_of bytes t x ≡ a_name h.0 = cc in
    ap is_alone (ap (λ (s : Sign). s ∷ []) (sym first) ∙ e)
alone_last bytes (t ∷ []) (x ∷ y ∷ xs) ss e same less h = absurd (omega arith)
alone_last bytes (t ∷ u ∷ ts) (x ∷ xs) ss e same less h = absurd (omega arith)

pub signs_left : (bytes : List ℕ) (ts : List Token) (xs : List Lexeme) → length ts ≡ length xs → length ts ≡ length (signs_in bytes ts xs)
signs_left bytes [] xs e = refl
signs_left bytes (t ∷ ts) [] e = absurd (omega arith)
signs_left bytes (t ∷ ts) (x ∷ xs) e = ap suc (signs_left bytes ts xs (omega arith))
