-- What is read of a line, and what is answered of it.
use Rattle.std.proofs.Common.{◌≡◌, ℕ, ◌+◌, ◌<◌, ◌≤◌, List, [], ◌∷◌, ◌++◌, length, get_or, refl, sym, subst, arith, ◌⊎◌, inl, inr, ⊎_elim, append-nil}
use Rattle.std.specs.Prelude.{Option, Some, None, MatchOption, slice_get, Result, Ok, Err, IfOk}
use Rattle.std.specs.List.{AllZip}
use Rattle.std.proofs.lemmas.Option.{slice_get_read, slice_get_past, slice_get_cases}
use Rattle.mg_lex.specs.declared.refusal.Cause.{Cause}
use Rattle.mg_lex.specs.declared.refusal.Refused.{Refused}
use Rattle.mg_lex.specs.declared.token.Token.{Token}
use Rattle.mg_lex.specs.Cause as lex
use Rattle.mg_lex.specs.Refusal.{place_of, IsRefusal}
use Rattle.mg_terms.specs.declared.lexeme.Lexeme.{Lexeme}
use Rattle.mg_script.specs.declared.counted.Counts.{Counts}
use Rattle.mg_script.specs.declared.line.LineRead.{LineRead}
use Rattle.mg_script.specs.Cause.{IsFaultless, IsFirstCause}
use Rattle.mg_script.specs.LineRead.{IsWhole, IsReadOf, IsBlank, IsNoLater, IsLineRefusal}
use Rattle.mg_script.specs.Script.{ReadsAs, AreRead, all, up_to, LineIsFaultless, IsFirstInLine}
use Rattle.mg_script.proofs.LineLexemes.{all_within_limits, reads_more}
use Rattle.mg_script.proofs.LineCauses.{bytes_within, bytes_alone, bytes_before_end, bytes_before_token, token_before_bytes, line_faultless, token_alone, end_alone}

-- a token that a list has at a place
pub token_found : (us ts : List Token) (p : ℕ) (t : Token) → us ≡ ts → p < length us → t ≡ get_or us p t → slice_get ts p ≡ Some t
token_found us ts p t same within at = subst (λ vs. slice_get vs p ≡ Some t) same (slice_get_read us (length us) p t refl within at)

pub none_found : (us ts : List Token) (p : ℕ) → us ≡ ts → length us ≤ p → slice_get ts p ≡ None
none_found us ts p same past = subst (λ vs. slice_get vs p ≡ None) same (slice_get_past us p past)

pub at_some : {X : Type 0} (P : Type 0) (Q : X → Type 0) (o : Option X) (x : X) → o ≡ Some x → Q x → MatchOption o P Q
at_some P Q o x is holds = subst (λ r. MatchOption r P Q) (sym is) holds

pub at_none : {X : Type 0} (P : Type 0) (Q : X → Type 0) (o : Option X) → o ≡ None → P → MatchOption o P Q
at_none P Q o is holds = subst (λ r. MatchOption r P Q) (sym is) holds

-- a line whose bytes have no fault
is_whole : (line : List ℕ) (number : ℕ) (read : LineRead) → IsWhole line read → read.fault ≡ None → IsReadOf line number read
is_whole line number read whole none = record {
  tokens = all read.tokens whole.tokens whole.faultless;
  lexemes = all_within_limits line read.tokens read.lexemes whole.tokens.within_limits whole.lexemes;
  fault = at_none (IsWhole line read) (IsRefusal line number) read.fault none whole;
}

pub whole_read : {E : Type 0} (line : List ℕ) (number : ℕ) (r : Result LineRead E) → IfOk r (IsWhole line) → IfOk r (λ read. read.fault ≡ None) → IfOk r (IsReadOf line number)
whole_read line number (Ok read) whole none = is_whole line number read whole none
whole_read line number (Err e) whole none = tt

-- a line with a fault, and a token at it or none
pub read_with_token : {E : Type 0} (line : List ℕ) (place : ℕ) (c : Cause) (ts : List Token) (o : Option Token) (t : Token) (r : Result LineRead E) → o ≡ Some t → lex.IsFirstCause line place c → lex.AreTokensBefore line place ts → lex.IsTokenAt line place o → IfOk r (λ read. read.tokens ≡ ts ++ t ∷ []) → IfOk r (λ read. AreRead line read.tokens)
read_with_token line place c ts o t (Ok read) is first before at tokens =
    subst (AreRead line) (sym tokens) (up_to place c ts (Some t) first before (subst (lex.IsTokenAt line place) is at))
read_with_token line place c ts o t (Err e) is first before at tokens = tt

pub read_without_token : (line : List ℕ) (place : ℕ) (c : Cause) (ts : List Token) (o : Option Token) → o ≡ None → lex.IsFirstCause line place c → lex.AreTokensBefore line place ts → lex.IsTokenAt line place o → AreRead line ts
read_without_token line place c ts o is first before at =
    subst (AreRead line) (append-nil ts) (up_to place c ts None first before (subst (lex.IsTokenAt line place) is at))

pub token_taken : (line : List ℕ) (place : ℕ) (o : Option Token) (t : Token) → o ≡ Some t → lex.IsTokenAt line place o → lex.IsTokenAt line place (Some t)
token_taken line place o t is at = subst (lex.IsTokenAt line place) is at

pub reads_pushed : (line : List ℕ) (ts us : List Token) (xs ys : List Lexeme) (t : Token) (x : Lexeme) → us ≡ ts ++ t ∷ [] → ys ≡ xs ++ x ∷ [] → ReadsAs line t x → AllZip (ReadsAs line) ts xs → AllZip (ReadsAs line) us ys
reads_pushed line ts us xs ys t x tokens lexemes last reads =
    subst (λ vs. AllZip (ReadsAs line) vs ys) (sym tokens)
    (subst (AllZip (ReadsAs line) (ts ++ t ∷ [])) (sym lexemes) (reads_more line ts xs t x reads last))

-- a refusal at a place of the line
refusal_at : (counts : Counts) (line : List ℕ) (number : ℕ) (r : Refused) (place : ℕ) (c : Cause) → r.line ≡ number → r.column ≡ place + 1 → r.cause ≡ c → IsFirstInLine counts line place c → IsLineRefusal counts line number r
refusal_at counts line number r place c numbered column cause first =
    let here : place ≡ place_of r = omega arith in
    record {
      numbered = numbered;
      column = omega arith;
      first = subst (λ q. IsFirstInLine counts line q r.cause) here (subst (IsFirstInLine counts line place) (sym cause) first);
    }

refusal_of_bytes : (counts : Counts) (line : List ℕ) (number : ℕ) (r : Refused) → IsRefusal line number r → IsFirstInLine counts line (place_of r) r.cause → IsLineRefusal counts line number r
refusal_of_bytes counts line number r refusal first =
    record { numbered = refusal.line_number; column = refusal.column; first = first }

columns_no_later : (a b p q : ℕ) (c d : Cause) → a ≡ p + 1 → b ≡ q + 1 → IsNoLater a c b d → IsNoLater p c q d
columns_no_later a b p q c d first second no_later =
    ⊎_elim (λ less. inl (omega arith)) (λ same. inr (omega (arith, same.0), same.1)) no_later

module _ (counts : Counts) (line : List ℕ) (number : ℕ) (read : LineRead) (is : IsReadOf line number read) where
  faulty : (earlier : Refused) → read.fault ≡ Some earlier → IsRefusal line number earlier
  faulty earlier fault = subst (λ o. MatchOption o (IsWhole line read) (IsRefusal line number)) fault is.fault

  whole : read.fault ≡ None → IsWhole line read
  whole none = subst (λ o. MatchOption o (IsWhole line read) (IsRefusal line number)) none is.fault

  -- the lexemes show no cause
  module _ (faultless : IsFaultless counts read.lexemes) where
    pub bytes_at_fault : (earlier : Refused) → read.fault ≡ Some earlier → IsLineRefusal counts line number earlier
    bytes_at_fault earlier fault =
        let refusal = faulty earlier fault in
        refusal_of_bytes counts line number earlier refusal
        (bytes_alone line read.tokens is.tokens counts read.lexemes is.lexemes (place_of earlier) earlier.cause refusal.first faultless)

    pub nothing_at_fault : read.fault ≡ None → LineIsFaultless counts line
    nothing_at_fault none =
        let w = whole none in
        line_faultless line read.tokens is.tokens counts read.lexemes is.lexemes w.tokens w.faultless faultless

  -- or a first one
  module _ (p : ℕ) (d : Cause) (first : IsFirstCause counts read.lexemes p d) (refused : Refused) (numbered : refused.line ≡ number) (cause_is : refused.cause ≡ d) where
    -- at a token
    module _ (t : Token) (at : slice_get read.tokens p ≡ Some t) (column : refused.column ≡ t.start + 1) where
      token_refused : read.fault ≡ None → IsLineRefusal counts line number refused
      token_refused none =
          let w = whole none in
          refusal_at counts line number refused t.start d numbered column cause_is
          (token_alone line read.tokens is.tokens counts read.lexemes is.lexemes w.tokens w.faultless p t.start d first (t, at, refl))

      token_is_first : (earlier : Refused) → read.fault ≡ Some earlier → IsNoLater refused.column refused.cause earlier.column earlier.cause → IsLineRefusal counts line number refused
      token_is_first earlier fault no_later =
          let refusal = faulty earlier fault in
          let places = columns_no_later refused.column earlier.column t.start (place_of earlier) refused.cause earlier.cause column (omega (arith, refusal.column)) no_later in
          refusal_at counts line number refused t.start d numbered column cause_is
          (token_before_bytes line read.tokens is.tokens counts read.lexemes is.lexemes (place_of earlier) earlier.cause refusal.first p t.start d first (t, at, refl)
          (subst (λ e. IsNoLater t.start e (place_of earlier) earlier.cause) cause_is places))

      bytes_are_first : (earlier : Refused) → read.fault ≡ Some earlier → IsNoLater earlier.column earlier.cause refused.column refused.cause → IsLineRefusal counts line number earlier
      bytes_are_first earlier fault no_later =
          let refusal = faulty earlier fault in
          let places = columns_no_later earlier.column refused.column (place_of earlier) t.start earlier.cause refused.cause (omega (arith, refusal.column)) column no_later in
          refusal_of_bytes counts line number earlier refusal
          (bytes_before_token line read.tokens is.tokens counts read.lexemes is.lexemes (place_of earlier) earlier.cause refusal.first p t.start d first (t, at, refl)
          (subst (λ e. IsNoLater (place_of earlier) earlier.cause t.start e) cause_is places))

    -- or behind the last one
    module _ (past : length read.tokens ≤ p) (column : refused.column ≡ length line + 1) where
      end_refused : ¬ IsBlank read → read.fault ≡ None → IsLineRefusal counts line number refused
      end_refused some none =
          let w = whole none in
          refusal_at counts line number refused (length line) d numbered column cause_is
          (end_alone line read.tokens is.tokens counts read.lexemes is.lexemes w.tokens w.faultless (λ empty. some (empty, none)) w.lexemes p d first past)

      end_is_not_first : (earlier : Refused) → read.fault ≡ Some earlier → IsNoLater refused.column refused.cause earlier.column earlier.cause → ⊥
      end_is_not_first earlier fault no_later =
          let refusal = faulty earlier fault in
          let within = bytes_within line (place_of earlier) earlier.cause refusal.first.stands in
          let one = refusal.column in
          ⊎_elim (λ less. omega arith) (λ equal. omega (arith, equal.0)) no_later

      bytes_before_the_end : (earlier : Refused) → read.fault ≡ Some earlier → IsLineRefusal counts line number earlier
      bytes_before_the_end earlier fault =
          let refusal = faulty earlier fault in
          refusal_of_bytes counts line number earlier refusal
          (bytes_before_end line read.tokens is.tokens counts read.lexemes is.lexemes (place_of earlier) earlier.cause refusal.first p d first past)

    module _ (column : MatchOption (slice_get read.tokens p) (refused.column ≡ length line + 1) (λ t. refused.column ≡ t.start + 1)) where
      by_token : {X : Type 0} → ((t : Token) → slice_get read.tokens p ≡ Some t → refused.column ≡ t.start + 1 → X) → (length read.tokens ≤ p → refused.column ≡ length line + 1 → X) → X
      by_token {X} at_token at_end =
          ⊎_elim
          (λ inside. at_token inside.0 inside.2 (subst (λ o. MatchOption o (refused.column ≡ length line + 1) (λ t. refused.column ≡ t.start + 1)) inside.2 column))
          (λ past. at_end past.0 (subst (λ o. MatchOption o (refused.column ≡ length line + 1) (λ t. refused.column ≡ t.start + 1)) past.1 column))
          (slice_get_cases read.tokens p).1

      pub grammar_refuses : ¬ IsBlank read → read.fault ≡ None → IsLineRefusal counts line number refused
      grammar_refuses some none =
          by_token (λ t at here. token_refused t at here none) (λ past here. end_refused past here some none)

      pub first_refuses : (earlier result : Refused) → read.fault ≡ Some earlier → ((result ≡ refused) × IsNoLater refused.column refused.cause earlier.column earlier.cause) ⊎ ((result ≡ earlier) × IsNoLater earlier.column earlier.cause refused.column refused.cause) → IsLineRefusal counts line number result
      first_refuses earlier result fault (inl one) =
          subst (IsLineRefusal counts line number) (sym one.0)
          (by_token (λ t at here. token_is_first t at here earlier fault one.1) (λ past here. absurd (end_is_not_first past here earlier fault one.1)))
      first_refuses earlier result fault (inr other) =
          subst (IsLineRefusal counts line number) (sym other.0)
          (by_token (λ t at here. bytes_are_first t at here earlier fault other.1) (λ past here. bytes_before_the_end past here earlier fault))
