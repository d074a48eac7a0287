-- Which cause stands first in a line.
use Rattle.std.proofs.Common.{◌≡◌, ◌≢◌, ℕ, ◌<◌, ◌≤◌, List, [], length, refl, sym, ◌∙◌, subst, arith, inl, inr, ⊎_elim}
use Rattle.std.specs.List.{AllZip}
use Rattle.std.proofs.lemmas.Option.{slice_get_within}
use Rattle.mg_lex.specs.declared.refusal.Cause.{Cause}
use Rattle.mg_lex.specs.declared.refusal.Cause.TheVariants as cause
use Rattle.mg_lex.specs.declared.token.Token.{Token}
use Rattle.mg_lex.specs.Cause as lex
use Rattle.mg_lex.specs.Cause.{cause_number}
use Rattle.mg_lex.specs.Line.{AreTokens}
use Rattle.mg_lex.proofs.Cuts.{token_within, token_some}
use Rattle.mg_terms.specs.declared.lexeme.Lexeme.{Lexeme}
use Rattle.mg_terms.specs.Lexeme.{IsLexemeOf}
use Rattle.mg_script.specs.declared.counted.Counts.{Counts}
use Rattle.mg_script.specs.Cause as grammar
use Rattle.mg_script.specs.LineRead.{IsNoLater}
use Rattle.mg_script.specs.Script.{ReadsAs, AreRead, all, StartsAt, StandsInLine, of_bytes, of_grammar, of_end, LineIsFaultless, IsFirstInLine}
use Rattle.mg_script.proofs.LineLexemes.{one_list, as_many, all_within_limits}
use Rattle.mg_script.proofs.LineTokens.{one_read, order_read, begins_before, begins_within}

-- one cause after the other
pub no_later_through : (p q r : ℕ) (c d e : Cause) → IsNoLater p c q d → IsNoLater q d r e → IsNoLater p c r e
no_later_through p q r c d e first second =
    ⊎_elim
    (λ less. ⊎_elim (λ less_too. inl (omega arith)) (λ same. inl (omega (arith, same.0))) second)
    (λ same. ⊎_elim (λ less. inl (omega (arith, same.0))) (λ same_too. inr (same.0 ∙ same_too.0, omega (arith, same.1, same_too.1))) second)
    first

-- a cause that bytes show stands before the end of the line
pub bytes_within : (line : List ℕ) (q : ℕ) (d : Cause) → lex.Stands line q d → q < length line
bytes_within line q cause.BadByte stands = stands.0
bytes_within line q cause.BadToken (inl lacks) = lacks.within
bytes_within line q cause.BadToken (inr has) =
    omega (arith, has.start, token_within line has.token has.taken.1, token_some line has.token has.taken.1)
bytes_within line q cause.LineTooLong stands = omega (arith, stands.0, stands.1)
bytes_within line q cause.NumberTooLarge has =
    omega (arith, has.start, token_within line has.token has.taken.1, token_some line has.token has.taken.1)
bytes_within line q _ stands = absurd stands

-- a cause of the grammar stands at a lexeme, or behind the last one
pub grammar_within : (counts : Counts) (xs : List Lexeme) (p : ℕ) (c : Cause) → grammar.Stands counts xs p c → p ≤ length xs
grammar_within counts xs p c stands = ⊎_elim (λ unexpected. unexpected.1.within) (λ shown. let within = shown.within in omega arith) stands

module _ (line : List ℕ) (ts : List Token) (read : AreRead line ts) where
  -- what is no later by the numbers of tokens is so by their places
  places_no_later : (p q place far : ℕ) (c d : Cause) → StartsAt ts p place → StartsAt ts q far → IsNoLater p c q d → IsNoLater place c far d
  places_no_later p q place far c d starts starts_too no_later =
      ⊎_elim
      (λ less. let before = begins_before 0 ts p q starts.0 starts_too.0 (order_read line ts read) starts.1 starts_too.1 less in
      inl (omega (arith, starts.2, starts_too.2)))
      (λ same. let tokens : starts.0 ≡ starts_too.0 = same_token same.0 in
      inr (sym starts.2 ∙ subst (λ (t : Token). starts.0.start ≡ t.start) tokens refl ∙ starts_too.2, same.1))
      no_later
    where
      same_token : p ≡ q → starts.0 ≡ starts_too.0
      same_token same = let at = starts.1 in let at_too = starts_too.1 in cc

  place_within : (p place : ℕ) → StartsAt ts p place → place < length line
  place_within p place starts =
      omega (arith, starts.2, begins_within line ts p starts.0 read starts.1)

  starts_within : (p place : ℕ) → StartsAt ts p place → p < length ts
  starts_within p place starts = slice_get_within ts p starts.0 starts.1

  module _ (counts : Counts) (xs : List Lexeme) (reads : AllZip (ReadsAs line) ts xs) where
    -- what follows from each cause of the line: those of its bytes, of the grammar at a token, and of the
    -- grammar at the end
    from_each : (P : ℕ → Cause → Type 0) → ((q : ℕ) (d : Cause) → lex.Stands line q d → P q d) → ((p q : ℕ) (d : Cause) → grammar.Stands counts xs p d → StartsAt ts p q → P q d) → ((us : List Token) (ys : List Lexeme) (d : Cause) → AreTokens line us → us ≢ [] → AllZip (ReadsAs line) us ys → grammar.Stands counts ys (length ys) d → P (length line) d) → (q : ℕ) (d : Cause) → StandsInLine counts line q d → P q d
    from_each P at_bytes at_token at_end _ _ (of_bytes q d stands) = at_bytes q d stands
    from_each P at_bytes at_token at_end _ _ (of_grammar us ys p q d read_too reads_too stands starts) =
        let same = one_read line us ts read_too read in
        let same_lexemes = one_list line ts ys xs (subst (λ vs. AllZip (ReadsAs line) vs ys) same reads_too) reads in
        at_token p q d (subst (λ zs. grammar.Stands counts zs p d) same_lexemes stands) (subst (λ vs. StartsAt vs p q) same starts)
    from_each P at_bytes at_token at_end _ _ (of_end us ys d tokens some are stands) =
        at_end us ys d tokens some (all_within_limits line us ys tokens.within_limits are) stands

    -- where a cause of the bytes stands, the end comes after it
    module _ (place : ℕ) (c : Cause) (first : lex.IsFirstCause line place c) where
      at_end_later : (q : ℕ) (e : Cause) → IsNoLater q e place c → (us : List Token) (ys : List Lexeme) (d : Cause) → AreTokens line us → us ≢ [] → AllZip (ReadsAs line) us ys → grammar.Stands counts ys (length ys) d → IsNoLater q e (length line) d
      at_end_later q e no_later us ys d tokens some reads_too stands =
          no_later_through q place (length line) e c d no_later (inl (bytes_within line place c first.stands))

      bytes_first : ((p q : ℕ) (d : Cause) → grammar.Stands counts xs p d → StartsAt ts p q → IsNoLater place c q d) → IsFirstInLine counts line place c
      bytes_first later = record {
        stands = of_bytes place c first.stands;
        first = from_each (λ q d. IsNoLater place c q d) first.first later (at_end_later place c (inr (refl, omega arith)));
      }

      -- the grammar shows no cause
      pub bytes_alone : ((p : ℕ) (d : Cause) → grammar.Stands counts xs p d → ⊥) → IsFirstInLine counts line place c
      bytes_alone none = bytes_first (λ p q d stands starts. absurd (none p d stands))

      -- the grammar's first cause is that the lexemes end too early
      pub bytes_before_end : (p : ℕ) (d : Cause) → grammar.IsFirstCause counts xs p d → length ts ≤ p → IsFirstInLine counts line place c
      bytes_before_end p d first_too past =
          bytes_first (λ q far e stands starts.
          let within = starts_within q far starts in
          absurd (⊎_elim (λ less. omega arith) (λ same. omega (arith, same.0)) (first_too.first q e stands)))

      -- it stands at a token, and is no earlier
      pub bytes_before_token : (p far : ℕ) (d : Cause) → grammar.IsFirstCause counts xs p d → StartsAt ts p far → IsNoLater place c far d → IsFirstInLine counts line place c
      bytes_before_token p far d first_too starts no_later =
          bytes_first (λ q r e stands starts_too.
          no_later_through place far r c d e no_later (places_no_later p q far r d e starts starts_too (first_too.first q e stands)))

      -- or no later
      pub token_before_bytes : (p far : ℕ) (d : Cause) → grammar.IsFirstCause counts xs p d → StartsAt ts p far → IsNoLater far d place c → IsFirstInLine counts line far d
      token_before_bytes p far d first_too starts no_later = record {
        stands = of_grammar ts xs p far d read reads first_too.stands starts;
        first = from_each (λ q e. IsNoLater far d q e)
            (λ q e stands. no_later_through far place q d c e no_later (first.first q e stands))
            (λ q r e stands starts_too. places_no_later p q far r d e starts starts_too (first_too.first q e stands))
            (at_end_later far d no_later);
      }

    -- where the bytes show none, the grammar alone is asked
    module _ (tokens : AreTokens line ts) (faultless : lex.IsFaultless line) where
      from_grammar : (P : ℕ → Cause → Type 0) → ((p q : ℕ) (d : Cause) → grammar.Stands counts xs p d → StartsAt ts p q → P q d) → ((d : Cause) → grammar.Stands counts xs (length xs) d → P (length line) d) → (q : ℕ) (d : Cause) → StandsInLine counts line q d → P q d
      from_grammar P at_token at_end =
          from_each P (λ q d stands. absurd (faultless q d stands)) at_token
          (λ us ys d tokens_too some reads_too stands.
          let same = one_read line us ts (all us tokens_too faultless) read in
          let same_lexemes = one_list line ts ys xs (subst (λ vs. AllZip (ReadsAs line) vs ys) same reads_too) reads in
          at_end d (subst (λ zs. grammar.Stands counts zs (length zs) d) same_lexemes stands))

      pub line_faultless : ((p : ℕ) (d : Cause) → grammar.Stands counts xs p d → ⊥) → LineIsFaultless counts line
      line_faultless none = from_grammar (λ q d. ⊥) (λ p q d stands starts. none p d stands) (λ d stands. none (length xs) d stands)

      pub token_alone : (p far : ℕ) (d : Cause) → grammar.IsFirstCause counts xs p d → StartsAt ts p far → IsFirstInLine counts line far d
      token_alone p far d first starts = record {
        stands = of_grammar ts xs p far d read reads first.stands starts;
        first = from_grammar (λ q e. IsNoLater far d q e)
            (λ q r e stands starts_too. places_no_later p q far r d e starts starts_too (first.first q e stands))
            (λ e stands. inl (place_within p far starts));
      }

      pub end_alone : ts ≢ [] → AllZip (IsLexemeOf line) ts xs → (p : ℕ) (d : Cause) → grammar.IsFirstCause counts xs p d → length ts ≤ p → IsFirstInLine counts line (length line) d
      end_alone some are p d first past =
          let count = as_many line ts xs reads in
          let within = grammar_within counts xs p d first.stands in
          let end : p ≡ length xs = omega arith in
          let here = subst (λ (n : ℕ). grammar.IsFirstCause counts xs n d) end first in
          record {
            stands = of_end ts xs d tokens some are here.stands;
            first = from_grammar (λ q e. IsNoLater (length line) d q e)
                (λ q r e stands starts.
                let inside = starts_within q r starts in
                absurd (⊎_elim (λ less. omega arith) (λ same. omega (arith, same.0)) (first.first q e stands)))
                (λ e stands. ⊎_elim (λ less. absurd (omega arith)) (λ same. inr (refl, same.1)) (here.first (length xs) e stands));
          }
