-- What comes next in a line, in each case of the scanner.
use Rattle.std.proofs.Common.{◌≡◌, ℕ, ◌+◌, ◌<◌, ◌≤◌, true, false, List, length, get_or, drop, sym, ap, ◌∙◌, subst, arith, inl, inr, ⊎_elim}
use Rattle.std.specs.Prelude.{Some, None}
use Rattle.std.specs.List.{prefix_len}
use Rattle.std.proofs.lemmas.Option.{slice_get-get_or}
use Rattle.mg_lex.specs.declared.limits.TheConstants.{LINE_LIMIT}
use Rattle.mg_lex.specs.declared.refusal.Cause.TheVariants as cause
use Rattle.mg_lex.specs.declared.scanner.Step.{Step}
use Rattle.mg_lex.specs.declared.scanner.Step.TheVariants as step
use Rattle.mg_lex.specs.Line.{is_allowed, is_blank, BeginsComment, BeginsNone, AreBlanks, IsEnd}
use Rattle.mg_lex.specs.Step.{ComesNext, IsClean}
use Rattle.mg_lex.proofs.Cuts.{blanks_join}
use Rattle.mg_lex.proofs.Firsts.{clean_blanks, allowed_at, allowed_within, behind_allowed, first_bad_byte, first_lack, first_long_line_in_comment, first_bad_byte_in_comment, first_long_line_inside, faultless, none_at, none_at_end, none_at_limit}

-- no blanks
pub no_blanks : (line : List ℕ) (place : ℕ) → place ≤ length line → AreBlanks line place place
no_blanks line place within = record { ordered = omega arith; within = within; blank = λ i after before. absurd (omega arith) }

-- what comes next does so behind blanks, too
pub next_behind_blanks : (line : List ℕ) (from mid : ℕ) (s : Step) (to : ℕ) → AreBlanks line from mid → ComesNext line mid s to → ComesNext line from s to
next_behind_blanks line from mid (step.Token t) to blanks next = (blanks_join line from mid t.start blanks next.0, next.1, next.2, next.3)
next_behind_blanks line from mid step.End to blanks next = (blanks_join line from mid to blanks next.0, next.1, next.2)
next_behind_blanks line from mid (step.Refused f) to blanks next = (blanks_join line from mid to blanks next.0, next.1, next.2, next.3)

-- the end of a line or a comment's sign, as the scanner tests for it
pub ends_at_length : (line : List ℕ) (p : ℕ) → p ≡ length line → IsEnd line p
ends_at_length line p is = inl is

pub ends_at_sign : (line : List ℕ) (p : ℕ) → p < length line → get_or line p 0 ≡ 35 → IsEnd line p
ends_at_sign line p within is = inr (slice_get-get_or line p 0 within ∙ ap Some is)

module _ (line : List ℕ) (p : ℕ) (clean : IsClean line p) (within : p ≤ length line) where
  -- behind the end of the code, r bytes are allowed
  module _ (end : IsEnd line p) (low : p ≤ LINE_LIMIT) (n : ℕ) (count : n ≡ prefix_len is_allowed (drop p line)) where
    allowed_up_to : (i : ℕ) → p ≤ i → i < p + n → is_allowed (get_or line i 0) ≡ true
    allowed_up_to i after before = allowed_at line p i after (omega arith)

    within_line : p + n ≤ length line
    within_line = omega (arith, allowed_within line p within)

    pub long_line_at_end : LINE_LIMIT < p + n → ComesNext line p (step.Refused (record { place = LINE_LIMIT; cause = cause.LineTooLong; token = None })) p
    long_line_at_end high =
        let inside = within_line in (
          no_blanks line p within,
          first_long_line_in_comment line p clean end (p + n) (omega arith) allowed_up_to low high within_line,
          none_at_end line p clean end LINE_LIMIT low,
          ⊎_elim (λ whole. absurd (omega arith)) (λ comment. inr comment) end,
        )

    pub bad_byte_at_end : p + n ≤ LINE_LIMIT → p + n < length line → ComesNext line p (step.Refused (record { place = p + n; cause = cause.BadByte; token = None })) p
    bad_byte_at_end low_bad inside =
        let bad : is_allowed (get_or line (p + n) 0) ≡ false =
        subst (λ (m : ℕ). p + m < length line → is_allowed (get_or line (p + m) 0) ≡ false) (sym count) (behind_allowed line p) inside in (
          no_blanks line p within,
          first_bad_byte_in_comment line p clean end (p + n) (omega arith) allowed_up_to low_bad inside bad,
          none_at_end line p clean end (p + n) (omega arith),
          ⊎_elim (λ whole. absurd (omega arith)) (λ comment. inr comment) end,
        )

    pub nothing_at_end : p + n ≤ LINE_LIMIT → length line ≤ p + n → ComesNext line p step.End p
    nothing_at_end low_end whole =
        let inside = within_line in
        (no_blanks line p within, end, faultless line p clean end (p + n) (omega arith) allowed_up_to (omega arith) (omega arith))

  -- what is clean passes the limit of lines
  pub long_line_inside : LINE_LIMIT < p → ComesNext line p (step.Refused (record { place = LINE_LIMIT; cause = cause.LineTooLong; token = None })) p
  long_line_inside high =
      (no_blanks line p within, first_long_line_inside line p clean high within, none_at_limit line p clean high, inl (omega arith))

  -- no token begins right behind what is clean
  pub lack_here : p ≤ LINE_LIMIT → p < length line → is_blank (get_or line p 0) ≡ false → ¬ BeginsComment line p → BeginsNone (drop p line) → is_allowed (get_or line p 0) ≡ true → ComesNext line p (step.Refused (record { place = p; cause = cause.BadToken; token = None })) p
  lack_here low inside no_blank no_comment none allowed =
      (no_blanks line p within, first_lack line p clean low inside allowed no_blank no_comment none, none_at line p clean none, inl (omega arith))

  pub bad_byte_here : p ≤ LINE_LIMIT → p < length line → BeginsNone (drop p line) → is_allowed (get_or line p 0) ≡ false → ComesNext line p (step.Refused (record { place = p; cause = cause.BadByte; token = None })) p
  bad_byte_here low inside none not_allowed =
      (no_blanks line p within, first_bad_byte line p clean low inside not_allowed, none_at line p clean none, inl (omega arith))

-- blanks pass the limit of lines
pub long_line_next : (line : List ℕ) (from to : ℕ) → IsClean line from → AreBlanks line from to → LINE_LIMIT < to → ComesNext line from (step.Refused (record { place = LINE_LIMIT; cause = cause.LineTooLong; token = None })) to
long_line_next line from to clean blanks high =
    next_behind_blanks line from to (step.Refused (record { place = LINE_LIMIT; cause = cause.LineTooLong; token = None })) to blanks
    (long_line_inside line to (clean_blanks line from to clean blanks) blanks.within high)
