-- Which cause stands first in a line.
use Rattle.std.proofs.Common.{◌≡◌, ℕ, ◌+◌, ◌-◌, ◌<◌, ◌≤◌, Bool, true, false, List, [], ◌∷◌, length, get_or, drop, refl, sym, ap, ◌∙◌, subst, arith, ◌⊎◌, inl, inr, ⊎_elim, length-drop, get_or-drop}
use Rattle.std.specs.Prelude.{Some, None}
use Rattle.std.specs.List.{prefix_len}
use Rattle.std.proofs.lemmas.List.Sums.{prefix_len-le-length, prefix_len_passes, prefix_len_stops}
use Rattle.std.proofs.lemmas.Option.{get_or_from_slice_get}
use Rattle.std.proofs.str.Laws.{order}
use Rattle.mg_lex.specs.declared.limits.TheConstants.{LINE_LIMIT, NAME_LIMIT, NUMBER_LIMIT}
use Rattle.mg_lex.specs.declared.refusal.Cause.{Cause}
use Rattle.mg_lex.specs.declared.refusal.Cause.TheVariants as cause
use Rattle.mg_lex.specs.declared.token.Token.{Token}
use Rattle.mg_lex.specs.declared.token.TokenKind.TheVariants as kind
use Rattle.mg_lex.specs.Number.{number_value}
use Rattle.mg_lex.specs.Line.{is_allowed, is_blank, BeginsComment, BeginsNone, AreBlanks, Cuts, IsEnd, IsLongest, IsLongestAtStart, IsReached, IsTaken, IsWithinLimits, token_bytes}
use Rattle.mg_lex.specs.Cause.{cause_number, HasLargeNumber, HasLongName, IsFaultless, IsFirstCause, IsTokenAt, LacksToken, Stands}
use Rattle.mg_lex.specs.Step.{IsClean}
use Rattle.mg_lex.proofs.Classes.{is_token_byte, and_true}
use Rattle.mg_lex.proofs.Cuts.{is_code, cut_blanks, cut_bytes, longest_kind, one_length, taken, token_byte, token_no_blank, token_some, token_within}

-- the elements at the front that pass a test, read where they stand in the line
prefix_at : (p : ℕ → Bool) (line : List ℕ) (place i : ℕ) → place ≤ i → i < place + prefix_len p (drop place line) → p (get_or line i 0) ≡ true
prefix_at p line place i after before =
    let here : place + (i - place) ≡ i = omega arith in
    subst (λ (b : ℕ). p b ≡ true) (get_or-drop place line (i - place) 0 ∙ ap (λ (j : ℕ). get_or line j 0) here) (prefix_len_passes p (drop place line) (i - place) 0 (omega arith))

prefix_within : (p : ℕ → Bool) (line : List ℕ) (place : ℕ) → place ≤ length line → place + prefix_len p (drop place line) ≤ length line
prefix_within p line place within = omega (arith, prefix_len-le-length p (drop place line), length-drop place line)

-- and the one behind them doesn't
prefix_behind : (p : ℕ → Bool) (line : List ℕ) (place : ℕ) → place + prefix_len p (drop place line) < length line → p (get_or line (place + prefix_len p (drop place line)) 0) ≡ false
prefix_behind p line place within =
    subst (λ (b : ℕ). p b ≡ false) (get_or-drop place line (prefix_len p (drop place line)) 0) (prefix_len_stops p (drop place line) 0 (omega (arith, length-drop place line)))

-- the blanks at a place
pub blanks_at : (line : List ℕ) (place n : ℕ) → n ≡ prefix_len is_blank (drop place line) → place ≤ length line → AreBlanks line place (place + n)
blanks_at line place n count within =
    subst (λ (m : ℕ). AreBlanks line place (place + m)) (sym count) (record {
      ordered = omega arith;
      within = prefix_within is_blank line place within;
      blank = prefix_at is_blank line place;
    })

pub behind_blanks : (line : List ℕ) (place n : ℕ) → n ≡ prefix_len is_blank (drop place line) → place + n < length line → is_blank (get_or line (place + n) 0) ≡ false
behind_blanks line place n count within =
    subst (λ (m : ℕ). place + m < length line → is_blank (get_or line (place + m) 0) ≡ false) (sym count) (prefix_behind is_blank line place) within

-- the allowed bytes at a place
pub allowed_at : (line : List ℕ) (place i : ℕ) → place ≤ i → i < place + prefix_len is_allowed (drop place line) → is_allowed (get_or line i 0) ≡ true
allowed_at line place i after before = prefix_at is_allowed line place i after before

pub allowed_within : (line : List ℕ) (place : ℕ) → place ≤ length line → place + prefix_len is_allowed (drop place line) ≤ length line
allowed_within line place within = prefix_within is_allowed line place within

pub behind_allowed : (line : List ℕ) (place : ℕ) → place + prefix_len is_allowed (drop place line) < length line → is_allowed (get_or line (place + prefix_len is_allowed (drop place line)) 0) ≡ false
behind_allowed line place within = prefix_behind is_allowed line place within

-- what stands before blanks is clean, and so is what stands before and with them
pub clean_blanks : (line : List ℕ) (from to : ℕ) → IsClean line from → AreBlanks line from to → IsClean line to
clean_blanks line from to clean blanks =
    record { tokens = clean.tokens; cut = cut_blanks line 0 clean.tokens from to clean.cut blanks; within_limits = clean.within_limits }

-- two longest tokens with one start are one
same_token : (line : List ℕ) (t u : Token) → t.start ≡ u.start → IsLongestAtStart line t → IsLongestAtStart line u → (t.length ≡ u.length) × (t.kind ≡ u.kind)
same_token line t u start first second =
    let here = subst (λ (s : ℕ). IsLongest (drop s line) t.kind t.length) start first in
    (one_length (drop u.start line) t.kind u.kind t.length u.length here second, longest_kind (drop u.start line) t.kind u.kind t.length u.length here second)

within_no_long_name : (line : List ℕ) (t u : Token) → t.start ≡ u.start → IsLongestAtStart line t → IsLongestAtStart line u → IsWithinLimits line t → u.kind ≡ kind.Name → NAME_LIMIT < u.length → ⊥
within_no_long_name line t u start first second fits name long =
    let same = same_token line t u start first second in
    omega (arith, same.0, fits.name (same.1 ∙ name))

within_no_large_number : (line : List ℕ) (t u : Token) → t.start ≡ u.start → IsLongestAtStart line t → IsLongestAtStart line u → IsWithinLimits line t → u.kind ≡ kind.Number → NUMBER_LIMIT < number_value (token_bytes line u) → ⊥
within_no_large_number line t u start first second fits number large =
    let same = same_token line t u start first second in
    let length_is = same.0 in
    let bytes : token_bytes line t ≡ token_bytes line u = cc in
    omega (arith, ap number_value bytes, fits.number (same.1 ∙ number))

module _ (line : List ℕ) (p : ℕ) (clean : IsClean line p) where
  -- a token that begins before the place is one of those before it
  taken_before : (u : Token) → IsTaken line u → u.start < p → (t : Token) × (t.start ≡ u.start) × IsLongestAtStart line t × IsWithinLimits line t
  taken_before u is before =
      taken line (IsWithinLimits line) 0 clean.tokens is.0.0 p u.start clean.cut is.0.1 (token_no_blank line u is.1) before clean.within_limits

  no_lack_before : (q : ℕ) → LacksToken line q → q < p → ⊥
  no_lack_before q lacks before =
      let at = taken line (IsWithinLimits line) 0 clean.tokens lacks.reached.0 p q clean.cut lacks.reached.1 lacks.no_blank before clean.within_limits in
      let here = subst (λ (s : ℕ). IsLongest (drop s line) at.0.kind at.0.length) at.1 at.2 in
      lacks.none at.0.kind at.0.length here.within here.token

  no_long_name_before : (q : ℕ) → HasLongName line q → q < p → ⊥
  no_long_name_before q has before =
      let start = has.start in
      let at = taken_before has.token has.taken (omega arith) in
      within_no_long_name line at.0 has.token at.1 at.2 has.taken.1 at.3 has.name has.long

  no_large_number_before : (q : ℕ) → HasLargeNumber line q → q < p → ⊥
  no_large_number_before q has before =
      let start = has.start in
      let at = taken_before has.token has.taken (omega arith) in
      within_no_large_number line at.0 has.token at.1 at.2 has.taken.1 at.3 has.number has.large

  no_bad_byte_before : (q : ℕ) → Stands line q cause.BadByte → q < p → ⊥
  no_bad_byte_before q is before =
      let code = and_true (is_allowed (get_or line q 0)) _ (cut_bytes line 0 clean.tokens p clean.cut q (omega arith) before) in
      let allowed = code.0 in let not_allowed = is.1 in cc

  -- no cause stands before a clean place, but for the line's length
  pub none_before : (q : ℕ) (d : Cause) → Stands line q d → (p ≤ q) ⊎ (d ≡ cause.LineTooLong)
  none_before q cause.BadByte is = ⊎_elim (λ before. absurd (no_bad_byte_before q is before)) (λ behind. inl behind) (order q p)
  none_before q cause.BadToken (inl lacks) = ⊎_elim (λ before. absurd (no_lack_before q lacks before)) (λ behind. inl behind) (order q p)
  none_before q cause.BadToken (inr has) = ⊎_elim (λ before. absurd (no_long_name_before q has before)) (λ behind. inl behind) (order q p)
  none_before q cause.LineTooLong is = inr refl
  none_before q cause.NumberTooLarge is = ⊎_elim (λ before. absurd (no_large_number_before q is before)) (λ behind. inl behind) (order q p)
  none_before q _ is = absurd is

  -- nothing is looked for behind a comment's sign
  reached_before_comment : BeginsComment line p → (q : ℕ) → IsReached line q → q ≤ p
  reached_before_comment comment q reached =
      ⊎_elim
      (λ behind.
      let byte : get_or line p 0 ≡ 35 = get_or_from_slice_get line p 35 0 comment in
      let code = subst (λ (b : ℕ). is_code b ≡ true) byte (cut_bytes line 0 reached.0 q reached.1 p (omega arith) behind) in
      absurd cc)
      (λ before. before)
      (order p q)

  no_token_in_comment : BeginsComment line p → (u : Token) → IsTaken line u → p ≤ u.start → ⊥
  no_token_in_comment comment u is behind =
      let before = reached_before_comment comment u.start is.0 in
      let start : u.start ≡ p = omega arith in
      let byte : get_or line p 0 ≡ 35 = get_or_from_slice_get line p 35 0 comment in
      let own = token_byte line u is.1 u.start (omega arith) (omega (arith, token_some line u is.1)) in
      let bad = subst (λ (b : ℕ). is_token_byte b ≡ true) (ap (λ (s : ℕ). get_or line s 0) start ∙ byte) own in
      cc

  -- nor behind the line's end
  pub no_token_behind : IsEnd line p → (u : Token) → IsTaken line u → p ≤ u.start → ⊥
  no_token_behind (inl end) u is behind = omega (arith, token_within line u is.1, token_some line u is.1)
  no_token_behind (inr comment) u is behind = no_token_in_comment comment u is behind

  no_lack_behind : IsEnd line p → (q : ℕ) → LacksToken line q → p ≤ q → ⊥
  no_lack_behind (inl end) q lacks behind = omega (arith, lacks.within)
  no_lack_behind (inr comment) q lacks behind =
      let before = reached_before_comment comment q lacks.reached in
      let same : p ≡ q = omega arith in
      lacks.no_comment (subst (BeginsComment line) same comment)

  -- so behind the end of the code bad bytes and the line's length alone are left
  pub left_behind : IsEnd line p → (q : ℕ) (d : Cause) → Stands line q d → ((d ≡ cause.BadByte) × (p ≤ q)) ⊎ (d ≡ cause.LineTooLong)
  left_behind end q cause.BadByte is = ⊎_elim (λ before. absurd (no_bad_byte_before q is before)) (λ behind. inl (refl, behind)) (order q p)
  left_behind end q cause.BadToken (inl lacks) =
      ⊎_elim (λ before. absurd (no_lack_before q lacks before)) (λ behind. absurd (no_lack_behind end q lacks behind)) (order q p)
  left_behind end q cause.BadToken (inr has) =
      let start = has.start in
      ⊎_elim (λ before. absurd (no_long_name_before q has before)) (λ behind. absurd (no_token_behind end has.token has.taken (omega arith))) (order q p)
  left_behind end q cause.LineTooLong is = inr refl
  left_behind end q cause.NumberTooLarge is =
      let start = is.start in
      ⊎_elim (λ before. absurd (no_large_number_before q is before)) (λ behind. absurd (no_token_behind end is.token is.taken (omega arith))) (order q p)
  left_behind end q _ is = absurd is

-- a cause at a place is the first one
first_from : (line : List ℕ) (r : ℕ) (c : Cause) → Stands line r c → r ≤ LINE_LIMIT → ((d : Cause) → Stands line r d → cause_number c ≤ cause_number d) → ((q : ℕ) (d : Cause) → Stands line q d → (r ≤ q) ⊎ (d ≡ cause.LineTooLong)) → IsFirstCause line r c
first_from line r c stands within least others = record {
  stands = stands;
  first = λ q d is.
      let behind : r ≤ q = ⊎_elim (λ h. h) (λ long. let at = subst (Stands line q) long is in omega (arith, at.1)) (others q d is) in
      ⊎_elim
      (λ before. inl before)
      (λ not_before. let same : r ≡ q = omega arith in inr (same, least d (subst (λ (m : ℕ). Stands line m d) (sym same) is)))
      (order r q);
}

bad_byte_least : (line : List ℕ) (r : ℕ) (d : Cause) → Stands line r d → cause_number cause.BadByte ≤ cause_number d
bad_byte_least line r cause.BadByte is = omega arith
bad_byte_least line r cause.BadToken is = omega arith
bad_byte_least line r cause.LineTooLong is = omega arith
bad_byte_least line r cause.NumberTooLarge is = omega arith
bad_byte_least line r _ is = absurd is

bad_token_least : (line : List ℕ) (r : ℕ) → is_allowed (get_or line r 0) ≡ true → (d : Cause) → Stands line r d → cause_number cause.BadToken ≤ cause_number d
bad_token_least line r allowed cause.BadByte is = let not_allowed = is.1 in absurd cc
bad_token_least line r allowed cause.BadToken is = omega arith
bad_token_least line r allowed cause.LineTooLong is = omega arith
bad_token_least line r allowed cause.NumberTooLarge is = omega arith
bad_token_least line r allowed _ is = absurd is

line_too_long_least : (line : List ℕ) (r : ℕ) → is_allowed (get_or line r 0) ≡ true → (Stands line r cause.BadToken → ⊥) → (d : Cause) → Stands line r d → cause_number cause.LineTooLong ≤ cause_number d
line_too_long_least line r allowed no_bad_token cause.BadByte is = let not_allowed = is.1 in absurd cc
line_too_long_least line r allowed no_bad_token cause.BadToken is = absurd (no_bad_token is)
line_too_long_least line r allowed no_bad_token cause.LineTooLong is = omega arith
line_too_long_least line r allowed no_bad_token cause.NumberTooLarge is = omega arith
line_too_long_least line r allowed no_bad_token _ is = absurd is

number_too_large_least : (line : List ℕ) (r : ℕ) → is_allowed (get_or line r 0) ≡ true → r < LINE_LIMIT → (Stands line r cause.BadToken → ⊥) → (d : Cause) → Stands line r d → cause_number cause.NumberTooLarge ≤ cause_number d
number_too_large_least line r allowed within no_bad_token cause.BadByte is = let not_allowed = is.1 in absurd cc
number_too_large_least line r allowed within no_bad_token cause.BadToken is = absurd (no_bad_token is)
number_too_large_least line r allowed within no_bad_token cause.LineTooLong is = absurd (omega (arith, is.1))
number_too_large_least line r allowed within no_bad_token cause.NumberTooLarge is = omega arith
number_too_large_least line r allowed within no_bad_token _ is = absurd is

module _ (line : List ℕ) (p : ℕ) (clean : IsClean line p) where
  -- a byte that isn't allowed, right behind what is clean
  pub first_bad_byte : p ≤ LINE_LIMIT → p < length line → is_allowed (get_or line p 0) ≡ false → IsFirstCause line p cause.BadByte
  first_bad_byte low within not_allowed =
      first_from line p cause.BadByte (within, not_allowed) low (bad_byte_least line p) (none_before line p clean)

  -- no token begins right behind what is clean
  pub first_lack : p ≤ LINE_LIMIT → p < length line → is_allowed (get_or line p 0) ≡ true → is_blank (get_or line p 0) ≡ false → ¬ BeginsComment line p → BeginsNone (drop p line) → IsFirstCause line p cause.BadToken
  first_lack low within allowed no_blank no_comment none =
      let lacks : LacksToken line p = record {
        reached = (clean.tokens, clean.cut);
        within = within;
        allowed = allowed;
        no_blank = no_blank;
        no_comment = no_comment;
        none = none;
      } in
      first_from line p cause.BadToken (inl lacks) low (bad_token_least line p allowed) (none_before line p clean)

  -- and then there is no token at the place
  pub none_at : BeginsNone (drop p line) → IsTokenAt line p None
  none_at none = λ t start is.
      let here = subst (λ (s : ℕ). IsLongest (drop s line) t.kind t.length) start is.1 in
      none t.kind t.length here.within here.token

  -- the line is too long, and what is clean passes the limit
  pub first_long_line_inside : LINE_LIMIT < p → p ≤ length line → IsFirstCause line LINE_LIMIT cause.LineTooLong
  first_long_line_inside high within =
      first_from line LINE_LIMIT cause.LineTooLong (omega arith, refl) (omega arith)
      (λ d is. ⊎_elim (λ behind. absurd (omega arith)) (λ same. omega (arith, ap cause_number (sym same))) (none_before line p clean LINE_LIMIT d is))
      (λ q d is. ⊎_elim (λ behind. inl (omega arith)) (λ same. inr same) (none_before line p clean q d is))

  pub none_at_limit : LINE_LIMIT < p → IsTokenAt line LINE_LIMIT None
  none_at_limit high = λ t start is.
      let at = taken_before line p clean t is (omega arith) in
      let begins = at.3.begins in
      omega (arith, at.1)

  -- the end of the code: the bytes up to r are allowed, and r is none or the end
  module _ (end : IsEnd line p) (r : ℕ) (ordered : p ≤ r) (allowed : (i : ℕ) → p ≤ i → i < r → is_allowed (get_or line i 0) ≡ true) where
    not_between : (q : ℕ) → Stands line q cause.BadByte → p ≤ q → r ≤ q
    not_between q is behind =
        ⊎_elim (λ before. let yes_allowed = allowed q behind before in let not_allowed = is.1 in absurd cc) (λ after. after) (order q r)

    left_behind_bytes : (q : ℕ) (d : Cause) → Stands line q d → (r ≤ q) ⊎ (d ≡ cause.LineTooLong)
    left_behind_bytes q d is =
        ⊎_elim (λ bad. inl (not_between q (subst (Stands line q) bad.0 is) bad.1)) (λ long. inr long) (left_behind line p clean end q d is)

    pub first_bad_byte_in_comment : r ≤ LINE_LIMIT → r < length line → is_allowed (get_or line r 0) ≡ false → IsFirstCause line r cause.BadByte
    first_bad_byte_in_comment low within not_allowed =
        first_from line r cause.BadByte (within, not_allowed) low (bad_byte_least line r) left_behind_bytes

    pub first_long_line_in_comment : p ≤ LINE_LIMIT → LINE_LIMIT < r → r ≤ length line → IsFirstCause line LINE_LIMIT cause.LineTooLong
    first_long_line_in_comment low high within =
        first_from line LINE_LIMIT cause.LineTooLong (omega arith, refl) (omega arith)
        (λ d is. ⊎_elim (λ behind. absurd (omega arith)) (λ same. omega (arith, ap cause_number (sym same))) (left_behind_bytes LINE_LIMIT d is))
        (λ q d is. ⊎_elim (λ behind. inl (omega arith)) (λ same. inr same) (left_behind_bytes q d is))

    pub faultless : r ≡ length line → length line ≤ LINE_LIMIT → IsFaultless line
    faultless whole short = λ q d is.
        ⊎_elim
        (λ bad. let byte = subst (Stands line q) bad.0 is in omega (arith, byte.0, not_between q byte bad.1))
        (λ long. let at = subst (Stands line q) long is in omega (arith, at.0))
        (left_behind line p clean end q d is)

  -- no token begins behind the end
  pub none_at_end : IsEnd line p → (r : ℕ) → p ≤ r → IsTokenAt line r None
  none_at_end end r ordered = λ t start is. no_token_behind line p clean end t is (omega arith)

  -- the token right behind what is clean
  module _ (t : Token) (start : t.start ≡ p) (is : IsLongestAtStart line t) where
    here_taken : IsTaken line t
    here_taken = ((clean.tokens, subst (Cuts line 0 clean.tokens) (sym start) clean.cut), is)

    pub token_here : IsTokenAt line p (Some t)
    token_here = (start, here_taken)

    allowed_here : is_allowed (get_or line p 0) ≡ true
    allowed_here =
        let own = token_byte line t is t.start (omega arith) (omega (arith, token_some line t is)) in
        subst (λ (s : ℕ). is_allowed (get_or line s 0) ≡ true) start (and_true (is_allowed (get_or line t.start 0)) _ own).0

    pub first_long_name : p ≤ LINE_LIMIT → t.kind ≡ kind.Name → NAME_LIMIT < t.length → IsFirstCause line p cause.BadToken
    first_long_name low name long =
        let has : HasLongName line p = record { token = t; taken = here_taken; start = start; name = name; long = long } in
        first_from line p cause.BadToken (inr has) low (bad_token_least line p allowed_here) (none_before line p clean)

    no_bad_token_here : ((t.kind ≡ kind.Name) × (NAME_LIMIT < t.length) → ⊥) → Stands line p cause.BadToken → ⊥
    no_bad_token_here short (inl lacks) =
        let here = subst (λ (s : ℕ). IsLongest (drop s line) t.kind t.length) start is in
        lacks.none t.kind t.length here.within here.token
    no_bad_token_here short (inr has) =
        let same = same_token line has.token t (has.start ∙ sym start) has.taken.1 is in
        short (sym same.1 ∙ has.name, omega (arith, same.0, has.long))

    pub first_long_line_at_token : p ≡ LINE_LIMIT → ((t.kind ≡ kind.Name) × (NAME_LIMIT < t.length) → ⊥) → IsFirstCause line p cause.LineTooLong
    first_long_line_at_token at_limit short =
        first_from line p cause.LineTooLong (omega (arith, token_within line t is, token_some line t is), at_limit) (omega arith)
        (line_too_long_least line p allowed_here (no_bad_token_here short)) (none_before line p clean)

    pub first_large_number : p < LINE_LIMIT → ((t.kind ≡ kind.Name) × (NAME_LIMIT < t.length) → ⊥) → t.kind ≡ kind.Number → NUMBER_LIMIT < number_value (token_bytes line t) → IsFirstCause line p cause.NumberTooLarge
    first_large_number low short number large =
        let has : HasLargeNumber line p = record { token = t; taken = here_taken; start = start; number = number; large = large } in
        first_from line p cause.NumberTooLarge has (omega arith) (number_too_large_least line p allowed_here low (no_bad_token_here short)) (none_before line p clean)

-- a cause is known by its number
abbrev causes : List Cause
causes = cause.BadByte ∷ cause.BadToken ∷ cause.Unexpected ∷ cause.LineTooLong ∷ cause.NumberTooLarge ∷ cause.WordTooLong ∷ cause.TooMany ∷ cause.NameTaken ∷ cause.UnknownName ∷ cause.WrongKind ∷ cause.UnknownGenerator ∷ cause.GeneratorTwice ∷ cause.ImageMissing ∷ cause.ProcedureDoesNotApply ∷ []

abbrev cause_from : ℕ → Cause
cause_from n = get_or causes (n - 1) cause.BadByte

cause_back : (c : Cause) → cause_from (cause_number c) ≡ c
cause_back cause.BadByte = refl
cause_back cause.BadToken = refl
cause_back cause.Unexpected = refl
cause_back cause.LineTooLong = refl
cause_back cause.NumberTooLarge = refl
cause_back cause.WordTooLong = refl
cause_back cause.TooMany = refl
cause_back cause.NameTaken = refl
cause_back cause.UnknownName = refl
cause_back cause.WrongKind = refl
cause_back cause.UnknownGenerator = refl
cause_back cause.GeneratorTwice = refl
cause_back cause.ImageMissing = refl
cause_back cause.ProcedureDoesNotApply = refl

same_number : (c d : Cause) → cause_number c ≡ cause_number d → c ≡ d
same_number c d same = sym (cause_back c) ∙ ap cause_from same ∙ cause_back d

-- a line has one first cause, at one place
pub one_first : (line : List ℕ) (p q : ℕ) (c d : Cause) → IsFirstCause line p c → IsFirstCause line q d → (p ≡ q) × (c ≡ d)
one_first line p q c d first second =
    ⊎_elim
    (λ before. ⊎_elim (λ behind. absurd (omega arith)) (λ same. absurd (omega (arith, same.0))) (second.first p c first.stands))
    (λ same. ⊎_elim
    (λ behind. absurd (omega (arith, same.0)))
    (λ other. (same.0, same_number c d (omega (arith, same.1, other.1))))
    (second.first p c first.stands))
    (first.first q d second.stands)
