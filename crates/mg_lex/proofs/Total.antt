-- Every line has tokens and no cause stands in it, or it has a first cause.
use Rattle.std.proofs.Common.{◌≡◌, ◌≢◌, ℕ, zero, suc, ◌+◌, ◌-◌, ◌<◌, ◌≤◌, false, List, [], ◌∷◌, ◌++◌, length, get_or, take, drop, refl, sym, ap, ◌∙◌, subst, arith, ◌⊎◌, inl, inr, ⊎_elim, lit<, length-drop}
use Rattle.std.specs.Prelude.{Option, Some, None}
use Rattle.std.specs.Char.{is_ascii_alphabetic, is_ascii_digit}
use Rattle.std.specs.List.{list_all, prefix_len}
use Rattle.std.proofs.lemmas.Bool.{cases_lt}
use Rattle.std.proofs.lemmas.Option.{get_or_from_slice_get}
use Rattle.mg_lex.specs.declared.limits.TheConstants.{LINE_LIMIT, NAME_LIMIT, NUMBER_LIMIT}
use Rattle.mg_lex.specs.declared.keyword.Keyword.{Keyword}
use Rattle.mg_lex.specs.declared.mark.Mark.{Mark}
use Rattle.mg_lex.specs.declared.mark.Mark.TheVariants as mark
use Rattle.mg_lex.specs.declared.refusal.Cause.{Cause}
use Rattle.mg_lex.specs.declared.refusal.Cause.TheVariants as cause
use Rattle.mg_lex.specs.declared.scanner.Step.{Step}
use Rattle.mg_lex.specs.declared.scanner.Step.TheVariants as step
use Rattle.mg_lex.specs.declared.token.Token.{Token}
use Rattle.mg_lex.specs.declared.token.TokenKind.{TokenKind}
use Rattle.mg_lex.specs.declared.token.TokenKind.TheVariants as kind
use Rattle.mg_lex.specs.Keyword.{keyword_text, IsKeyword}
use Rattle.mg_lex.specs.Mark.{mark_text, IsMark}
use Rattle.mg_lex.specs.Number.{IsNumber, number_value}
use Rattle.mg_lex.specs.Token.{is_word_byte, IsWord, IsRelatorSign, IsToken}
use Rattle.mg_lex.specs.Line.{is_allowed, is_blank, AreTokens, BeginsComment, BeginsNone, IsEnd, IsLongest, IsLongestAtStart, AreBlanks, token_bytes}
use Rattle.mg_lex.specs.Cause.{AreTokensBefore, IsFaultless, IsFirstCause, IsTokenAt}
use Rattle.mg_lex.specs.Step.{ComesNext, IsClean}
use Rattle.mg_lex.proofs.Classes.{cases_of}
use Rattle.mg_lex.proofs.Keywords.{entry, place_in_table}
use Rattle.mg_lex.proofs.Words.{two_bytes_longest, one_byte_longest, no_mark, word_at_front, word_is_longest, number_is_longest, mark_is_longest, none_begins}
use Rattle.mg_lex.proofs.Firsts.{blanks_at, behind_blanks, clean_blanks, first_long_name, first_long_line_at_token, first_large_number, token_here}
use Rattle.mg_lex.proofs.Steps.{no_blanks, ends_at_length, ends_at_sign, next_behind_blanks, long_line_at_end, bad_byte_at_end, nothing_at_end, long_line_inside, lack_here, bad_byte_here}
use Rattle.mg_lex.proofs.Lines.{IsReadTo, read_to_start, read_to_token, token_goes_on, read_to_end, read_to_fault}

-- two numbers, and two lists of bytes, are one or not
pub same_number_or_not : (m n : ℕ) → (m ≡ n) ⊎ (m ≢ n)
same_number_or_not m n =
    ⊎_elim (λ less. inr (λ e. omega (arith, less, e)))
    (λ more. ⊎_elim (λ over. inr (λ e. omega (arith, over, e))) (λ under. inl (omega (arith, more, under))) (cases_lt n m)) (cases_lt m n)

same_bytes_or_not : (xs ys : List ℕ) → (xs ≡ ys) ⊎ (xs ≢ ys)
same_bytes_or_not [] [] = inl refl
same_bytes_or_not [] (y ∷ ys) = inr (λ e. cc)
same_bytes_or_not (x ∷ xs) [] = inr (λ e. cc)
same_bytes_or_not (x ∷ xs) (y ∷ ys) =
    ⊎_elim
    (λ heads. ⊎_elim (λ tails. inl (cc (heads, tails))) (λ differ. inr (λ e. let tails : xs ≡ ys = cc in differ tails)) (same_bytes_or_not xs ys))
    (λ differ. inr (λ e. let heads : x ≡ y = cc in differ heads))
    (same_number_or_not x y)

-- the first entries of a table are looked through
pub in_table : (A B : Type 0) (same : (x y : B) → (x ≡ y) ⊎ (x ≢ y)) (text : A → B) (at : ℕ → A) (b : B) (n : ℕ) → ((a : A) × (text a ≡ b)) ⊎ ((i : ℕ) → i < n → text (at i) ≢ b)
in_table A B same text at b zero = inr (λ i within. absurd (omega (arith, within)))
in_table A B same text at b (suc n) =
    ⊎_elim
    (λ here. inl (at n, here))
    (λ not_here. ⊎_elim
    (λ found. inl found)
    (λ none. inr (λ i within. ⊎_elim (λ below. none i below)
    (λ above. let last : n ≡ i = omega (arith, within, above) in subst (λ (j : ℕ). text (at j) ≢ b) last not_here) (cases_lt i n)))
    (in_table A B same text at b n))
    (same (text (at n)) b)

keyword_or_not : (bytes : List ℕ) → IsKeyword bytes ⊎ (IsKeyword bytes → ⊥)
keyword_or_not bytes =
    ⊎_elim
    (λ found. inl found)
    (λ none. inr (λ is. let at = place_in_table is.0 in none at.0 at.1 (ap keyword_text at.2 ∙ is.1)))
    (in_table Keyword (List ℕ) same_bytes_or_not keyword_text entry bytes 36)

marks : List Mark
marks =
    mark.Less ∷ mark.Greater ∷ mark.Comma ∷ mark.Bar ∷ mark.Equals ∷ mark.Caret ∷ mark.OpenRound ∷ mark.CloseRound ∷ mark.OpenSquare ∷ mark.CloseSquare ∷ mark.Colon ∷ mark.Semicolon ∷ mark.Star ∷ mark.Minus ∷ mark.Arrow ∷ []

mark_at : ℕ → Mark
mark_at i = get_or marks i mark.Less

place_of_mark : (m : Mark) → (i : ℕ) × (i < 15) × (mark_at i ≡ m)
unfolding mark_at marks
place_of_mark mark.Less = (0, lit< tt, refl)
place_of_mark mark.Greater = (1, lit< tt, refl)
place_of_mark mark.Comma = (2, lit< tt, refl)
place_of_mark mark.Bar = (3, lit< tt, refl)
place_of_mark mark.Equals = (4, lit< tt, refl)
place_of_mark mark.Caret = (5, lit< tt, refl)
place_of_mark mark.OpenRound = (6, lit< tt, refl)
place_of_mark mark.CloseRound = (7, lit< tt, refl)
place_of_mark mark.OpenSquare = (8, lit< tt, refl)
place_of_mark mark.CloseSquare = (9, lit< tt, refl)
place_of_mark mark.Colon = (10, lit< tt, refl)
place_of_mark mark.Semicolon = (11, lit< tt, refl)
place_of_mark mark.Star = (12, lit< tt, refl)
place_of_mark mark.Minus = (13, lit< tt, refl)
place_of_mark mark.Arrow = (14, lit< tt, refl)

mark_or_not : (bytes : List ℕ) → IsMark bytes ⊎ (IsMark bytes → ⊥)
mark_or_not bytes =
    ⊎_elim
    (λ found. inl found)
    (λ none. inr (λ is. let at = place_of_mark is.0 in none at.0 at.1 (ap mark_text at.2 ∙ is.1)))
    (in_table Mark (List ℕ) same_bytes_or_not mark_text mark_at bytes 15)

-- two keywords, and two marks, are one or not
pub same_keyword_or_not : (j k : Keyword) → (j ≡ k) ⊎ (j ≢ k)
same_keyword_or_not j k =
    let a = place_in_table j in
    let b = place_in_table k in
    ⊎_elim
    (λ places. inl (sym a.2 ∙ ap entry places ∙ b.2))
    (λ differ. inr (λ e. differ (ap (λ (l : Keyword). (place_in_table l).0) e)))
    (same_number_or_not a.0 b.0)

pub same_mark_or_not : (m n : Mark) → (m ≡ n) ⊎ (m ≢ n)
same_mark_or_not m n =
    let a = place_of_mark m in
    let b = place_of_mark n in
    ⊎_elim
    (λ places. inl (sym a.2 ∙ ap mark_at places ∙ b.2))
    (λ differ. inr (λ e. differ (ap (λ (l : Mark). (place_of_mark l).0) e)))
    (same_number_or_not a.0 b.0)

digits_or_not : (bytes : List ℕ) → IsNumber bytes ⊎ (IsNumber bytes → ⊥)
digits_or_not bytes =
    ⊎_elim
    (λ some. ⊎_elim (λ all. inl (some, all)) (λ other. inr (λ is. let digits = is.1 in cc)) (cases_of (list_all is_ascii_digit bytes)))
    (λ none. inr (λ is. omega (arith, none, is.0)))
    (cases_lt 0 (length bytes))

sign_or_not : (bytes : List ℕ) → IsRelatorSign bytes ⊎ (IsRelatorSign bytes → ⊥)
sign_or_not [] = inr (λ is. let e = is.1 in cc)
sign_or_not (b ∷ bs) =
    ⊎_elim
    (λ letter. ⊎_elim
    (λ number. inl (bs, ap (λ (c : ℕ). c ∷ bs) letter, number))
    (λ other. inr (λ is. let e = is.1 in let same : bs ≡ is.0 = cc in other (subst IsNumber (sym same) is.2)))
    (digits_or_not bs))
    (λ other. inr (λ is. let e = is.1 in let same : b ≡ 114 = cc in other same))
    (same_number_or_not b 114)

-- a word is of some kind
word_has_kind : (bytes : List ℕ) → IsWord bytes → (k : TokenKind) × IsToken k bytes
word_has_kind bytes word =
    ⊎_elim
    (λ keyword. (kind.Keyword, keyword))
    (λ no_keyword. ⊎_elim
    (λ sign. (kind.RelatorSign, sign))
    (λ no_sign. (kind.Name, record { word = word; no_keyword = no_keyword; no_sign = no_sign }))
    (sign_or_not bytes))
    (keyword_or_not bytes)

-- a mark of so many bytes stands at the front or doesn't
front_mark_or_not : (bytes : List ℕ) (n : ℕ) → ((n ≤ length bytes) × IsMark (take n bytes)) ⊎ ((n ≤ length bytes) × IsMark (take n bytes) → ⊥)
front_mark_or_not bytes n =
    ⊎_elim
    (λ short. inr (λ both. omega (arith, short, both.0)))
    (λ within. ⊎_elim (λ is. inl (within, is)) (λ other. inr (λ both. other both.1)) (mark_or_not (take n bytes)))
    (cases_lt (length bytes) n)

-- the longest token at the front, or none
abbrev FrontOrNone : List ℕ → Type 0
FrontOrNone bytes = ((k : TokenKind) × (n : ℕ) × IsLongest bytes k n) ⊎ BeginsNone bytes

other_front : (bytes : List ℕ) → is_ascii_alphabetic (get_or bytes 0 0) ≡ false → is_ascii_digit (get_or bytes 0 0) ≡ false → FrontOrNone bytes
other_front bytes no_letter no_digit =
    ⊎_elim
    (λ two. inl (kind.Mark, 2, mark_is_longest bytes 2 no_letter no_digit (record { within = two.0; mark = two.1; longest = two_bytes_longest bytes })))
    (λ no_two. ⊎_elim
    (λ one. inl (kind.Mark, 1, mark_is_longest bytes 1 no_letter no_digit (record { within = one.0; mark = one.1; longest = one_byte_longest bytes no_two })))
    (λ no_one. inr (none_begins bytes no_letter no_digit (no_mark bytes no_two no_one)))
    (front_mark_or_not bytes 1))
    (front_mark_or_not bytes 2)

front_or_none : (bytes : List ℕ) → 0 < length bytes → FrontOrNone bytes
front_or_none bytes some =
    ⊎_elim
    (λ letter.
    let has = word_has_kind (take (prefix_len is_word_byte bytes) bytes) (word_at_front bytes some letter) in
    inl (has.0, prefix_len is_word_byte bytes, word_is_longest has.0 bytes some letter has.1))
    (λ no_letter. ⊎_elim
    (λ digit. inl (kind.Number, prefix_len is_ascii_digit bytes, number_is_longest bytes some digit))
    (λ no_digit. other_front bytes no_letter no_digit)
    (cases_of (is_ascii_digit (get_or bytes 0 0))))
    (cases_of (is_ascii_alphabetic (get_or bytes 0 0)))

-- the end of a line, or a comment, or neither
end_or_not : (line : List ℕ) (p : ℕ) → p ≤ length line → IsEnd line p ⊎ ((p < length line) × (¬ BeginsComment line p))
end_or_not line p within =
    ⊎_elim
    (λ inside. ⊎_elim
    (λ sign. inl (ends_at_sign line p inside sign))
    (λ other. inr (inside, λ comment. other (get_or_from_slice_get line p 35 0 comment)))
    (same_number_or_not (get_or line p 0) 35))
    (λ past. inl (ends_at_length line p (omega (arith, within, past))))
    (cases_lt p (length line))

-- the place of a token that begins with the next byte
abbrev token_from : TokenKind → ℕ → ℕ → Token
token_from k place len = record { kind = k; start = place; length = len }

name_or_not : (k : TokenKind) → (k ≡ kind.Name) ⊎ (k ≢ kind.Name)
name_or_not kind.Name = inl refl
name_or_not kind.Keyword = inr (λ e. cc)
name_or_not kind.RelatorSign = inr (λ e. cc)
name_or_not kind.Number = inr (λ e. cc)
name_or_not kind.Mark = inr (λ e. cc)

number_or_not : (k : TokenKind) → (k ≡ kind.Number) ⊎ (k ≢ kind.Number)
number_or_not kind.Name = inr (λ e. cc)
number_or_not kind.Keyword = inr (λ e. cc)
number_or_not kind.RelatorSign = inr (λ e. cc)
number_or_not kind.Number = inl refl
number_or_not kind.Mark = inr (λ e. cc)

long_name_or_not : (t : Token) → ((t.kind ≡ kind.Name) × (NAME_LIMIT < t.length)) ⊎ ((t.kind ≡ kind.Name) × (NAME_LIMIT < t.length) → ⊥)
long_name_or_not t =
    ⊎_elim
    (λ name. ⊎_elim (λ long. inl (name, long)) (λ short. inr (λ both. omega (arith, short, both.1))) (cases_lt NAME_LIMIT t.length))
    (λ other. inr (λ both. other both.0))
    (name_or_not t.kind)

pub large_number_or_not : (line : List ℕ) (t : Token) →
    ((t.kind ≡ kind.Number) × (NUMBER_LIMIT < number_value (token_bytes line t))) ⊎ ((t.kind ≡ kind.Number) × (NUMBER_LIMIT < number_value (token_bytes line t)) → ⊥)
large_number_or_not line t =
    ⊎_elim
    (λ number. ⊎_elim (λ large. inl (number, large)) (λ small. inr (λ both. omega (arith, small, both.1))) (cases_lt NUMBER_LIMIT (number_value (token_bytes line t))))
    (λ other. inr (λ both. other both.0))
    (number_or_not t.kind)

-- what comes next in a line
record Next (line : List ℕ) (from : ℕ) : Type 0 where
  what : Step
  to : ℕ
  comes : ComesNext line from what to

refused_at_token : (line : List ℕ) (p : ℕ) (t : Token) (c : Cause) → IsClean line p → p ≤ length line → t.start ≡ p → IsLongestAtStart line t → IsFirstCause line p c → Next line p
refused_at_token line p t c clean within start is first = record {
  what = step.Refused (record { place = p; cause = c; token = Some t });
  to = p;
  comes = (no_blanks line p within, first, token_here line p clean t start is, inl (omega arith));
}

token_next : (line : List ℕ) (p : ℕ) (t : Token) → IsClean line p → p ≤ LINE_LIMIT → p ≤ length line → t.start ≡ p → IsLongestAtStart line t → Next line p
token_next line p t clean low within start is =
    ⊎_elim
    (λ long. refused_at_token line p t cause.BadToken clean within start is (first_long_name line p clean t start is low long.0 long.1))
    (λ short. ⊎_elim
    (λ inside. ⊎_elim
    (λ large. refused_at_token line p t cause.NumberTooLarge clean within start is (first_large_number line p clean t start is inside short large.0 large.1))
    (λ small. record {
      what = step.Token t;
      to = t.start + t.length;
      comes = (
        subst (AreBlanks line p) (sym start) (no_blanks line p within),
        is,
        record {
          begins = omega (arith, start, inside);
          name = λ name. ⊎_elim (λ long. absurd (short (name, long))) (λ fits. fits) (cases_lt NAME_LIMIT t.length);
          number = λ number. ⊎_elim (λ large. absurd (small (number, large))) (λ fits. fits) (cases_lt NUMBER_LIMIT (number_value (token_bytes line t)));
        },
        refl,
      );
    })
    (large_number_or_not line t))
    (λ past. refused_at_token line p t cause.LineTooLong clean within start is (first_long_line_at_token line p clean t start is (omega (arith, low, past)) short))
    (cases_lt p LINE_LIMIT))
    (long_name_or_not t)

none_next : (line : List ℕ) (p : ℕ) → IsClean line p → p ≤ LINE_LIMIT → p < length line → is_blank (get_or line p 0) ≡ false → ¬ BeginsComment line p → BeginsNone (drop p line) → Next line p
none_next line p clean low inside no_blank no_comment none =
    ⊎_elim
    (λ allowed. record {
      what = step.Refused (record { place = p; cause = cause.BadToken; token = None });
      to = p;
      comes = lack_here line p clean (omega arith) low inside no_blank no_comment none allowed;
    })
    (λ bad. record {
      what = step.Refused (record { place = p; cause = cause.BadByte; token = None });
      to = p;
      comes = bad_byte_here line p clean (omega arith) low inside none bad;
    })
    (cases_of (is_allowed (get_or line p 0)))

end_next : (line : List ℕ) (p : ℕ) → IsClean line p → p ≤ LINE_LIMIT → p ≤ length line → IsEnd line p → Next line p
end_next line p clean low within end =
    let n = prefix_len is_allowed (drop p line) in
    ⊎_elim
    (λ high. record {
      what = step.Refused (record { place = LINE_LIMIT; cause = cause.LineTooLong; token = None });
      to = p;
      comes = long_line_at_end line p clean within end low n refl high;
    })
    (λ short. ⊎_elim
    (λ inside. record {
      what = step.Refused (record { place = p + n; cause = cause.BadByte; token = None });
      to = p;
      comes = bad_byte_at_end line p clean within end low n refl short inside;
    })
    (λ whole. record { what = step.End; to = p; comes = nothing_at_end line p clean within end low n refl short whole })
    (cases_lt (p + n) (length line)))
    (cases_lt LINE_LIMIT (p + n))

-- behind blanks
next_here : (line : List ℕ) (p : ℕ) → IsClean line p → p ≤ length line → (p < length line → is_blank (get_or line p 0) ≡ false) → Next line p
next_here line p clean within no_blank =
    ⊎_elim
    (λ high. record {
      what = step.Refused (record { place = LINE_LIMIT; cause = cause.LineTooLong; token = None });
      to = p;
      comes = long_line_inside line p clean within high;
    })
    (λ low. ⊎_elim
    (λ end. end_next line p clean low within end)
    (λ inside. ⊎_elim
    (λ found. token_next line p (token_from found.0 p found.1) clean low within refl found.2)
    (λ none. none_next line p clean low inside.0 (no_blank inside.0) inside.1 none)
    (front_or_none (drop p line) (omega (arith, inside.0, length-drop p line))))
    (end_or_not line p within))
    (cases_lt LINE_LIMIT p)

next_of : (line : List ℕ) (from : ℕ) → IsClean line from → from ≤ length line → Next line from
next_of line from clean within =
    let n = prefix_len is_blank (drop from line) in
    let blanks = blanks_at line from n refl within in
    let h = next_here line (from + n) (clean_blanks line from (from + n) clean blanks) blanks.within (behind_blanks line from n refl) in
    record { what = h.what; to = h.to; comes = next_behind_blanks line from (from + n) h.what h.to blanks h.comes }

-- a line whose bytes show no cause, with its tokens
pub record IsSound (line : List ℕ) (ts : List Token) : Type 0 where
  pub tokens : AreTokens line ts
  pub faultless : IsFaultless line

-- the first cause that bytes show, with the tokens before it and the one at it
pub record IsFaulty (line : List ℕ) : Type 0 where
  pub place : ℕ
  pub cause_is : Cause
  pub before : List Token
  pub at : Option Token
  pub first : IsFirstCause line place cause_is
  pub tokens : AreTokensBefore line place before
  pub token : IsTokenAt line place at

abbrev pub SoundOrFaulty : List ℕ → Type 0
SoundOrFaulty line = ((ts : List Token) × IsSound line ts) ⊎ IsFaulty line

-- by what comes next, where longer fronts of the line are known
lexed_by : (line : List ℕ) (ts : List Token) (from : ℕ) (s : Step) (to : ℕ) → IsReadTo line ts from → ComesNext line from s to →
    ((us : List Token) (q : ℕ) → from < q → q ≤ length line → IsReadTo line us q → SoundOrFaulty line) → SoundOrFaulty line
lexed_by line ts from step.End to read comes longer = inl (ts, record { tokens = read_to_end line ts from to read comes; faultless = comes.2 })
lexed_by line ts from (step.Refused f) to read comes longer = inr (record {
  place = f.place;
  cause_is = f.cause;
  before = ts;
  at = f.token;
  first = comes.1;
  tokens = read_to_fault line ts from f to read comes;
  token = comes.2;
})
lexed_by line ts from (step.Token t) to read comes longer =
    let on = token_goes_on line from t to comes in longer (ts ++ t ∷ []) to on.0 on.1 (read_to_token line ts from t to read comes)

lexed_from : (n : ℕ) (line : List ℕ) (ts : List Token) (from : ℕ) → length line - from ≤ n → from ≤ length line → IsReadTo line ts from → SoundOrFaulty line
lexed_from zero line ts from fuel within read =
    let h = next_of line from (record { tokens = ts; cut = read.cut; within_limits = read.within_limits }) within in
    lexed_by line ts from h.what h.to read h.comes (λ us q further inside more. absurd (omega (arith, fuel, within, further, inside)))
lexed_from (suc n) line ts from fuel within read =
    let h = next_of line from (record { tokens = ts; cut = read.cut; within_limits = read.within_limits }) within in
    lexed_by line ts from h.what h.to read h.comes (λ us q further inside more. lexed_from n line us q (omega (arith, fuel, within, further, inside)) inside more)

-- every line
pub tokens_or_fault : (line : List ℕ) → SoundOrFaulty line
tokens_or_fault line = lexed_from (length line) line [] 0 (omega arith) (omega arith) (read_to_start line)
