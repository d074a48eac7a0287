-- Laws about lines that are cut into tokens: which bytes they have, and that they are cut in one way.
use Rattle.std.proofs.Common.{◌≡◌, ℕ, ◌+◌, ◌-◌, ◌<◌, ◌≤◌, Bool, true, false, ◌&&◌, List, [], ◌∷◌, ◌++◌, length, get_or, take, drop, refl, sym, ap, ◌∙◌, subst, arith, inl, inr, ⊎_elim, length-take-le, length-drop, get_or-drop, get_or-take}
use Rattle.std.specs.Prelude.{◌==◌, not}
use Rattle.std.specs.List.{AllByRecursion}
use Rattle.std.proofs.lemmas.Bool.Decides.{nat_tests}
use Rattle.std.proofs.lemmas.Option.{get_or_from_slice_get}
use Rattle.std.proofs.str.Laws.{order}
use Rattle.mg_lex.specs.declared.token.Token.{Token}
use Rattle.mg_lex.specs.declared.token.TokenKind.{TokenKind}
use Rattle.mg_lex.specs.Token.{IsToken}
use Rattle.mg_lex.specs.Line.{is_allowed, is_blank, IsLongest, AreBlanks, IsLongestAtStart, Cuts, IsEnd, AreTokens}
use Rattle.mg_lex.proofs.Classes.{is_token_byte, and_true, true_and}
use Rattle.mg_lex.proofs.Numbers.{slice_all-at}
use Rattle.mg_lex.proofs.Words.{token_nonempty, token_bytes_are, one_kind}

-- a byte that stands outside comments: allowed, and not a comment's sign
abbrev pub is_code : ℕ → Bool
is_code b = is_allowed b && not (b == 35)

blank_is_code : (b : ℕ) → is_blank b ≡ true → is_code b ≡ true
blank_is_code b is = grind (arith, nat_tests)

not_true : (b : Bool) → not b ≡ true → b ≡ false
not_true true is = cc
not_true false is = refl

pub token_byte_is_code : (b : ℕ) → is_token_byte b ≡ true → is_code b ≡ true
token_byte_is_code b is =
    let first = and_true (is_allowed b) (not (is_blank b) && not (b == 35)) is in
    let second = and_true (not (is_blank b)) (not (b == 35)) first.1 in
    true_and (is_allowed b) (not (b == 35)) first.0 second.1

pub token_byte_is_no_blank : (b : ℕ) → is_token_byte b ≡ true → is_blank b ≡ false
token_byte_is_no_blank b is =
    let first = and_true (is_allowed b) (not (is_blank b) && not (b == 35)) is in
    not_true (is_blank b) (and_true (not (is_blank b)) (not (b == 35)) first.1).0

module _ (bytes : List ℕ) (k : TokenKind) (n : ℕ) (is : IsLongest bytes k n) where
  -- a token has a byte
  pub longest_nonempty : 0 < n
  longest_nonempty = ⊎_elim (λ some. some) (λ none. let empty : n ≡ 0 = omega arith in absurd (token_nonempty k (subst (λ (m : ℕ). IsToken k (take m bytes)) empty is.token))) (order 0 n)

  -- and bytes of tokens alone
  pub longest_byte : (i : ℕ) → i < n → is_token_byte (get_or bytes i 0) ≡ true
  longest_byte i within =
      let full = length-take-le n bytes is.within in
      let here = slice_all-at is_token_byte (take n bytes) i (omega arith) (token_bytes_are k (take n bytes) is.token) in
      subst (λ (b : ℕ). is_token_byte b ≡ true) (get_or-take n bytes i 0 within) here

-- two longest tokens at one place have one length and one kind
pub one_length : (bytes : List ℕ) (j k : TokenKind) (m n : ℕ) → IsLongest bytes j m → IsLongest bytes k n → m ≡ n
one_length bytes j k m n first second = omega (arith, first.longest k n second.within second.token, second.longest j m first.within first.token)

pub longest_kind : (bytes : List ℕ) (j k : TokenKind) (m n : ℕ) → IsLongest bytes j m → IsLongest bytes k n → j ≡ k
longest_kind bytes j k m n first second =
    one_kind j k (take n bytes) (subst (λ (l : ℕ). IsToken j (take l bytes)) (one_length bytes j k m n first second) first.token) second.token

module _ (line : List ℕ) (t : Token) (is : IsLongestAtStart line t) where
  pub token_within : t.start + t.length ≤ length line
  token_within = omega (arith, is.within, length-drop t.start line, longest_nonempty (drop t.start line) t.kind t.length is)

  pub token_byte : (i : ℕ) → t.start ≤ i → i < t.start + t.length → is_token_byte (get_or line i 0) ≡ true
  token_byte i after before =
      let here : t.start + (i - t.start) ≡ i = omega arith in
      let byte = longest_byte (drop t.start line) t.kind t.length is (i - t.start) (omega arith) in
      subst (λ (b : ℕ). is_token_byte b ≡ true) (get_or-drop t.start line (i - t.start) 0 ∙ ap (λ (j : ℕ). get_or line j 0) here) byte

  pub token_some : 0 < t.length
  token_some = longest_nonempty (drop t.start line) t.kind t.length is

  -- its first byte is no blank
  pub token_no_blank : is_blank (get_or line t.start 0) ≡ false
  token_no_blank = token_byte_is_no_blank (get_or line t.start 0) (token_byte t.start (omega arith) (omega (arith, token_some)))

pub cut_ordered : (line : List ℕ) (from : ℕ) (ts : List Token) (to : ℕ) → Cuts line from ts to → (from ≤ to) × (to ≤ length line)
cut_ordered line from [] to cut = (cut.ordered, cut.within)
cut_ordered line from (t ∷ ts) to cut =
    let rest = cut_ordered line (t.start + t.length) ts to cut.2 in
    (omega (arith, cut.0.ordered, rest.0), rest.1)

-- what is cut has bytes outside comments alone
pub cut_bytes : (line : List ℕ) (from : ℕ) (ts : List Token) (to : ℕ) → Cuts line from ts to → (i : ℕ) → from ≤ i → i < to → is_code (get_or line i 0) ≡ true
cut_bytes line from [] to cut i after before = blank_is_code (get_or line i 0) (cut.blank i after before)
cut_bytes line from (t ∷ ts) to cut i after before =
    ⊎_elim
    (λ blank. blank_is_code (get_or line i 0) (cut.0.blank i after blank))
    (λ in_token. ⊎_elim
    (λ inside. token_byte_is_code (get_or line i 0) (token_byte line t cut.1 i in_token inside))
    (λ behind. cut_bytes line (t.start + t.length) ts to cut.2 i behind before)
    (order i (t.start + t.length)))
    (order i t.start)

pub blanks_join : (line : List ℕ) (from mid to : ℕ) → AreBlanks line from mid → AreBlanks line mid to → AreBlanks line from to
blanks_join line from mid to first second = record {
  ordered = omega (arith, first.ordered, second.ordered);
  within = second.within;
  blank = λ i after before. ⊎_elim (λ low. first.blank i after low) (λ high. second.blank i high before) (order i mid);
}

-- blanks behind what is cut
pub cut_blanks : (line : List ℕ) (from : ℕ) (ts : List Token) (mid to : ℕ) → Cuts line from ts mid → AreBlanks line mid to → Cuts line from ts to
cut_blanks line from [] mid to cut blanks = blanks_join line from mid to cut blanks
cut_blanks line from (t ∷ ts) mid to cut blanks = (cut.0, cut.1, cut_blanks line (t.start + t.length) ts mid to cut.2 blanks)

-- one token more
pub cut_push : (line : List ℕ) (from : ℕ) (ts : List Token) (mid : ℕ) (t : Token) → Cuts line from ts mid → AreBlanks line mid t.start → IsLongestAtStart line t → Cuts line from (ts ++ t ∷ []) (t.start + t.length)
cut_push line from [] mid t cut blanks is = (
  blanks_join line from mid t.start cut blanks,
  is,
  record { ordered = omega arith; within = token_within line t is; blank = λ i after before. absurd (omega arith) },
)
cut_push line from (u ∷ us) mid t cut blanks is = (cut.0, cut.1, cut_push line (u.start + u.length) us mid t cut.2 blanks is)

-- a blank and no blank
blank_or_not : (b : ℕ) → is_blank b ≡ true → is_blank b ≡ false → ⊥
blank_or_not b is is_not = cc

-- Where a line is cut up to p, and up to a place q before p at which no blank stands, one of the tokens
-- up to p begins at q.
pub taken : (line : List ℕ) (P : Token → Type 0) (from : ℕ) (ts us : List Token) (p q : ℕ) → Cuts line from ts p → Cuts line from us q → is_blank (get_or line q 0) ≡ false → q < p → AllByRecursion P ts → (t : Token) × (t.start ≡ q) × IsLongestAtStart line t × P t
taken line P from [] [] p q cut other no_blank before all = absurd (blank_or_not (get_or line q 0) (cut.blank q other.ordered before) no_blank)
taken line P from (t ∷ ts) [] p q cut other no_blank before all =
    ⊎_elim
    (λ low. absurd (blank_or_not (get_or line q 0) (cut.0.blank q other.ordered low) no_blank))
    (λ high. ⊎_elim
    (λ below. absurd (blank_or_not (get_or line t.start 0) (other.blank t.start cut.0.ordered below) (token_no_blank line t cut.1)))
    (λ above. (t, omega arith, cut.1, all.0))
    (order t.start q))
    (order q t.start)
taken line P from [] (u ∷ us) p q cut other no_blank before all =
    let ordered = cut_ordered line (u.start + u.length) us q other.2 in
    absurd (blank_or_not (get_or line u.start 0) (cut.blank u.start other.0.ordered (omega (arith, ordered.0))) (token_no_blank line u other.1))
taken line P from (t ∷ ts) (u ∷ us) p q cut other no_blank before all =
    ⊎_elim
    (λ low. absurd (blank_or_not (get_or line u.start 0) (cut.0.blank u.start other.0.ordered low) (token_no_blank line u other.1)))
    (λ high. ⊎_elim
    (λ below. absurd (blank_or_not (get_or line t.start 0) (other.0.blank t.start cut.0.ordered below) (token_no_blank line t cut.1)))
    (λ above.
    let start : u.start ≡ t.start = omega arith in
    let same : u.length ≡ t.length = one_length (drop t.start line) u.kind t.kind u.length t.length (subst (λ (s : ℕ). IsLongest (drop s line) u.kind u.length) start other.1) cut.1 in
    let next : u.start + u.length ≡ t.start + t.length = omega arith in
    taken line P (t.start + t.length) ts us p q cut.2 (subst (λ (f : ℕ). Cuts line f us q) next other.2) no_blank before all.1)
    (order t.start u.start))
    (order u.start t.start)

-- a token of its fields
abbrev token_of : TokenKind → ℕ → ℕ → Token
token_of k start len = record { kind = k; start = start; length = len }

same_fields : (t u : Token) → t.kind ≡ u.kind → t.start ≡ u.start → t.length ≡ u.length → t ≡ u
same_fields t u kinds starts lengths =
    let same : token_of t.kind t.start t.length ≡ token_of u.kind u.start u.length = cc in same

-- up to a place a line is cut in one way
pub one_cut : (line : List ℕ) (from : ℕ) (ts us : List Token) (to : ℕ) → Cuts line from ts to → Cuts line from us to → ts ≡ us
one_cut line from [] [] to cut other = refl
one_cut line from [] (u ∷ us) to cut other =
    let ordered = cut_ordered line (u.start + u.length) us to other.2 in
    absurd (blank_or_not (get_or line u.start 0) (cut.blank u.start other.0.ordered (omega (arith, ordered.0, token_some line u other.1))) (token_no_blank line u other.1))
one_cut line from (t ∷ ts) [] to cut other =
    let ordered = cut_ordered line (t.start + t.length) ts to cut.2 in
    absurd (blank_or_not (get_or line t.start 0) (other.blank t.start cut.0.ordered (omega (arith, ordered.0, token_some line t cut.1))) (token_no_blank line t cut.1))
one_cut line from (t ∷ ts) (u ∷ us) to cut other =
    ⊎_elim
    (λ low. absurd (blank_or_not (get_or line u.start 0) (cut.0.blank u.start other.0.ordered low) (token_no_blank line u other.1)))
    (λ high. ⊎_elim
    (λ below. absurd (blank_or_not (get_or line t.start 0) (other.0.blank t.start cut.0.ordered below) (token_no_blank line t cut.1)))
    (λ above.
    let start : u.start ≡ t.start = omega arith in
    let here = subst (λ (s : ℕ). IsLongest (drop s line) u.kind u.length) start other.1 in
    let same : u.length ≡ t.length = one_length (drop t.start line) u.kind t.kind u.length t.length here cut.1 in
    let kinds : u.kind ≡ t.kind = longest_kind (drop t.start line) u.kind t.kind u.length t.length here cut.1 in
    let next : u.start + u.length ≡ t.start + t.length = omega arith in
    let heads : t ≡ u = same_fields t u (sym kinds) (sym start) (sym same) in
    let tails : ts ≡ us = one_cut line (t.start + t.length) ts us to cut.2 (subst (λ (f : ℕ). Cuts line f us to) next other.2) in
    cc)
    (order t.start u.start))
    (order u.start t.start)

-- the end of what is cut is one place
not_cut_behind_end : (line : List ℕ) (us : List Token) (p q : ℕ) → IsEnd line p → Cuts line 0 us q → q ≤ p
not_cut_behind_end line us p q (inl whole) cut = omega (arith, cut_ordered line 0 us q cut)
not_cut_behind_end line us p q (inr comment) cut =
    ⊎_elim
    (λ behind.
    let byte : get_or line p 0 ≡ 35 = get_or_from_slice_get line p 35 0 comment in
    let code = subst (λ (b : ℕ). is_code b ≡ true) byte (cut_bytes line 0 us q cut p (omega arith) behind) in
    absurd cc)
    (λ before. before)
    (order p q)

-- a line has one list of tokens
pub one_whole : (line : List ℕ) (ts us : List Token) → AreTokens line ts → AreTokens line us → ts ≡ us
one_whole line ts us first second =
    let end : second.end ≡ first.end =
    omega (arith, not_cut_behind_end line ts second.end first.end second.ended first.cut, not_cut_behind_end line us first.end second.end first.ended second.cut) in
    one_cut line 0 ts us first.end first.cut (subst (Cuts line 0 us) end second.cut)
