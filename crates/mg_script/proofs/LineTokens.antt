-- The tokens that are read of a line: they are found in one way, and begin one behind the other.
use Rattle.std.proofs.Common.{◌≡◌, ℕ, zero, suc, ◌+◌, ◌<◌, ◌≤◌, true, false, List, [], ◌∷◌, ◌++◌, length, get_or, drop, refl, sym, ap, ◌∙◌, subst, arith, ◌⊎◌, ⊎_elim}
use Rattle.std.specs.Prelude.{Option, Some, None, slice_get}
use Rattle.std.specs.List.{AllByRecursion}
use Rattle.std.proofs.lemmas.List.{append-nil}
use Rattle.std.proofs.lemmas.Option.{get_or_from_slice_get}
use Rattle.std.proofs.str.Laws.{order}
use Rattle.mg_lex.specs.declared.token.Token.{Token}
use Rattle.mg_lex.specs.declared.token.TokenKind.{TokenKind}
use Rattle.mg_lex.specs.Line.{is_blank, BeginsComment, AreBlanks, IsLongest, IsLongestAtStart, Cuts}
use Rattle.mg_lex.specs.Cause.{AreTokensBefore, IsTokenAt}
use Rattle.mg_lex.proofs.Cuts.{is_code, one_length, longest_kind, token_within, token_some, token_no_blank, cut_ordered, cut_bytes, one_whole}
use Rattle.mg_lex.proofs.Firsts.{one_first}
use Rattle.mg_script.specs.Script.{one_or_none, AreRead, all, up_to}

abbrev token_of : TokenKind → ℕ → ℕ → Token
token_of k start len = record { kind = k; start = start; length = len }

-- the longest token at a place is one
same_at : (line : List ℕ) (t u : Token) → t.start ≡ u.start → IsLongestAtStart line t → IsLongestAtStart line u → t ≡ u
same_at line t u start first second =
    let here = subst (λ (s : ℕ). IsLongest (drop s line) u.kind u.length) (sym start) second in
    let lengths : t.length ≡ u.length = one_length (drop t.start line) t.kind u.kind t.length u.length first here in
    let kinds : t.kind ≡ u.kind = longest_kind (drop t.start line) t.kind u.kind t.length u.length first here in
    let same : token_of t.kind t.start t.length ≡ token_of u.kind u.start u.length = cc in
    same

blank_and_not : (b : ℕ) → is_blank b ≡ true → is_blank b ≡ false → ⊥
blank_and_not b is is_not = cc

-- so is the first one behind blanks
same_next : (line : List ℕ) (from : ℕ) (t u : Token) → AreBlanks line from t.start → IsLongestAtStart line t → AreBlanks line from u.start → IsLongestAtStart line u → t ≡ u
same_next line from t u before first before_too second =
    let start : t.start ≡ u.start =
    ⊎_elim
    (λ less. absurd (blank_and_not (get_or line t.start 0) (before_too.blank t.start before.ordered less) (token_no_blank line t first)))
    (λ not_less. ⊎_elim
    (λ more. absurd (blank_and_not (get_or line u.start 0) (before.blank u.start before_too.ordered more) (token_no_blank line u second)))
    (λ not_more. omega arith)
    (order u.start t.start))
    (order t.start u.start) in
    same_at line t u start first second

-- what is cut comes to the place, or to a comment
abbrev ComesTo : List ℕ → ℕ → ℕ → Type 0
ComesTo line place end = (place ≤ end) ⊎ BeginsComment line end

comment_is_no_code : (line : List ℕ) (end : ℕ) → BeginsComment line end → is_code (get_or line end 0) ≡ true → ⊥
comment_is_no_code line end comment code =
    let byte : get_or line end 0 ≡ 35 = get_or_from_slice_get line end 35 0 comment in
    let bad = subst (λ (b : ℕ). is_code b ≡ true) byte code in
    cc

-- then no token begins before the place behind the last one
none_left : (line : List ℕ) (from end place : ℕ) (u : Token) (us : List Token) (to : ℕ) → AreBlanks line from end → ComesTo line place end → Cuts line from (u ∷ us) to → u.start < place → ⊥
none_left line from end place u us to blanks comes cut low =
    let ordered = cut_ordered line (u.start + u.length) us to cut.2 in
    ⊎_elim
    (λ inside. blank_and_not (get_or line u.start 0) (blanks.blank u.start cut.0.ordered inside) (token_no_blank line u cut.1))
    (λ behind. ⊎_elim
    (λ far. omega arith)
    (λ comment. comment_is_no_code line end comment (cut_bytes line from (u ∷ us) to cut end blanks.ordered (omega (arith, ordered.0, token_some line u cut.1))))
    comes)
    (order u.start end)

-- so the tokens that begin before a place are one list
one_before : (line : List ℕ) (from place : ℕ) (ts us : List Token) (p q : ℕ) → Cuts line from ts p → Cuts line from us q → ComesTo line place p → ComesTo line place q → AllByRecursion (λ t. t.start < place) ts → AllByRecursion (λ t. t.start < place) us → ts ≡ us
one_before line from place [] [] p q cut other comes comes_too low low_too = refl
one_before line from place [] (u ∷ us) p q cut other comes comes_too low low_too =
    absurd (none_left line from p place u us q cut comes other low_too.0)
one_before line from place (t ∷ ts) [] p q cut other comes comes_too low low_too =
    absurd (none_left line from q place t ts p other comes_too cut low.0)
one_before line from place (t ∷ ts) (u ∷ us) p q cut other comes comes_too low low_too =
    let heads = same_next line from t u cut.0 cut.1 other.0 other.1 in
    let next : u.start + u.length ≡ t.start + t.length = ap (λ (v : Token). v.start + v.length) (sym heads) in
    let tails = one_before line (t.start + t.length) place ts us p q cut.2 (subst (λ (f : ℕ). Cuts line f us q) next other.2) comes comes_too low.1 low_too.1 in
    cc

one_at : (line : List ℕ) (place : ℕ) (t u : Option Token) → IsTokenAt line place t → IsTokenAt line place u → t ≡ u
one_at line place None None at at_too = refl
one_at line place None (Some u) at at_too = absurd (at u at_too.0 at_too.1)
one_at line place (Some t) None at at_too = absurd (at_too t at.0 at.1)
one_at line place (Some t) (Some u) at at_too = ap Some (same_at line t u (at.0 ∙ sym at_too.0) at.1.1 at_too.1.1)

-- what is read of a line is one list of tokens
pub one_read : (line : List ℕ) (ts us : List Token) → AreRead line ts → AreRead line us → ts ≡ us
one_read line _ _ (all ts tokens faultless) (all us tokens_too faultless_too) = one_whole line ts us tokens tokens_too
one_read line _ _ (all ts tokens faultless) (up_to place c us u first before at) = absurd (faultless place c first.stands)
one_read line _ _ (up_to place c ts t first before at) (all us tokens faultless) = absurd (faultless place c first.stands)
one_read line _ _ (up_to p c ts t first before at) (up_to q d us u first_too before_too at_too) =
    let place : q ≡ p = (one_first line q p d c first_too first).0 in
    let low = subst (λ (r : ℕ). AreTokensBefore line r us) place before_too in
    let fronts = one_before line 0 p ts us before.end low.end before.cut low.cut before.reaches low.reaches before.before low.before in
    let lasts = one_at line p t u at (subst (λ (r : ℕ). IsTokenAt line r u) place at_too) in
    ap (λ vs. vs ++ one_or_none t) fronts ∙ ap (λ v. us ++ one_or_none v) lasts

-- the tokens begin one behind the other, from a place on
abbrev pub BeginInOrder : ℕ → List Token → Type 0
BeginInOrder from [] = Unit {0}
BeginInOrder from (t ∷ ts) = (from ≤ t.start) × BeginInOrder (t.start + 1) ts

order_from : (from later : ℕ) (ts : List Token) → from ≤ later → BeginInOrder later ts → BeginInOrder from ts
order_from from later [] before ordered = tt
order_from from later (t ∷ ts) before ordered = (omega (arith, ordered.0), ordered.1)

order_cut : (line : List ℕ) (from : ℕ) (ts : List Token) (to : ℕ) → Cuts line from ts to → BeginInOrder from ts
order_cut line from [] to cut = tt
order_cut line from (t ∷ ts) to cut =
    (cut.0.ordered, order_from (t.start + 1) (t.start + t.length) ts (omega (arith, token_some line t cut.1)) (order_cut line (t.start + t.length) ts to cut.2))

order_push : (from : ℕ) (ts : List Token) (t : Token) → BeginInOrder from ts → AllByRecursion (λ u. u.start < t.start) ts → from ≤ t.start → BeginInOrder from (ts ++ t ∷ [])
order_push from [] t ordered low behind = (behind, tt)
order_push from (u ∷ us) t ordered low behind = (ordered.0, order_push (u.start + 1) us t ordered.1 low.1 (omega (arith, low.0)))

pub order_read : (line : List ℕ) (ts : List Token) → AreRead line ts → BeginInOrder 0 ts
order_read line _ (all ts tokens faultless) = order_cut line 0 ts tokens.end tokens.cut
order_read line _ (up_to place c ts None first before at) =
    subst (BeginInOrder 0) (sym (append-nil ts)) (order_cut line 0 ts before.end before.cut)
order_read line _ (up_to place c ts (Some t) first before at) =
    order_push 0 ts t (order_cut line 0 ts before.end before.cut) (subst (λ (p : ℕ). AllByRecursion (λ u. u.start < p) ts) (sym at.0) before.before) (omega arith)

begins_behind : (from : ℕ) (ts : List Token) (p : ℕ) (t : Token) → BeginInOrder from ts → slice_get ts p ≡ Some t → from ≤ t.start
begins_behind from [] p t ordered at = absurd cc
begins_behind from (u ∷ us) zero t ordered at =
    let same : u ≡ t = cc in subst (λ (v : Token). from ≤ v.start) same ordered.0
begins_behind from (u ∷ us) (suc p) t ordered at =
    let behind = begins_behind (u.start + 1) us p t ordered.1 at in omega (arith, ordered.0)

-- of two tokens the one with the less number begins first
pub begins_before : (from : ℕ) (ts : List Token) (p q : ℕ) (t u : Token) → BeginInOrder from ts → slice_get ts p ≡ Some t → slice_get ts q ≡ Some u → p < q → t.start < u.start
begins_before from [] p q t u ordered at at_too less = absurd cc
begins_before from (v ∷ vs) p zero t u ordered at at_too less = absurd (omega arith)
begins_before from (v ∷ vs) zero (suc q) t u ordered at at_too less =
    let same : v ≡ t = cc in
    let behind = subst (λ (w : Token). BeginInOrder (w.start + 1) vs) same ordered.1 in
    let far = begins_behind (t.start + 1) vs q u behind at_too in
    omega arith
begins_before from (v ∷ vs) (suc p) (suc q) t u ordered at at_too less =
    begins_before (v.start + 1) vs p q t u ordered.1 at at_too (omega arith)

-- each token begins within the line
within_cut : (line : List ℕ) (from : ℕ) (ts : List Token) (to : ℕ) → Cuts line from ts to → AllByRecursion (λ t. t.start < length line) ts
within_cut line from [] to cut = tt
within_cut line from (t ∷ ts) to cut =
    (omega (arith, token_within line t cut.1, token_some line t cut.1), within_cut line (t.start + t.length) ts to cut.2)

within_push : (n : ℕ) (ts : List Token) (t : Token) → AllByRecursion (λ u. u.start < n) ts → t.start < n → AllByRecursion (λ u. u.start < n) (ts ++ t ∷ [])
within_push n [] t low last = (last, tt)
within_push n (u ∷ us) t low last = (low.0, within_push n us t low.1 last)

within_read : (line : List ℕ) (ts : List Token) → AreRead line ts → AllByRecursion (λ t. t.start < length line) ts
within_read line _ (all ts tokens faultless) = within_cut line 0 ts tokens.end tokens.cut
within_read line _ (up_to place c ts None first before at) =
    subst (AllByRecursion (λ t. t.start < length line)) (sym (append-nil ts)) (within_cut line 0 ts before.end before.cut)
within_read line _ (up_to place c ts (Some t) first before at) =
    within_push (length line) ts t (within_cut line 0 ts before.end before.cut) (omega (arith, token_within line t at.1.1, token_some line t at.1.1))

within_at : (n : ℕ) (ts : List Token) (p : ℕ) (t : Token) → AllByRecursion (λ u. u.start < n) ts → slice_get ts p ≡ Some t → t.start < n
within_at n [] p t low at = absurd cc
within_at n (u ∷ us) zero t low at = let same : u ≡ t = cc in subst (λ (v : Token). v.start < n) same low.0
within_at n (u ∷ us) (suc p) t low at = within_at n us p t low.1 at

pub begins_within : (line : List ℕ) (ts : List Token) (p : ℕ) (t : Token) → AreRead line ts → slice_get ts p ≡ Some t → t.start < length line
begins_within line ts p t read at = within_at (length line) ts p t (within_read line ts read) at
