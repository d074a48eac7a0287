-- The numbers of the texts that a walk passes.
use Rattle.std.proofs.Common.{◌≡◌, ◌≢◌, ℕ, zero, suc, ◌+◌, ◌-◌, ◌*◌, ◌^◌, ◌<◌, ◌≤◌, List, [], ◌∷◌, ◌++◌, length, map, replicate, refl, sym, ap, subst, ◌∙◌, inl, inr, append_assoc, arith}
use Rattle.std.specs.List.{AllByRecursion}
use Rattle.std.proofs.Math.Nat.{pow-succ', pow-zero}
use Rattle.std.proofs.lemmas.List.{length-append, length-map, map-append, length-replicate}
use Rattle.std.proofs.lemmas.Bool.{cases_lt, cases_order}
use Rattle.mg_numbers.specs.Texts.{IsText, value}
use Rattle.mg_numbers.specs.Plain.{NoneAmong, FindsFirst}
use Rattle.mg_numbers.proofs.TextsValues.{IsText-append, IsText-ones, text_of_each, value-append, value-push, value_of_one, value_of_ones, value_in_base_one, value_at_least, value_below, least_of, least_of-monotone, length_within}
use Rattle.mg_numbers.proofs.TextsPlain.{none_joined}
use Rattle.mg_present.specs.Ask.{Inquiry, IsAsked}
use Rattle.mg_derive.specs.declared.symbol.Symbol.{Symbol}
use Rattle.mg_derive.specs.Symbols.{IsSymbolOf, digit_of, symbol_count}
use Rattle.mg_derive.specs.Acceptance.{IsNumbered, IsAccepted, AcceptedAt}
use Rattle.mg_derive.specs.Walk.{NoneFollow, IsShort}
use Rattle.mg_derive.proofs.Numbers.{digits_text, spelled, numbered_one}
use Rattle.mg_derive.proofs.Lists.{all_append}
use Rattle.mg_derive.proofs.Parts.{runs_from_accepted}
use Rattle.mg_derive.proofs.Ends.{accepted_text, none_in_base_one}

-- the value of the first text that begins with these digits and this one
first_value : (base : ℕ) (xs : List ℕ) (d left : ℕ) → value base (xs ++ d ∷ replicate left 1) ≡ (value base xs * base + d) * base ^ left + least_of base left
first_value base xs d left =
    let e : value base ((xs ++ d ∷ []) ++ replicate left 1) ≡ value base (xs ++ d ∷ replicate left 1) = ap (λ t. value base t) (append_assoc xs (d ∷ []) (replicate left 1)) in
    let p : base ^ length (replicate left 1) ≡ base ^ left = ap (λ n. base ^ n) (length-replicate {A = ℕ} left 1) in
    omega (arith, e, value-append base (xs ++ d ∷ []) (replicate left 1), value_of_ones base left, ap (λ n. value base (xs ++ d ∷ []) * n) p, ap (λ n. n * base ^ left) (value-push base xs d))

-- a text of each value among those of its length
record Filled (base left q : ℕ) : Type 0 where
  text : List ℕ
  is_text : IsText base text
  long : length text ≡ left
  counts : value base text ≡ least_of base left + q

filled : (base left q : ℕ) → 1 ≤ base → q < base ^ left → Filled base left q
filled base left q h k =
    let t = text_of_each base (least_of base left + q) h in
    let long : length t.0 ≡ left =
    elim (cases_order (length t.0) left) [
      | inl same ↦ same
      | inr other ↦ elim other [
        | inl shorter ↦ absurd (omega (arith, t.2, value_below base t.0 t.1, least_of-monotone base (suc (length t.0)) left shorter))
        | inr longer ↦ absurd (omega (arith, t.2, value_at_least base t.0 t.1, least_of-monotone base (suc left) (length t.0) longer))
      ]
    ] in
    record { text = t.0; is_text = t.1; long = long; counts = t.2 }

-- where no text follows, no number of a text that begins so is accepted
pub none_in_block : (ask : Inquiry) (text : List Symbol) (symbol : Symbol) (left n : ℕ) → AllByRecursion (IsSymbolOf ask) text → IsSymbolOf ask symbol → NoneFollow ask (text ++ symbol ∷ []) left
    → n ≡ value (symbol_count ask) (map (digit_of ask) text ++ digit_of ask symbol ∷ replicate left 1) → NoneAmong (AcceptedAt ask) n (n + symbol_count ask ^ left)
none_in_block ask text symbol left n ht hs none e k low high accepted =
    let base = symbol_count ask in
    let d = digit_of ask symbol in
    let xs = map (digit_of ask) text in
    let f = filled base left (k - 1 - n) (omega arith) (omega arith) in
    let s = spelled ask f.text f.is_text in
    let digits : map (digit_of ask) (text ++ symbol ∷ s.text) ≡ (xs ++ d ∷ []) ++ f.text =
    map-append (digit_of ask) text (symbol ∷ s.text) ∙ (ap (λ t. xs ++ d ∷ t) s.are_digits ∙ sym (append_assoc xs (d ∷ []) f.text)) in
    let p : base ^ length f.text ≡ base ^ left = ap (λ n. base ^ n) f.long in
    let v : value base (map (digit_of ask) (text ++ symbol ∷ s.text)) ≡ k - 1 =
    omega (arith, ap (λ t. value base t) digits, value-append base (xs ++ d ∷ []) f.text, ap (λ n. value base (xs ++ d ∷ []) * n) p, ap (λ n. n * base ^ left) (value-push base xs d), f.counts, first_value base xs d left) in
    let there : IsNumbered ask (text ++ symbol ∷ s.text) k = record { symbols = all_append (IsSymbolOf ask) text (symbol ∷ s.text) ht (hs, s.symbols); number = omega (arith, v) } in
    let long : length s.text ≡ left = omega (arith, length-map s.text (digit_of ask), ap length s.are_digits, f.long) in
    none s.text s.symbols long
    (subst (λ (t : List Symbol). IsAccepted ask t) (sym (append_assoc text (symbol ∷ []) s.text)) (accepted_text ask (text ++ symbol ∷ s.text) k there accepted))

pub none_here : (ask : Inquiry) (base : ℕ) (text : List Symbol) (symbol : Symbol) (digit left : ℕ) → base ≡ symbol_count ask → AllByRecursion (IsSymbolOf ask) text → IsSymbolOf ask symbol → digit_of ask symbol ≡ digit
    → NoneFollow ask (text ++ symbol ∷ []) left
    → NoneAmong (AcceptedAt ask) (value (symbol_count ask) (map (digit_of ask) text ++ digit ∷ replicate left 1)) (value (symbol_count ask) (map (digit_of ask) text ++ digit ∷ replicate left 1) + base ^ left)
none_here ask base text symbol digit left b ht hs d none =
    let n = value (symbol_count ask) (map (digit_of ask) text ++ digit ∷ replicate left 1) in
    subst (λ (k : ℕ). NoneAmong (AcceptedAt ask) n (n + k ^ left)) (sym b)
    (none_in_block ask text symbol left n ht hs none (ap (λ k. value (symbol_count ask) (map (digit_of ask) text ++ k ∷ replicate left 1)) (sym d)))

-- ---- from one place of a walk to the next

-- the next digit
pub first_next : (base : ℕ) (xs : List ℕ) (d left : ℕ) → value base (xs ++ (d + 1) ∷ replicate left 1) ≡ value base (xs ++ d ∷ replicate left 1) + base ^ left
first_next base xs d left = omega (arith, first_value base xs (d + 1) left, first_value base xs d left)

-- after the last digit, that of the symbol before
pub first_carried : (base : ℕ) (xs ys : List ℕ) (d left : ℕ) → xs ≡ ys ++ d ∷ [] → value base (xs ++ base ∷ replicate left 1) + base ^ left ≡ value base (ys ++ d ∷ replicate (left + 1) 1) + base ^ (left + 1)
first_carried base xs ys d left e =
    let n : left + 1 ≡ suc left = omega arith in
    let p : base ^ (left + 1) ≡ base ^ suc left = ap (λ k. base ^ k) n in
    let l : least_of base (left + 1) ≡ least_of base (suc left) = ap (λ k. least_of base k) n in
    let v : value base xs ≡ value base ys * base + d = ap (λ t. value base t) e ∙ value-push base ys d in
    omega (
      arith,
      first_value base xs base left,
      first_value base ys d (left + 1),
      p,
      l,
      pow-succ' base left,
      ap (λ k. k * base * base ^ left) v,
      ap (λ k. k * base ^ left) v,
      ap (λ k. (value base ys * base + d) * k) p,
      ap (λ k. (value base ys * base + d) * k) (pow-succ' base left),
    )

-- after all texts of a length, those that are longer
pub first_longer : (base left : ℕ) → value base (base ∷ replicate left 1) + base ^ left ≡ value base (0 ∷ replicate (left + 1) 1) + base ^ (left + 1)
first_longer base left =
    let n : left + 1 ≡ suc left = omega arith in
    omega (
      arith,
      first_value base [] base left,
      first_value base [] 0 (left + 1),
      ap (λ k. base ^ k) n,
      ap (λ k. least_of base k) n,
      pow-succ' base left,
    )

-- the digit of the symbol before, or 0 where there is none
pub first_after_last : (base : ℕ) (xs ys : List ℕ) (digit d left : ℕ) → digit ≡ base → (1 ≤ d → xs ≡ ys ++ d ∷ []) → (d ≡ 0 → xs ≡ []) → (d ≡ 0 → ys ≡ [])
    → value base (ys ++ d ∷ replicate (left + 1) 1) + base ^ (left + 1) ≡ value base (xs ++ digit ∷ replicate left 1) + base ^ left
first_after_last base xs ys digit zero left e some none none' =
    let x : xs ≡ [] = none refl in
    let y : ys ≡ [] = none' refl in
    omega (
      arith,
      ap (λ t. value base (t ++ digit ∷ replicate left 1)) x,
      ap (λ n. value base (n ∷ replicate left 1)) e,
      ap (λ t. value base (t ++ 0 ∷ replicate (left + 1) 1)) y,
      first_longer base left,
    )
first_after_last base xs ys digit (suc d) left e some none none' =
    omega (arith, ap (λ n. value base (xs ++ n ∷ replicate left 1)) e, first_carried base xs ys (suc d) left (some (omega arith)))

-- ---- the empty text

pub first_empty : (ask : Inquiry) (text : List Symbol) (digit left : ℕ) → text ≡ [] → digit ≡ 0 → left ≡ 0 → value (symbol_count ask) (map (digit_of ask) text ++ digit ∷ replicate left 1) ≡ 0
first_empty ask text digit left t d l =
    let base = symbol_count ask in
    ap (λ u. value base (map (digit_of ask) u ++ digit ∷ replicate left 1)) t
    ∙ (ap (λ n. value base (n ∷ replicate left 1)) d ∙ (ap (λ n. value base (0 ∷ replicate n 1)) l ∙ value_of_one base 0))

pub empty_refused : (ask : Inquiry) (base left n : ℕ) → IsAsked ask → length ask.goals ≢ 0 → n ≡ 0 → left ≡ 0 → NoneAmong (AcceptedAt ask) n (n + base ^ left)
empty_refused ask base left n a g e l k low high accepted =
    let p : base ^ left ≡ 1 = ap (λ m. base ^ m) l ∙ pow-zero base in
    let one : k ≡ 1 = omega (arith, p) in
    let same : accepted.text ≡ [] = numbered_one ask accepted.text [] k accepted.numbered (record { symbols = tt; number = omega (arith, one) }) in
    g (ap length (runs_from_accepted ask [] a (subst (λ (u : List Symbol). IsAccepted ask u) same accepted.accepted)))

-- ---- how long texts are

pub short_text : (ask : Inquiry) (text : List Symbol) (digit left : ℕ) → IsAsked ask → AllByRecursion (IsSymbolOf ask) text → 1 ≤ digit → digit ≤ symbol_count ask
    → value (symbol_count ask) (map (digit_of ask) text ++ digit ∷ replicate left 1) ≤ 2 ^ 62
    → NoneAmong (AcceptedAt ask) 0 (value (symbol_count ask) (map (digit_of ask) text ++ digit ∷ replicate left 1)) → IsShort ask (length text + 1 + left)
short_text ask text digit left a s some most v none =
    let base = symbol_count ask in
    let xs = map (digit_of ask) text ++ digit ∷ replicate left 1 in
    let t : IsText base xs = IsText-append base (map (digit_of ask) text) (digit ∷ replicate left 1) (digits_text ask text s) (record { least = some; most = most }, IsText-ones base left (omega arith)) in
    let long : length xs ≡ length text + 1 + left =
    omega (arith, length-append (map (digit_of ask) text) (digit ∷ replicate left 1), length-map text (digit_of ask), length-replicate {A = ℕ} left 1) in
    elim (cases_lt 1 base) [
      | inl two ↦ inl (omega (arith, length_within base 62 xs two (omega arith) t v, long))
      | inr one ↦
          let e : base ≡ 1 = omega arith in
          inr (e, omega (arith, none_in_base_one ask (value base xs) a e none, value_in_base_one xs (subst (λ (n : ℕ). IsText n xs) e t), ap (λ n. value n xs) e, long))
    ]

-- ---- all numbers before

pub none_to : (ask : Inquiry) (first many next : ℕ) → NoneAmong (AcceptedAt ask) 0 first → NoneAmong (AcceptedAt ask) first (first + many) → next ≤ first + many → NoneAmong (AcceptedAt ask) 0 next
none_to ask first many next before here h k low high accepted =
    none_joined (AcceptedAt ask) 0 first (first + many) before here k low (omega arith) accepted

-- none of a turn's numbers, and the first accepted one
pub none_from : (ask there : Inquiry) (low high next : ℕ) → there ≡ ask → high < next → NoneAmong (AcceptedAt there) 0 (next - 1) → NoneAmong (AcceptedAt ask) low high
none_from ask there low high next e h none k above below accepted =
    none k (omega arith) (omega arith) (subst (λ (q : Inquiry). AcceptedAt q k) (sym e) accepted)

pub finds_first : (ask there : Inquiry) (text : List Symbol) (cursor units next spent : ℕ) → there ≡ ask → cursor < next → next ≤ cursor + units → NoneAmong (AcceptedAt there) 0 (next - 1)
    → IsNumbered there text next → IsAccepted there text → next - cursor ≡ spent → FindsFirst (AcceptedAt ask) cursor units spent
finds_first ask there text cursor units next spent e above within none numbered accepted s =
    let found : AcceptedAt there next = record { text = text; numbered = numbered; accepted = accepted } in
    let n : next ≡ cursor + spent = omega arith in
    record {
      some = omega arith;
      within = omega arith;
      holds = subst (λ (k : ℕ). AcceptedAt ask k) n (subst (λ (q : Inquiry). AcceptedAt q next) e found);
      none_before = none_from ask there cursor (cursor + spent - 1) next e (omega arith) none;
    }
