-- Symbols and digits, and texts and their numbers.
use Rattle.std.proofs.Common.{◌≡◌, ℕ, zero, suc, ◌+◌, ◌-◌, ◌*◌, ◌<◌, ◌≤◌, Bool, true, false, ℤ, pos, negsuc, List, [], ◌∷◌, length, map, refl, ap, subst, ◌∙◌, inl, inr, arith}
use Rattle.std.specs.List.{AllByRecursion}
use Rattle.std.proofs.lemmas.Bool.{cases_lt}
use Rattle.mg_numbers.specs.Texts.{IsDigit, IsText, value}
use Rattle.mg_numbers.proofs.TextsValues.{text_unique, text_of_each}
use Rattle.mg_words.specs.Letter.{IsLetterOf, number_of}
use Rattle.mg_present.specs.Ask.{Inquiry}
use Rattle.mg_derive.specs.declared.symbol.Symbol.{Symbol}
use Rattle.mg_derive.specs.declared.symbol.Symbol.TheVariants.{Letter, Relator, Member, Cut}
use Rattle.mg_derive.specs.Symbols.{IsPlaceIn, IsSymbolOf, pair_digit, digit_of, symbol_count}
use Rattle.mg_derive.specs.Acceptance.{IsNumbered}

-- ---- two digits a place

pub pair_shift : (before place : ℕ) (inverse : Bool) → 1 ≤ place → pair_digit before place inverse ≡ before + pair_digit 0 place inverse
pair_shift before place false h = omega arith
pair_shift before place true h = omega arith

pair_low : (before place : ℕ) (inverse : Bool) → 1 ≤ place → before < pair_digit before place inverse
pair_low before place false h = omega arith
pair_low before place true h = omega arith

pair_high : (before place most : ℕ) (inverse : Bool) → 1 ≤ place → place ≤ most → pair_digit before place inverse ≤ before + 2 * most
pair_high before place most false h k = omega arith
pair_high before place most true h k = omega arith

pair_one : (before p q : ℕ) (i j : Bool) → 1 ≤ p → 1 ≤ q → pair_digit before p i ≡ pair_digit before q j → (p ≡ q) × (i ≡ j)
pair_one before p q false false h k e = (omega arith, refl)
pair_one before p q true true h k e = (omega arith, refl)
pair_one before p q false true h k e = absurd (omega arith)
pair_one before p q true false h k e = absurd (omega arith)

-- each number from 1 is the digit of a place and a sign
record Sign (digit : ℕ) : Type 0 where
  place : ℕ
  inverse : Bool
  least : 1 ≤ place
  most : 2 * place ≤ digit + 1
  is_digit : pair_digit 0 place inverse ≡ digit

next_sign : (digit place : ℕ) (inverse : Bool) → 1 ≤ place → 2 * place ≤ digit + 1 → pair_digit 0 place inverse ≡ digit → Sign (digit + 1)
next_sign digit place false l m e = record { place = place; inverse = true; least = l; most = omega arith; is_digit = omega arith }
next_sign digit place true l m e = record { place = place + 1; inverse = false; least = omega arith; most = omega arith; is_digit = omega arith }

sign_from : (n : ℕ) → Sign (n + 1)
sign_from zero = record { place = 1; inverse = false; least = omega arith; most = omega arith; is_digit = refl }
sign_from (suc n) =
    let s = sign_from n in
    let e : n + 1 + 1 ≡ suc n + 1 = omega arith in
    subst (λ (d : ℕ). Sign d) e (next_sign (n + 1) s.place s.inverse s.least s.most s.is_digit)

sign_of : (digit : ℕ) → 1 ≤ digit → Sign digit
sign_of digit h = let e : digit - 1 + 1 ≡ digit = omega arith in subst (λ (d : ℕ). Sign d) e (sign_from (digit - 1))

-- ---- digits of symbols

pub letter_digit : (ask : Inquiry) (place : ℕ) (inverse : Bool) → 1 ≤ place → digit_of ask (Letter (number_of place inverse)) ≡ pair_digit 0 place inverse
letter_digit ask place false h = refl
letter_digit ask place true h = omega arith

letter_low : (ask : Inquiry) (x : ℤ) → IsLetterOf ask.group.generators x → 1 ≤ digit_of ask (Letter x)
letter_low ask (pos n) s = omega (arith, s.least)
letter_low ask (negsuc n) s = omega arith

letter_high : (ask : Inquiry) (x : ℤ) → IsLetterOf ask.group.generators x → digit_of ask (Letter x) ≤ 2 * ask.group.generators
letter_high ask (pos n) s = omega (arith, s.most)
letter_high ask (negsuc n) s = omega (arith, s.most)

letter_one : (ask : Inquiry) (x y : ℤ) → IsLetterOf ask.group.generators x → IsLetterOf ask.group.generators y → digit_of ask (Letter x) ≡ digit_of ask (Letter y) → x ≡ y
letter_one ask (pos a) (pos b) s t e = let k : a ≡ b = omega (arith, s.least, t.least) in ap pos k
letter_one ask (negsuc a) (negsuc b) s t e = let k : a ≡ b = omega arith in ap negsuc k
letter_one ask (pos a) (negsuc b) s t e = absurd (omega (arith, s.least))
letter_one ask (negsuc a) (pos b) s t e = absurd (omega (arith, t.least))

abbrev members_from : Inquiry → ℕ
members_from ask = 2 * ask.group.generators + 2 * length ask.group.relators

relator_low : (ask : Inquiry) (place : ℕ) (inverse : Bool) → IsPlaceIn ask.group.relators place → 2 * ask.group.generators < digit_of ask (Relator place inverse)
relator_low ask place inverse s = pair_low (2 * ask.group.generators) place inverse s.least

relator_high : (ask : Inquiry) (place : ℕ) (inverse : Bool) → IsPlaceIn ask.group.relators place → digit_of ask (Relator place inverse) ≤ members_from ask
relator_high ask place inverse s = pair_high (2 * ask.group.generators) place (length ask.group.relators) inverse s.least s.most

member_low : (ask : Inquiry) (place : ℕ) (inverse : Bool) → IsPlaceIn ask.subgroup place → members_from ask < digit_of ask (Member place inverse)
member_low ask place inverse s = pair_low (members_from ask) place inverse s.least

member_high : (ask : Inquiry) (place : ℕ) (inverse : Bool) → IsPlaceIn ask.subgroup place → digit_of ask (Member place inverse) < symbol_count ask
member_high ask place inverse s = let h = pair_high (members_from ask) place (length ask.subgroup) inverse s.least s.most in omega arith

pub digit_within : (ask : Inquiry) (symbol : Symbol) → IsSymbolOf ask symbol → IsDigit (symbol_count ask) (digit_of ask symbol)
digit_within ask (Letter x) s = record { least = letter_low ask x s; most = let h = letter_high ask x s in omega arith }
digit_within ask (Relator place inverse) s = record { least = let h = relator_low ask place inverse s in omega arith; most = let h = relator_high ask place inverse s in omega arith }
digit_within ask (Member place inverse) s = record { least = let h = member_low ask place inverse s in omega arith; most = let h = member_high ask place inverse s in omega arith }
digit_within ask Cut s = record { least = omega arith; most = omega arith }

-- the cut has the greatest digit
abbrev pub IsNoCut : Symbol → Type 0
IsNoCut (Letter x) = Unit {0}
IsNoCut (Relator place inverse) = Unit {0}
IsNoCut (Member place inverse) = Unit {0}
IsNoCut Cut = ⊥

pub below_cut : (ask : Inquiry) (symbol : Symbol) → IsSymbolOf ask symbol → IsNoCut symbol → digit_of ask symbol < symbol_count ask
below_cut ask (Letter x) s n = let h = letter_high ask x s in omega arith
below_cut ask (Relator place inverse) s n = let h = relator_high ask place inverse s in omega arith
below_cut ask (Member place inverse) s n = member_high ask place inverse s
below_cut ask Cut s n = absurd n

-- two symbols of one digit are one symbol
pub digit_one : (ask : Inquiry) (s t : Symbol) → IsSymbolOf ask s → IsSymbolOf ask t → digit_of ask s ≡ digit_of ask t → s ≡ t
digit_one ask (Letter x) (Letter y) h k e = ap Letter (letter_one ask x y h k e)
digit_one ask (Relator p i) (Relator q j) h k e = let o = pair_one (2 * ask.group.generators) p q i j h.least k.least e in ap (λ n. Relator n i) o.0 ∙ ap (λ b. Relator q b) o.1
digit_one ask (Member p i) (Member q j) h k e = let o = pair_one (members_from ask) p q i j h.least k.least e in ap (λ n. Member n i) o.0 ∙ ap (λ b. Member q b) o.1
digit_one ask Cut Cut h k e = refl
digit_one ask (Letter x) (Relator q j) h k e = absurd (omega (arith, letter_high ask x h, relator_low ask q j k))
digit_one ask (Letter x) (Member q j) h k e = absurd (omega (arith, letter_high ask x h, member_low ask q j k))
digit_one ask (Letter x) Cut h k e = absurd (omega (arith, letter_high ask x h))
digit_one ask (Relator p i) (Letter y) h k e = absurd (omega (arith, relator_low ask p i h, letter_high ask y k))
digit_one ask (Relator p i) (Member q j) h k e = absurd (omega (arith, relator_high ask p i h, member_low ask q j k))
digit_one ask (Relator p i) Cut h k e = absurd (omega (arith, relator_high ask p i h))
digit_one ask (Member p i) (Letter y) h k e = absurd (omega (arith, member_low ask p i h, letter_high ask y k))
digit_one ask (Member p i) (Relator q j) h k e = absurd (omega (arith, member_low ask p i h, relator_high ask q j k))
digit_one ask (Member p i) Cut h k e = absurd (omega (arith, member_high ask p i h))
digit_one ask Cut (Letter y) h k e = absurd (omega (arith, letter_high ask y k))
digit_one ask Cut (Relator q j) h k e = absurd (omega (arith, relator_high ask q j k))
digit_one ask Cut (Member q j) h k e = absurd (omega (arith, member_high ask q j k))

-- each digit is that of a symbol
record Found (ask : Inquiry) (digit : ℕ) : Type 0 where
  symbol : Symbol
  is_symbol : IsSymbolOf ask symbol
  is_digit : digit_of ask symbol ≡ digit

abs_place : (m place : ℕ) (inverse : Bool) → 1 ≤ place → place ≤ m → IsLetterOf m (number_of place inverse)
abs_place m place false h k = record { least = h; most = k }
abs_place m place true h k = record { least = omega arith; most = omega arith }

pub letter_at : (ask : Inquiry) (place digit : ℕ) (inverse : Bool) → 1 ≤ place → 2 * place ≤ digit + 1 → pair_digit 0 place inverse ≡ digit → digit ≤ 2 * ask.group.generators
    → IsSymbolOf ask (Letter (number_of place inverse)) × (digit_of ask (Letter (number_of place inverse)) ≡ digit)
letter_at ask place digit inverse l m e h = (abs_place ask.group.generators place inverse l (omega arith), letter_digit ask place inverse l ∙ e)

pub relator_at : (ask : Inquiry) (place digit : ℕ) (inverse : Bool) → 1 ≤ place → 2 * place ≤ digit - 2 * ask.group.generators + 1 → pair_digit 0 place inverse ≡ digit - 2 * ask.group.generators
    → 2 * ask.group.generators < digit → digit - 2 * ask.group.generators ≤ 2 * length ask.group.relators
    → IsSymbolOf ask (Relator place inverse) × (digit_of ask (Relator place inverse) ≡ digit)
relator_at ask place digit inverse l m e a h =
    (record { least = l; most = omega arith }, let s = pair_shift (2 * ask.group.generators) place inverse l in omega arith)

pub member_at : (ask : Inquiry) (place digit : ℕ) (inverse : Bool) → 1 ≤ place → 2 * place ≤ digit - members_from ask + 1 → pair_digit 0 place inverse ≡ digit - members_from ask
    → members_from ask < digit → digit - members_from ask ≤ 2 * length ask.subgroup
    → IsSymbolOf ask (Member place inverse) × (digit_of ask (Member place inverse) ≡ digit)
member_at ask place digit inverse l m e a h =
    (record { least = l; most = omega arith }, let s = pair_shift (members_from ask) place inverse l in omega arith)

found_of : (ask : Inquiry) (digit : ℕ) → 1 ≤ digit → digit ≤ symbol_count ask → Found ask digit
found_of ask digit l m =
    elim (cases_lt (2 * ask.group.generators) digit) [
      | inr low ↦ let s = sign_of digit l in
          let f = letter_at ask s.place digit s.inverse s.least s.most s.is_digit low in
          record { symbol = Letter (number_of s.place s.inverse); is_symbol = f.0; is_digit = f.1 }
      | inl above ↦ elim (cases_lt (members_from ask) digit) [
        | inr low ↦ let s = sign_of (digit - 2 * ask.group.generators) (omega arith) in
            let f = relator_at ask s.place digit s.inverse s.least s.most s.is_digit above (omega arith) in
            record { symbol = Relator s.place s.inverse; is_symbol = f.0; is_digit = f.1 }
        | inl over ↦ elim (cases_lt digit (symbol_count ask)) [
          | inl low ↦ let s = sign_of (digit - members_from ask) (omega arith) in
              let f = member_at ask s.place digit s.inverse s.least s.most s.is_digit over (omega arith) in
              record { symbol = Member s.place s.inverse; is_symbol = f.0; is_digit = f.1 }
          | inr last ↦ record { symbol = Cut; is_symbol = tt; is_digit = omega arith }
        ]
      ]
    ]

-- ---- texts

pub digits_text : (ask : Inquiry) (text : List Symbol) → AllByRecursion (IsSymbolOf ask) text → IsText (symbol_count ask) (map (digit_of ask) text)
digits_text ask [] h = tt
digits_text ask (symbol ∷ text) h = (digit_within ask symbol h.0, digits_text ask text h.1)

digits_one : (ask : Inquiry) (s t : List Symbol) → AllByRecursion (IsSymbolOf ask) s → AllByRecursion (IsSymbolOf ask) t → map (digit_of ask) s ≡ map (digit_of ask) t → s ≡ t
digits_one ask [] [] h k e = refl
digits_one ask [] (y ∷ t) h k e = cc
digits_one ask (x ∷ s) [] h k e = cc
digits_one ask (x ∷ s) (y ∷ t) h k e =
    let a : digit_of ask x ≡ digit_of ask y = cc in
    let b : map (digit_of ask) s ≡ map (digit_of ask) t = cc in
    ap (λ z. z ∷ s) (digit_one ask x y h.0 k.0 a) ∙ ap (λ z. y ∷ z) (digits_one ask s t h.1 k.1 b)

pub numbered_one : (ask : Inquiry) (s t : List Symbol) (n : ℕ) → IsNumbered ask s n → IsNumbered ask t n → s ≡ t
numbered_one ask s t n a b =
    let k = symbol_count ask in
    let e : value k (map (digit_of ask) s) ≡ value k (map (digit_of ask) t) = omega (arith, a.number, b.number) in
    digits_one ask s t a.symbols b.symbols
    (text_unique k (map (digit_of ask) s) (map (digit_of ask) t) (digits_text ask s a.symbols) (digits_text ask t b.symbols) e)

pub record Spelled (ask : Inquiry) (digits : List ℕ) : Type 0 where
  pub text : List Symbol
  pub symbols : AllByRecursion (IsSymbolOf ask) text
  pub are_digits : map (digit_of ask) text ≡ digits

pub spelled : (ask : Inquiry) (digits : List ℕ) → IsText (symbol_count ask) digits → Spelled ask digits
spelled ask [] h = record { text = []; symbols = tt; are_digits = refl }
spelled ask (digit ∷ digits) h =
    let f = found_of ask digit h.0.least h.0.most in
    let s = spelled ask digits h.1 in
    record { text = f.symbol ∷ s.text; symbols = (f.is_symbol, s.symbols); are_digits = ap (λ d. d ∷ map (digit_of ask) s.text) f.is_digit ∙ ap (λ t. digit ∷ t) s.are_digits }

pub numbered_each : (ask : Inquiry) (n : ℕ) → 1 ≤ n → (t : List Symbol) × IsNumbered ask t n
numbered_each ask n h =
    let k = symbol_count ask in
    let d = text_of_each k (n - 1) (omega arith) in
    let s = spelled ask d.0 d.1 in
    (s.text, record { symbols = s.symbols; number = let e = ap (λ t. value k t) s.are_digits in omega (arith, d.2) })

pub number_of_each : (ask : Inquiry) (t : List Symbol) → AllByRecursion (IsSymbolOf ask) t → (n : ℕ) × (1 ≤ n) × IsNumbered ask t n
number_of_each ask t h = (value (symbol_count ask) (map (digit_of ask) t) + 1, omega arith, record { symbols = h; number = refl })
