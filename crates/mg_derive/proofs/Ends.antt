-- The text of a number, and the texts of an Ask with one symbol.
use Rattle.std.proofs.Common.{◌≡◌, ℕ, suc, ◌+◌, ◌≤◌, ℤ, List, [], ◌∷◌, ◌++◌, length, map, refl, sym, ap, subst, ◌∙◌, inl, inr, arith}
use Rattle.std.specs.List.{AllByRecursion, flat_map}
use Rattle.std.proofs.lemmas.List.{length-map}
use Rattle.std.proofs.lemmas.Bool.{cases_lt}
use Rattle.mg_numbers.specs.Texts.{IsText, value}
use Rattle.mg_numbers.specs.Plain.{NoneAmong}
use Rattle.mg_numbers.proofs.TextsValues.{value_in_base_one}
use Rattle.mg_words.specs.Word.{IsOver}
use Rattle.mg_words.proofs.Chains.{Same-equal}
use Rattle.mg_present.specs.Ask.{Inquiry, IsAsked, IsReducedOver}
use Rattle.mg_derive.specs.declared.symbol.Symbol.{Symbol}
use Rattle.mg_derive.specs.declared.symbol.Symbol.TheVariants.{Letter, Relator, Member, Cut}
use Rattle.mg_derive.specs.Symbols.{IsSymbolOf, digit_of, symbol_count, written_out, letters_alone}
use Rattle.mg_derive.specs.Acceptance.{IsInOrder, Vanishes, Write, IsAccepted, IsNumbered, AcceptedAt}
use Rattle.mg_derive.specs.Room.{Room, HasRoom}
use Rattle.mg_derive.proofs.Numbers.{digits_text, numbered_one}

abbrev closed : List Symbol → List Symbol
closed part = part ++ Cut ∷ []

-- ---- the text of a number

pub numbered_by : (ask : Inquiry) (text : List Symbol) (digits : List ℕ) → AllByRecursion (IsSymbolOf ask) text → map (digit_of ask) text ≡ digits → IsNumbered ask text (value (symbol_count ask) digits + 1)
numbered_by ask text digits s e = record { symbols = s; number = ap (λ t. value (symbol_count ask) t + 1) e }

pub accepted_text : (ask : Inquiry) (text : List Symbol) (n : ℕ) → IsNumbered ask text n → AcceptedAt ask n → IsAccepted ask text
accepted_text ask text n s a = subst (λ (t : List Symbol). IsAccepted ask t) (numbered_one ask a.text text n a.numbered s) a.accepted

-- ---- an Ask with one symbol

-- there are neither letters nor signs
nothing_written : (ask : Inquiry) (text : List Symbol) → symbol_count ask ≡ 1 → AllByRecursion (IsSymbolOf ask) text → (written_out ask text ≡ []) × (letters_alone text ≡ [])
nothing_written ask [] k s = (refl, refl)
nothing_written ask (Letter x ∷ text) k s = absurd (omega (arith, s.0.least, s.0.most))
nothing_written ask (Relator place inverse ∷ text) k s = absurd (omega (arith, s.0.least, s.0.most))
nothing_written ask (Member place inverse ∷ text) k s = absurd (omega (arith, s.0.least, s.0.most))
nothing_written ask (Cut ∷ text) k s = nothing_written ask text k s.1

pub room_for_cuts : (ask : Inquiry) (text : List Symbol) (room : Room) → symbol_count ask ≡ 1 → AllByRecursion (IsSymbolOf ask) text → HasRoom ask text room
room_for_cuts ask text room k s =
    let n = nothing_written ask text k s in
    record { letters = omega (arith, ap length n.1); written = omega (arith, ap length n.0) }

-- all goals are empty, and as many cuts as goals are accepted
empty_word : (w : List ℤ) → IsOver 0 w → w ≡ []
empty_word [] h = refl
empty_word (x ∷ w) h = absurd (omega (arith, h.0.least, h.0.most))

cuts : List (List ℤ) → List Symbol
cuts [] = []
cuts (goal ∷ goals) = Cut ∷ cuts goals

bare : List (List ℤ) → List (List Symbol)
bare [] = []
bare (goal ∷ goals) = [] ∷ bare goals

cuts_symbols : (ask : Inquiry) (goals : List (List ℤ)) → AllByRecursion (IsSymbolOf ask) (cuts goals)
unfolding cuts
cuts_symbols ask [] = tt
cuts_symbols ask (goal ∷ goals) = (tt, cuts_symbols ask goals)

cuts_closed : (goals : List (List ℤ)) → cuts goals ≡ flat_map closed (bare goals)
unfolding cuts bare
cuts_closed [] = refl
cuts_closed (goal ∷ goals) = ap (λ t. Cut ∷ t) (cuts_closed goals)

bare_in_order : (goals : List (List ℤ)) → AllByRecursion IsInOrder (bare goals)
unfolding bare
bare_in_order [] = tt
bare_in_order (goal ∷ goals) = (record { front = []; back = []; split = refl; of_group = tt; members = tt }, bare_in_order goals)

bare_vanish : (ask : Inquiry) (goals : List (List ℤ)) → AllByRecursion (Vanishes ask) (bare goals)
unfolding bare
bare_vanish ask [] = tt
bare_vanish ask (goal ∷ goals) = (Same-equal ask.group.generators [] [] [] refl, bare_vanish ask goals)

bare_write : (ask : Inquiry) (goals : List (List ℤ)) → ask.group.generators ≡ 0 → AllByRecursion (IsReducedOver ask.group.generators) goals → Write ask (bare goals) goals
unfolding bare
bare_write ask [] m g = tt
bare_write ask (goal ∷ goals) m g =
    let e : goal ≡ [] = empty_word goal (subst (λ (n : ℕ). IsOver n goal) m g.0.over) in
    (Same-equal ask.group.generators [] [] goal (sym e), bare_write ask goals m g.1)

cuts_length : (goals : List (List ℤ)) → length (cuts goals) ≡ length goals
unfolding cuts
cuts_length [] = refl
cuts_length (goal ∷ goals) = ap suc (cuts_length goals)

pub cuts_accepted : (ask : Inquiry) → IsAsked ask → symbol_count ask ≡ 1 → AcceptedAt ask (length ask.goals + 1)
cuts_accepted ask a k =
    let text = cuts ask.goals in
    let s = cuts_symbols ask ask.goals in
    let d = map (digit_of ask) text in
    let t : IsText 1 d = subst (λ (n : ℕ). IsText n d) k (digits_text ask text s) in
    let v : value (symbol_count ask) d ≡ length ask.goals = ap (λ n. value n d) k ∙ (value_in_base_one d t ∙ (length-map text (digit_of ask) ∙ cuts_length ask.goals)) in
    record {
      text = text;
      numbered = record { symbols = s; number = ap (λ n. n + 1) v };
      accepted = record {
        symbols = s;
        parts = bare ask.goals;
        cut = cuts_closed ask.goals;
        in_order = bare_in_order ask.goals;
        vanish = bare_vanish ask ask.goals;
        write = bare_write ask ask.goals (omega arith) a.words.goal_words;
      };
    }

-- where none up to a number is accepted, that number is at most that of the goals
pub none_in_base_one : (ask : Inquiry) (n : ℕ) → IsAsked ask → symbol_count ask ≡ 1 → NoneAmong (AcceptedAt ask) 0 n → n ≤ 4096
none_in_base_one ask n a k h =
    elim (cases_lt (length ask.goals) n) [
      | inl above ↦ absurd (h (length ask.goals + 1) (omega arith) (omega arith) (cuts_accepted ask a k))
      | inr below ↦ omega (arith, a.words.goal_count)
    ]
