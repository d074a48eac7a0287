-- The fixed order of overlaps and inclusions: it is a way through all of them that ends.
use Rattle.std.proofs.Common.{◌≡◌, ℕ, zero, suc, ◌+◌, ◌-◌, ◌^◌, ◌<◌, ◌≤◌, ◌⊎◌, max, min, List, [], ◌∷◌, ◌++◌, map, length, refl, sym, ap, subst, ◌∙◌, inl, inr, arith}
use Rattle.std.specs.Prelude.{Option, None, Some, slice_get, Contains}
use Rattle.std.specs.List.{All, AllByRecursion}
use Rattle.std.proofs.lemmas.List.Elements.{All-nil, All-push, All-weaker, All-contains, All-from_recursion, recursion_from_All, Contains-push, Contains-append_left}
use Rattle.mg_numbers.specs.Texts.{IsText, value, IsLexBefore}
use Rattle.mg_numbers.proofs.TextsValues.{least_of, value_below, value_in_order}
use Rattle.mg_rules.specs.declared.meeting.Meeting.{Meeting}
use Rattle.mg_rules.specs.Rule.{Rule, rule_numbered}
use Rattle.mg_rules.specs.Meeting.{Meets}
use Rattle.mg_rules.proofs.Reading.{number_within}
use Rattle.mg_rules.proofs.Meetings.{meet_within}
use Rattle.mg_rules.specs.Listing.{order_of, ComesBefore, IsNext, IsInOrder, Lists, PairBefore, IsOfPair, IsNextPair}

pub lex_on : (p q r : List ℕ) → IsLexBefore p q → IsLexBefore q r → IsLexBefore p r
lex_on [] q r h k = absurd h
lex_on (x ∷ p) [] r h k = absurd h
lex_on (x ∷ p) (y ∷ q) [] h k = absurd k
lex_on (x ∷ p) (y ∷ q) (z ∷ r) (inl h) (inl k) = inl (omega arith)
lex_on (x ∷ p) (y ∷ q) (z ∷ r) (inl h) (inr k) = inl (let e : y ≡ z = k.0 in omega arith)
lex_on (x ∷ p) (y ∷ q) (z ∷ r) (inr h) (inl k) = inl (let e : x ≡ y = h.0 in omega arith)
lex_on (x ∷ p) (y ∷ q) (z ∷ r) (inr h) (inr k) = inr (h.0 ∙ k.0, lex_on p q r h.1 k.1)

pub before_on : (a b c : Meeting) → ComesBefore a b → ComesBefore b c → ComesBefore a c
before_on a b c h k = lex_on (order_of a) (order_of b) (order_of c) h k

-- ---- how far it is to the end

shifted : (p q : List ℕ) → IsLexBefore p q → IsLexBefore (map suc p) (map suc q)
shifted [] q h = absurd h
shifted (x ∷ p) [] h = absurd h
shifted (x ∷ p) (y ∷ q) h = elim h [ inl l ↦ inl (omega arith) | inr s ↦ inr (ap suc s.0, shifted p q s.1) ]

-- each number is below the base
abbrev pub AreBelow : ℕ → List ℕ → Type 0
AreBelow base [] = Unit {0}
AreBelow base (x ∷ p) = (x < base) × AreBelow base p

shifted_text : (base : ℕ) (p : List ℕ) → AreBelow base p → IsText base (map suc p)
shifted_text base [] h = tt
shifted_text base (x ∷ p) h = (record { least = omega arith; most = (let below : x < base = h.0 in omega arith) }, shifted_text base p h.1)

-- how many texts of this length there are behind this one
abbrev pub left_over : ℕ → List ℕ → ℕ
left_over base p = base ^ length p + least_of base (length p) - value base (map suc p)

same_size : (p : List ℕ) → length (map suc p) ≡ length p
same_size [] = refl
same_size (x ∷ p) = ap suc (same_size p)

pub less_left : (base : ℕ) (p q : List ℕ) → length p ≡ length q → AreBelow base p → AreBelow base q → IsLexBefore p q → left_over base q < left_over base p
less_left base p q sizes below below' before =
    let more : value base (map suc p) < value base (map suc q) =
    value_in_order base (map suc p) (map suc q) (shifted_text base p below) (shifted_text base q below') (inr (same_size p ∙ (sizes ∙ sym (same_size q)), shifted p q before)) in
    let top : value base (map suc q) < base ^ length (map suc q) + least_of base (length (map suc q)) = value_below base (map suc q) (shifted_text base q below') in
    let top' : value base (map suc q) < base ^ length q + least_of base (length q) = subst (λ (n : ℕ). value base (map suc q) < base ^ n + least_of base n) (same_size q) top in
    let size : base ^ length p + least_of base (length p) ≡ base ^ length q + least_of base (length q) = ap (λ n. base ^ n + least_of base n) sizes in
    omega (arith, more, top', size)

-- ---- the way to the next one

-- it is of this pair behind the place, or of a pair behind it
abbrev pub IsLater : ℕ → ℕ → Option ℕ → Meeting → Type 0
IsLater i j last m = IsOfPair i j last m ⊎ PairBefore i j m.first m.second

-- what comes behind is later
pub record OnTheWay (rules : List Rule) (from : Meeting) (i j : ℕ) (last : Option ℕ) : Type 0 where
  pub to : (m : Meeting) → Meets rules m → ComesBefore from m → IsLater i j last m
  pub back : (m : Meeting) → IsLater i j last m → ComesBefore from m

later_begun : (from m : Meeting) → ComesBefore from m → IsLater from.first from.second (Some from.place) m
later_begun from m (inl h) = inr (inl h)
later_begun from m (inr (e, inl h)) = inr (inr (e, inl h))
later_begun from m (inr (e, inr (f, inl h))) = inr (inr (e, inr (f, inl h)))
later_begun from m (inr (e, inr (f, inr (g, inl h)))) = inl (record { first = sym g; second = omega (arith, e, f, g); behind = h })
later_begun from m (inr (e, inr (f, inr (g, inr h)))) = absurd h.1

begun_later : (from m : Meeting) → IsLater from.first from.second (Some from.place) m → ComesBefore from m
begun_later from m (inl h) =
    let first : m.first ≡ from.first = h.first in
    let second : m.second ≡ from.second = h.second in
    inr (omega (arith, first, second), inr (omega (arith, first, second), inr (sym first, inl h.behind)))
begun_later from m (inr (inl h)) = inl h
begun_later from m (inr (inr (e, inl h))) = inr (e, inl h)
begun_later from m (inr (inr (e, inr (f, inl h)))) = inr (e, inr (f, inl h))
begun_later from m (inr (inr (e, inr (f, inr h)))) = absurd h.1

pub way_begun : (rules : List Rule) (from : Meeting) → OnTheWay rules from from.first from.second (Some from.place)
way_begun rules from = record { to = λ m _ h. later_begun from m h; back = λ m h. begun_later from m h }

pub way_next : (rules : List Rule) (from : Meeting) (count i j k l : ℕ) (last : Option ℕ) → OnTheWay rules from i j last → ((m : Meeting) → Meets rules m → IsOfPair i j last m → ⊥)
    → IsNextPair count i j k l → OnTheWay rules from k l None
way_next rules from count i j k l last way none next = record { to = to; back = back }
  where
    to : (m : Meeting) → Meets rules m → ComesBefore from m → IsLater k l None m
    to m meets h =
        elim (way.to m meets h) as (λ _. IsLater k l None m) [
          | inl of_pair ↦ absurd (none m meets of_pair)
          | inr before ↦
              let some : 1 ≤ m.first = (number_within rules m.first meets.first meets.first_numbered).0 in
              let some' : 1 ≤ m.second = (number_within rules m.second meets.second meets.second_numbered).0 in
              elim (next.least m.first m.second some some' before) as (λ _. IsLater k l None m) [
                | inl same ↦ inl (record { first = sym same.0; second = sym same.1; behind = tt })
                | inr later ↦ inr later
              ]
        ]

    back : (m : Meeting) → IsLater k l None m → ComesBefore from m
    back m (inl h) = way.back m (inr (subst (λ (n : ℕ). PairBefore i j n m.second) (sym h.first) (subst (λ (n : ℕ). PairBefore i j k n) (sym h.second) next.behind)))
    back m (inr h) = way.back m (inr (lex_on (max i j ∷ min i j ∷ i ∷ []) (max k l ∷ min k l ∷ k ∷ []) (max m.first m.second ∷ min m.first m.second ∷ m.first ∷ []) next.behind h))

greater_most : (i j k l : ℕ) → PairBefore i j k l → max i j ≤ max k l
greater_most i j k l (inl h) = omega arith
greater_most i j k l (inr h) = let e : max i j ≡ max k l = h.0 in omega arith

pub pair_nearer : (count i j k l : ℕ) → IsNextPair count i j k l → left_over (count + 1) (max k l ∷ min k l ∷ k ∷ []) < left_over (count + 1) (max i j ∷ min i j ∷ i ∷ [])
pair_nearer count i j k l next =
    let top : max k l ≤ count = omega (arith, next.first_most, next.second_most) in
    let most : max i j ≤ count = omega (arith, greater_most i j k l next.behind) in
    less_left (count + 1) (max i j ∷ min i j ∷ i ∷ []) (max k l ∷ min k l ∷ k ∷ []) refl
    (omega arith, (omega arith, (omega arith, tt))) (omega arith, (omega arith, (omega arith, tt))) next.behind

-- ---- all of them are within a base

abbrev pub left_letters : List Rule → ℕ
left_letters [] = 0
left_letters (rule ∷ rules) = length rule.left + left_letters rules

abbrev pub meeting_base : List Rule → ℕ
meeting_base rules = length rules + left_letters rules + 1

left_at : (rules : List Rule) (n : ℕ) (rule : Rule) → slice_get rules n ≡ Some rule → length rule.left ≤ left_letters rules
left_at [] n rule e = absurd (let no : None ≡ Some rule = e in cc)
left_at (r ∷ rules) zero rule e = let same : r ≡ rule = cc in omega (arith, ap (λ (t : Rule). length t.left) same)
left_at (r ∷ rules) (suc n) rule e = let rest = left_at rules n rule e in omega (arith, rest)

left_most : (rules : List Rule) (number : ℕ) (rule : Rule) → rule_numbered rules number ≡ Some rule → length rule.left ≤ left_letters rules
left_most rules zero rule e = absurd (let no : None ≡ Some rule = e in cc)
left_most rules (suc n) rule e = left_at rules n rule e

pub meets_below : (rules : List Rule) (m : Meeting) → Meets rules m → AreBelow (meeting_base rules) (order_of m)
meets_below rules m meets =
    let first = number_within rules m.first meets.first meets.first_numbered in
    let second = number_within rules m.second meets.second meets.second_numbered in
    let within : m.place ≤ length meets.first.left = meet_within m.first m.second meets.first.left meets.second.left m.place meets.meet in
    let most : length meets.first.left ≤ left_letters rules = left_most rules m.first meets.first meets.first_numbered in
    let one : m.first ≤ length rules = first.1 in
    let other : m.second ≤ length rules = second.1 in
    (omega arith, (omega arith, (omega arith, (omega arith, tt))))

pub beginning_below : (rules : List Rule) → AreBelow (meeting_base rules) (0 ∷ 0 ∷ 0 ∷ 0 ∷ [])
beginning_below rules = (omega arith, (omega arith, (omega arith, (omega arith, tt))))

pub next_nearer : (rules : List Rule) (at next : Meeting) → AreBelow (meeting_base rules) (order_of at) → IsNext rules at next
    → left_over (meeting_base rules) (order_of next) < left_over (meeting_base rules) (order_of at)
next_nearer rules at next below step = less_left (meeting_base rules) (order_of at) (order_of next) refl below (meets_below rules next step.meets) step.behind

-- ---- a list of them

-- those up to here are in the list
pub record Listed (rules : List Rule) (list : List Meeting) (at : Meeting) : Type 0 where
  pub below : AreBelow (meeting_base rules) (order_of at)
  pub ordered : IsInOrder list
  pub meet : All (Meets rules) list
  pub past : All (λ m. (m ≡ at) ⊎ ComesBefore m at) list
  pub each : (m : Meeting) → Meets rules m → ComesBefore at m ⊎ Contains list m

pub listed_none : (rules : List Rule) (at : Meeting) → at ≡ record { first = 0; second = 0; place = 0 } → ((rules : List Rule) (m : Meeting) → Meets rules m → ComesBefore at m) → Listed rules [] at
listed_none rules at value before = record {
  below = subst (λ (t : Meeting). AreBelow (meeting_base rules) (order_of t)) (sym value) (beginning_below rules);
  ordered = tt;
  meet = All-nil (Meets rules);
  past = All-nil (λ m. (m ≡ at) ⊎ ComesBefore m at);
  each = λ m meets. inl (before rules m meets);
}

order_push : (list : List Meeting) (m : Meeting) → IsInOrder list → AllByRecursion (λ x. ComesBefore x m) list → IsInOrder (list ++ m ∷ [])
order_push [] m h k = (tt, tt)
order_push (x ∷ list) m h k =
    (recursion_from_All (ComesBefore x) (list ++ m ∷ []) (All-push (ComesBefore x) list m (All-from_recursion (ComesBefore x) list h.0) k.0), order_push list m h.1 k.1)

pub listed_next : (rules : List Rule) (list list' : List Meeting) (at next : Meeting) → Listed rules list at → IsNext rules at next → list' ≡ list ++ next ∷ [] → Listed rules list' next
listed_next rules list list' at next listed step e =
    let earlier : All (λ m. ComesBefore m next) list =
    All-weaker (λ m. (m ≡ at) ⊎ ComesBefore m at) (λ m. ComesBefore m next) (λ m h. elim h as (λ _. ComesBefore m next) [
      | inl same ↦ subst (λ (t : Meeting). ComesBefore t next) (sym same) step.behind
      | inr before ↦ before_on m at next before step.behind
    ]) list listed.past in
    subst (λ (t : List Meeting). Listed rules t next) (sym e) (record {
      below = meets_below rules next step.meets;
      ordered = order_push list next listed.ordered (recursion_from_All (λ m. ComesBefore m next) list earlier);
      meet = All-push (Meets rules) list next listed.meet step.meets;
      past = All-push (λ m. (m ≡ next) ⊎ ComesBefore m next) list next (All-weaker (λ m. ComesBefore m next) (λ m. (m ≡ next) ⊎ ComesBefore m next) (λ m h. inr h) list earlier) (inl refl);
      each = each;
    })
  where
    each : (m : Meeting) → Meets rules m → ComesBefore next m ⊎ Contains (list ++ next ∷ []) m
    each m meets =
        elim (listed.each m meets) as (λ _. ComesBefore next m ⊎ Contains (list ++ next ∷ []) m) [
          | inl later ↦ elim (step.least m meets later) as (λ _. ComesBefore next m ⊎ Contains (list ++ next ∷ []) m) [
            | inl same ↦ inr (subst (Contains (list ++ next ∷ [])) same (Contains-push list next))
            | inr before ↦ inl before
          ]
          | inr there ↦ inr (Contains-append_left list (next ∷ []) m there)
        ]

pub listed_all : (rules : List Rule) (list : List Meeting) (at : Meeting) → Listed rules list at → ((m : Meeting) → Meets rules m → ComesBefore at m → ⊥) → Lists rules list
listed_all rules list at listed none = record {
  each = λ m meets. elim (listed.each m meets) as (λ _. Contains list m) [ inl later ↦ absurd (none m meets later) | inr there ↦ there ];
  only = λ m there. All-contains (Meets rules) list m listed.meet there;
  ordered = listed.ordered;
}

-- ---- a fact on each of them

-- those up to here have the property
pub record Checked (rules : List Rule) (P : Meeting → Type 0) (at : Meeting) : Type 0 where
  pub below : AreBelow (meeting_base rules) (order_of at)
  pub each : (m : Meeting) → Meets rules m → ComesBefore at m ⊎ P m

pub checked_none : (rules : List Rule) (P : Meeting → Type 0) (at : Meeting) → at ≡ record { first = 0; second = 0; place = 0 } → ((rules : List Rule) (m : Meeting) → Meets rules m → ComesBefore at m) → Checked rules P at
checked_none rules P at value before = record {
  below = subst (λ (t : Meeting). AreBelow (meeting_base rules) (order_of t)) (sym value) (beginning_below rules);
  each = λ m meets. inl (before rules m meets);
}

pub checked_next : (rules : List Rule) (P : Meeting → Type 0) (at next : Meeting) → Checked rules P at → IsNext rules at next → P next → Checked rules P next
checked_next rules P at next checked step here = record { below = meets_below rules next step.meets; each = each }
  where
    each : (m : Meeting) → Meets rules m → ComesBefore next m ⊎ P m
    each m meets =
        elim (checked.each m meets) as (λ _. ComesBefore next m ⊎ P m) [
          | inl later ↦ elim (step.least m meets later) as (λ _. ComesBefore next m ⊎ P m) [ inl same ↦ inr (subst P same here) | inr before ↦ inl before ]
          | inr has ↦ inr has
        ]

pub checked_all : (rules : List Rule) (P : Meeting → Type 0) (at : Meeting) → Checked rules P at → ((m : Meeting) → Meets rules m → ComesBefore at m → ⊥) → (m : Meeting) → Meets rules m → P m
checked_all rules P at checked none m meets =
    elim (checked.each m meets) as (λ _. P m) [ inl later ↦ absurd (none m meets later) | inr has ↦ has ]
