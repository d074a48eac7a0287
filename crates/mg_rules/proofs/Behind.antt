-- Rules behind the others put overlaps and inclusions only behind those that are there.
use Rattle.std.proofs.Common.{◌≡◌, ℕ, zero, suc, ◌<◌, ◌≤◌, ◌⊎◌, max, List, [], ◌∷◌, ◌++◌, length, refl, sym, ap, subst, ◌∙◌, inl, inr, arith}
use Rattle.std.specs.Prelude.{slice_get, Contains}
use Rattle.std.proofs.lemmas.Bool.{cases_lt}
use Rattle.std.proofs.lemmas.List.Elements.{All-contains, All-from_recursion, Contains-append_left, Contains-append_right, Contains-append_cases, Contains-push, Contains-push_cases}
use Rattle.mg_rules.specs.declared.meeting.Meeting.{Meeting}
use Rattle.mg_rules.specs.Rule.{Rule, rule_numbered}
use Rattle.mg_rules.specs.Meeting.{Meets}
use Rattle.mg_rules.specs.Listing.{order_of, ComesBefore, IsInOrder, Lists}
use Rattle.mg_numbers.specs.Texts.{IsLexBefore}
use Rattle.mg_rules.proofs.Reading.{number_within}
use Rattle.mg_rules.proofs.Adding.{numbered_still}
use Rattle.mg_rules.proofs.Orders.{before_on}

not_itself : (p : List ℕ) → IsLexBefore p p → ⊥
not_itself [] h = h
not_itself (x ∷ p) h = elim h [ inl l ↦ omega arith | inr s ↦ not_itself p s.1 ]

none_before_itself : (m : Meeting) → ComesBefore m m → ⊥
none_before_itself m h = not_itself (order_of m) h

-- ---- members

in_none : (m : Meeting) → Contains [] m → ⊥
in_none m there = let below : there.0 < 0 = there.1 in omega arith

in_cases : (x : Meeting) (list : List Meeting) (m : Meeting) → Contains (x ∷ list) m → (x ≡ m) ⊎ Contains list m
in_cases x list m there =
    elim (Contains-append_cases (x ∷ []) list m there) as (λ _. (x ≡ m) ⊎ Contains list m) [
      | inl first ↦ elim (Contains-push_cases [] x m first) as (λ _. (x ≡ m) ⊎ Contains list m) [ inl none ↦ absurd (in_none m none) | inr same ↦ inl same ]
      | inr rest ↦ inr rest
    ]

in_first : (x : Meeting) (list : List Meeting) → Contains (x ∷ list) x
in_first x list = Contains-append_left (x ∷ []) list x (Contains-push [] x)

in_rest : (x : Meeting) (list : List Meeting) (m : Meeting) → Contains list m → Contains (x ∷ list) m
in_rest x list m there = Contains-append_right (x ∷ []) list m there

before_rest : (x : Meeting) (list : List Meeting) (m : Meeting) → IsInOrder (x ∷ list) → Contains list m → ComesBefore x m
before_rest x list m ordered there = All-contains (ComesBefore x) list m (All-from_recursion (ComesBefore x) list ordered.0) there

-- what is in the longer list is in the shorter one, or behind all of it
abbrev pub IsThereOrBehind : List Meeting → Meeting → Type 0
IsThereOrBehind list m = Contains list m ⊎ ((x : Meeting) → Contains list x → ComesBefore x m)

same_first : (x y : Meeting) (list longer : List Meeting) → IsInOrder (x ∷ list) → IsInOrder (y ∷ longer) → Contains (y ∷ longer) x → IsThereOrBehind (x ∷ list) y → x ≡ y
same_first x y list longer ordered ordered' there (inr behind) =
    absurd (
    let before : ComesBefore x y = behind x (in_first x list) in
    elim (in_cases y longer x there) [
      | inl same ↦ none_before_itself y (subst (λ (t : Meeting). ComesBefore t y) (sym same) before)
      | inr rest ↦ none_before_itself x (before_on x y x before (before_rest y longer x ordered' rest))
    ])
same_first x y list longer ordered ordered' there (inl in_list) =
    elim (in_cases x list y in_list) as (λ _. x ≡ y) [
      | inl same ↦ same
      | inr rest ↦ elim (in_cases y longer x there) as (λ _. x ≡ y) [
        | inl same ↦ sym same
        | inr rest' ↦ absurd (none_before_itself x (before_on x y x (before_rest x list y ordered rest) (before_rest y longer x ordered' rest')))
      ]
    ]

pub begins_with : (list longer : List Meeting) → IsInOrder list → IsInOrder longer → ((m : Meeting) → Contains list m → Contains longer m)
    → ((m : Meeting) → Contains longer m → IsThereOrBehind list m) → (behind : List Meeting) × (longer ≡ list ++ behind)
begins_with [] longer ordered ordered' there back = (longer, refl)
begins_with (x ∷ list) [] ordered ordered' there back = absurd (in_none x (there x (in_first x list)))
begins_with (x ∷ list) (y ∷ longer) ordered ordered' there back =
    let first : x ≡ y = same_first x y list longer ordered ordered' (there x (in_first x list)) (back y (in_first y longer)) in
    let rest = begins_with list longer ordered.1 ordered'.1 (there_rest first) (back_rest first) in
    (rest.0, ap (λ t. y ∷ t) rest.1 ∙ ap (λ (t : Meeting). t ∷ (list ++ rest.0)) (sym first))
  where
    there_rest : x ≡ y → (m : Meeting) → Contains list m → Contains longer m
    there_rest first m in_list =
        elim (in_cases y longer m (there m (in_rest x list m in_list))) as (λ _. Contains longer m) [
          | inl same ↦ absurd (none_before_itself x (subst (ComesBefore x) (sym (first ∙ same)) (before_rest x list m ordered in_list)))
          | inr rest ↦ rest
        ]

    back_rest : x ≡ y → (m : Meeting) → Contains longer m → IsThereOrBehind list m
    back_rest first m in_longer =
        elim (back m (in_rest y longer m in_longer)) as (λ _. IsThereOrBehind list m) [
          | inl in_list ↦ elim (in_cases x list m in_list) as (λ _. IsThereOrBehind list m) [
            | inl same ↦ absurd (none_before_itself y (subst (ComesBefore y) (sym (sym first ∙ same)) (before_rest y longer m ordered' in_longer)))
            | inr rest ↦ inl rest
          ]
          | inr behind ↦ inr (λ z in_list. behind z (in_rest x list z in_list))
        ]

-- ---- what rules meet

at_before : (rules more : List Rule) (n : ℕ) → n < length rules → slice_get (rules ++ more) n ≡ slice_get rules n
at_before [] more n h = absurd (omega arith)
at_before (r ∷ rules) more zero h = refl
at_before (r ∷ rules) more (suc n) h = at_before rules more n (omega arith)

numbered_before : (rules more : List Rule) (number : ℕ) → number ≤ length rules → rule_numbered (rules ++ more) number ≡ rule_numbered rules number
numbered_before rules more zero h = refl
numbered_before rules more (suc n) h = at_before rules more n (omega arith)

meets_still : (rules more : List Rule) (m : Meeting) → Meets rules m → Meets (rules ++ more) m
meets_still rules more m meets = record {
  first = meets.first;
  second = meets.second;
  first_numbered = numbered_still rules more m.first meets.first meets.first_numbered;
  second_numbered = numbered_still rules more m.second meets.second meets.second_numbered;
  meet = meets.meet;
}

meets_before : (rules more : List Rule) (m : Meeting) → max m.first m.second ≤ length rules → Meets (rules ++ more) m → Meets rules m
meets_before rules more m most meets = record {
  first = meets.first;
  second = meets.second;
  first_numbered = sym (numbered_before rules more m.first (omega arith)) ∙ meets.first_numbered;
  second_numbered = sym (numbered_before rules more m.second (omega arith)) ∙ meets.second_numbered;
  meet = meets.meet;
}

greater_within : (rules : List Rule) (m : Meeting) → Meets rules m → max m.first m.second ≤ length rules
greater_within rules m meets =
    let first = number_within rules m.first meets.first meets.first_numbered in
    let second = number_within rules m.second meets.second meets.second_numbered in
    omega (arith, first.1, second.1)

-- the list of the longer system begins with the list of the shorter one
pub lists_begin : (rules more : List Rule) (list longer : List Meeting) → Lists rules list → Lists (rules ++ more) longer → (behind : List Meeting) × (longer ≡ list ++ behind)
lists_begin rules more list longer lists lists' = begins_with list longer lists.ordered lists'.ordered there back
  where
    there : (m : Meeting) → Contains list m → Contains longer m
    there m in_list = lists'.each m (meets_still rules more m (lists.only m in_list))

    back : (m : Meeting) → Contains longer m → IsThereOrBehind list m
    back m in_longer =
        elim (cases_lt (length rules) (max m.first m.second)) as (λ _. IsThereOrBehind list m) [
          | inl new ↦ inr (λ x in_list. inl (let most : max x.first x.second ≤ length rules = greater_within rules x (lists.only x in_list) in omega arith))
          | inr old ↦ inl (lists.each m (meets_before rules more m old (lists'.only m in_longer)))
        ]
