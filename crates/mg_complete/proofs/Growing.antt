-- Rules behind the others: what held of the rules before still holds.
use Rattle.std.proofs.Common.{◌≡◌, ◌≢◌, ℕ, zero, suc, ◌+◌, ◌-◌, ◌<◌, ◌≤◌, ◌⊎◌, max, min, ℤ, List, [], ◌∷◌, ◌++◌, length, take, drop, refl, sym, ap, subst, ◌∙◌, inl, inr, append_assoc, arith}
use Rattle.std.specs.Prelude.{None, Some, slice_get, Contains}
use Rattle.std.specs.List.{AllByRecursion}
use Rattle.std.proofs.lemmas.Bool.{cases_lt}
use Rattle.std.proofs.lemmas.Option.{same_Some, slice_get_within}
use Rattle.std.proofs.lemmas.List.{append-nil, length-append, take_at, drop_at, drop_all}
use Rattle.std.proofs.lemmas.List.Elements.{All-push, All-from_recursion, recursion_from_All, Contains-push, Contains-push_cases, Contains-append_left, Contains-append_right}
use Rattle.mg_numbers.specs.Texts.{IsLexBefore}
use Rattle.mg_rules.specs.declared.meeting.Meeting.{Meeting}
use Rattle.mg_rules.specs.Rule.{Rule, rule_numbered, Rewrites, Leads, Descends, HaveCommon}
use Rattle.mg_rules.specs.Meeting.{Overlaps, Includes, Meets, MeetAt, Results}
use Rattle.mg_rules.specs.Listing.{order_of, ComesBefore, IsInOrder, IsNext}
use Rattle.mg_rules.specs.Checking.{one_result, other_result}
use Rattle.mg_complete.specs.Completion.{before_all, IsDone, Joins, Done}

-- ---- numbers and descendants

at_still : (rules more : List Rule) (n : ℕ) (rule : Rule) → slice_get rules n ≡ Some rule → slice_get (rules ++ more) n ≡ Some rule
at_still [] more n rule e = let never : None ≡ Some rule = e in cc
at_still (r ∷ rules) more zero rule e = e
at_still (r ∷ rules) more (suc n) rule e = at_still rules more n rule e

pub numbered_still : (rules more : List Rule) (number : ℕ) (rule : Rule) → rule_numbered rules number ≡ Some rule → rule_numbered (rules ++ more) number ≡ Some rule
numbered_still rules more zero rule e = let never : None ≡ Some rule = e in cc
numbered_still rules more (suc n) rule e = at_still rules more n rule e

rewrites_still : (rules more : List Rule) (u v : List ℤ) → Rewrites rules u v → Rewrites (rules ++ more) u v
rewrites_still rules more u v r = record {
  at = record {
    number = r.at.number;
    rule = r.at.rule;
    numbered = numbered_still rules more r.at.number r.at.rule r.at.numbered;
    before = r.at.before;
    behind = r.at.behind;
    stands = r.at.stands;
  };
  replaced = r.replaced;
}

leads_still : (rules more : List Rule) (u v : List ℤ) (words : List (List ℤ)) → Leads rules u words v → Leads (rules ++ more) u words v
leads_still rules more u v [] e = e
leads_still rules more u v (w ∷ words) h = (rewrites_still rules more u w h.0, leads_still rules more w v words h.1)

pub descends_still : (rules more : List Rule) (u v : List ℤ) → Descends rules u v → Descends (rules ++ more) u v
descends_still rules more u v h = (h.0, leads_still rules more u v h.0 h.1)

pub common_still : (rules more : List Rule) (u v : List ℤ) → HaveCommon rules u v → HaveCommon (rules ++ more) u v
common_still rules more u v h = (h.0, descends_still rules more u h.0 h.1, descends_still rules more v h.0 h.2)

-- ---- overlaps and inclusions

at_before : (rules more : List Rule) (n : ℕ) → n < length rules → slice_get (rules ++ more) n ≡ slice_get rules n
at_before [] more n h = absurd (omega arith)
at_before (r ∷ rules) more zero h = refl
at_before (r ∷ rules) more (suc n) h = at_before rules more n (omega arith)

numbered_before : (rules more : List Rule) (number : ℕ) → number ≤ length rules → rule_numbered (rules ++ more) number ≡ rule_numbered rules number
numbered_before rules more zero h = refl
numbered_before rules more (suc n) h = at_before rules more n (omega arith)

pub meets_still : (rules more : List Rule) (m : Meeting) → Meets rules m → Meets (rules ++ more) m
meets_still rules more m meets = record {
  first = meets.first;
  second = meets.second;
  first_numbered = numbered_still rules more m.first meets.first meets.first_numbered;
  second_numbered = numbered_still rules more m.second meets.second meets.second_numbered;
  meet = meets.meet;
}

meets_before : (rules more : List Rule) (m : Meeting) → max m.first m.second ≤ length rules → Meets (rules ++ more) m → Meets rules m
meets_before rules more m most meets = record {
  first = meets.first;
  second = meets.second;
  first_numbered = sym (numbered_before rules more m.first (omega arith)) ∙ meets.first_numbered;
  second_numbered = sym (numbered_before rules more m.second (omega arith)) ∙ meets.second_numbered;
  meet = meets.meet;
}

number_within : (rules : List Rule) (number : ℕ) (rule : Rule) → rule_numbered rules number ≡ Some rule → (0 < number) × (number ≤ length rules)
number_within rules zero rule e = absurd (let never : None ≡ Some rule = e in cc)
number_within rules (suc n) rule e = (omega arith, (let below = slice_get_within rules n rule e in omega arith))

greater_within : (rules : List Rule) (m : Meeting) → Meets rules m → max m.first m.second ≤ length rules
greater_within rules m meets =
    let first = number_within rules m.first meets.first meets.first_numbered in
    let second = number_within rules m.second meets.second meets.second_numbered in
    omega (arith, first.1, second.1)

-- ---- their results

record OverlapSizes (first second : List ℤ) (place : ℕ) : Type 0 where
  pub within : place ≤ length first
  pub out : length first < place + length second

some_length : (w : List ℤ) → w ≢ [] → 0 < length w
some_length [] some = absurd (some refl)
some_length (x ∷ w) some = omega arith

overlap_sizes : (first second : List ℤ) (place : ℕ) → Overlaps first second place → OverlapSizes first second place
overlap_sizes first second place o =
    let one : length first ≡ place + length o.b = ap length o.left_first ∙ (length-append o.a o.b ∙ ap (λ k. k + length o.b) o.at_place) in
    let other : length second ≡ length o.b + length o.c = ap length o.left_second ∙ length-append o.b o.c in
    record {
      within = omega (arith, one);
      out = omega (arith, one, other, some_length o.c o.some_c);
    }

include_sizes : (first second : List ℤ) (place : ℕ) → Includes first second place → place + length second ≤ length first
include_sizes first second place i =
    omega (arith, ap length i.left_first, length-append i.a (second ++ i.c), length-append second i.c, i.at_place)

module _ (first second : Rule) (place : ℕ) where
  overlap_one : (o : Overlaps first.left second.left place) → one_result first second place ≡ first.right ++ o.c
  overlap_one o =
      let sizes : length first.left ≡ place + length o.b = ap length o.left_first ∙ (length-append o.a o.b ∙ ap (λ k. k + length o.b) o.at_place) in
      ap (λ t. first.right ++ t) (ap (drop (length first.left - place)) o.left_second ∙ drop_at o.b o.c (length first.left - place) (omega (arith, sizes)))

  overlap_other : (o : Overlaps first.left second.left place) → other_result first second place ≡ o.a ++ second.right
  overlap_other o =
      let sizes = overlap_sizes first.left second.left place o in
      let none : drop (place + length second.left) first.left ≡ [] = drop_all (place + length second.left) first.left (omega (arith, sizes.out)) in
      let front : take place first.left ≡ o.a = ap (take place) o.left_first ∙ take_at o.a o.b place o.at_place in
      ap (λ t. t ++ (second.right ++ drop (place + length second.left) first.left)) front
      ∙ (ap (λ t. o.a ++ (second.right ++ t)) none ∙ ap (λ t. o.a ++ t) (append-nil second.right))

  include_one : (o : Includes first.left second.left place) → one_result first second place ≡ first.right
  include_one o =
      let size = include_sizes first.left second.left place o in
      let none : drop (length first.left - place) second.left ≡ [] = drop_all (length first.left - place) second.left (omega (arith, size)) in
      ap (λ t. first.right ++ t) none ∙ append-nil first.right

  include_other : (o : Includes first.left second.left place) → other_result first second place ≡ o.a ++ (second.right ++ o.c)
  include_other o =
      let front : take place first.left ≡ o.a = ap (take place) o.left_first ∙ take_at o.a (second.left ++ o.c) place o.at_place in
      let whole : first.left ≡ (o.a ++ second.left) ++ o.c = o.left_first ∙ sym (append_assoc o.a second.left o.c) in
      let size : length (o.a ++ second.left) ≡ place + length second.left = length-append o.a second.left ∙ ap (λ k. k + length second.left) o.at_place in
      let back : drop (place + length second.left) first.left ≡ o.c = ap (drop (place + length second.left)) whole ∙ drop_at (o.a ++ second.left) o.c (place + length second.left) size in
      ap (λ t. t ++ (second.right ++ drop (place + length second.left) first.left)) front ∙ ap (λ t. o.a ++ (second.right ++ t)) back

results_are : (rules : List Rule) (m : Meeting) (u v : List ℤ) (r : Results rules m u v) → (u ≡ one_result r.first r.second m.place) × (v ≡ other_result r.first r.second m.place)
results_are rules m u v r =
    elim r.give as (λ _. (u ≡ one_result r.first r.second m.place) × (v ≡ other_result r.first r.second m.place)) [
      | inl g ↦ (g.one ∙ sym (overlap_one r.first r.second m.place g.at), g.other ∙ sym (overlap_other r.first r.second m.place g.at))
      | inr h ↦ (h.1.one ∙ sym (include_one r.first r.second m.place h.1.at), h.1.other ∙ sym (include_other r.first r.second m.place h.1.at))
    ]

pub results_of : (rules : List Rule) (m : Meeting) (first second : Rule) → Meets rules m → rule_numbered rules m.first ≡ Some first → rule_numbered rules m.second ≡ Some second
    → Results rules m (one_result first second m.place) (other_result first second m.place)
results_of rules m first second meets e f =
    let same : meets.first ≡ first = same_Some meets.first first (sym meets.first_numbered ∙ e) in
    let same' : meets.second ≡ second = same_Some meets.second second (sym meets.second_numbered ∙ f) in
    subst (λ (s : Rule). Results rules m (one_result s second m.place) (other_result s second m.place)) same
    (subst (λ (s : Rule). Results rules m (one_result meets.first s m.place) (other_result meets.first s m.place)) same' (record {
      first = meets.first;
      second = meets.second;
      first_numbered = meets.first_numbered;
      second_numbered = meets.second_numbered;
      give = elim meets.meet [
        | inl o ↦ inl (record { at = o; one = overlap_one meets.first meets.second m.place o; other = overlap_other meets.first meets.second m.place o })
        | inr h ↦ inr (h.0, record { at = h.1; one = include_one meets.first meets.second m.place h.1; other = include_other meets.first meets.second m.place h.1 })
      ];
    }))

pub place_within : (rules : List Rule) (m : Meeting) (first : Rule) → Meets rules m → rule_numbered rules m.first ≡ Some first → m.place ≤ length first.left
place_within rules m first meets e =
    subst (λ (s : Rule). m.place ≤ length s.left) (same_Some meets.first first (sym meets.first_numbered ∙ e))
    (elim meets.meet as (λ _. m.place ≤ length meets.first.left) [
      | inl o ↦ (overlap_sizes meets.first.left meets.second.left m.place o).within
      | inr h ↦ let size = include_sizes meets.first.left meets.second.left m.place h.1 in omega (arith, size)
    ])

-- the two results are two words
results_one : (rules : List Rule) (m : Meeting) (u v u' v' : List ℤ) → Results rules m u v → Results rules m u' v' → (u' ≡ u) × (v' ≡ v)
results_one rules m u v u' v' r s =
    let are = results_are rules m u v r in
    let are' = results_are rules m u' v' s in
    let same : s.first ≡ r.first = same_Some s.first r.first (sym s.first_numbered ∙ r.first_numbered) in
    let same' : s.second ≡ r.second = same_Some s.second r.second (sym s.second_numbered ∙ r.second_numbered) in (
      are'.0 ∙ (ap (λ (t : Rule). one_result t s.second m.place) same ∙ (ap (λ (t : Rule). one_result r.first t m.place) same' ∙ sym are.0)),
      are'.1 ∙ (ap (λ (t : Rule). other_result t s.second m.place) same ∙ (ap (λ (t : Rule). other_result r.first t m.place) same' ∙ sym are.1)),
    )

pub meets_from : (rules : List Rule) (m : Meeting) (u v : List ℤ) → Results rules m u v → Meets rules m
meets_from rules m u v r = record {
  first = r.first;
  second = r.second;
  first_numbered = r.first_numbered;
  second_numbered = r.second_numbered;
  meet = elim r.give as (λ _. MeetAt m.first m.second r.first.left r.second.left m.place) [ inl g ↦ inl g.at | inr h ↦ inr (h.0, h.1.at) ];
}

results_before : (rules more : List Rule) (m : Meeting) (u v : List ℤ) → max m.first m.second ≤ length rules → Results (rules ++ more) m u v → Results rules m u v
results_before rules more m u v most r = record {
  first = r.first;
  second = r.second;
  first_numbered = sym (numbered_before rules more m.first (omega arith)) ∙ r.first_numbered;
  second_numbered = sym (numbered_before rules more m.second (omega arith)) ∙ r.second_numbered;
  give = r.give;
}

pub joins_still : (rules more : List Rule) (m : Meeting) → Meets rules m → Joins rules m → Joins (rules ++ more) m
joins_still rules more m meets joins u v r =
    common_still rules more u v (joins u v (results_before rules more m u v (greater_within rules m meets) r))

-- one pair of results is enough, and rules may have been added
pub joins_by : (rules more : List Rule) (m : Meeting) (u v : List ℤ) → Results rules m u v → HaveCommon (rules ++ more) u v → Joins (rules ++ more) m
joins_by rules more m u v r common u' v' s =
    let same = results_one rules m u v u' v' r (results_before rules more m u' v' (greater_within rules m (meets_from rules m u v r)) s) in
    subst (λ (t : List ℤ). HaveCommon (rules ++ more) t v') (sym same.0) (subst (HaveCommon (rules ++ more) u) (sym same.1) common)

-- ---- the fixed order

lex_on : (p q r : List ℕ) → IsLexBefore p q → IsLexBefore q r → IsLexBefore p r
lex_on [] q r h k = absurd h
lex_on (x ∷ p) [] r h k = absurd h
lex_on (x ∷ p) (y ∷ q) [] h k = absurd k
lex_on (x ∷ p) (y ∷ q) (z ∷ r) (inl h) (inl k) = inl (omega arith)
lex_on (x ∷ p) (y ∷ q) (z ∷ r) (inl h) (inr k) = inl (let e : y ≡ z = k.0 in omega arith)
lex_on (x ∷ p) (y ∷ q) (z ∷ r) (inr h) (inl k) = inl (let e : x ≡ y = h.0 in omega arith)
lex_on (x ∷ p) (y ∷ q) (z ∷ r) (inr h) (inr k) = inr (h.0 ∙ k.0, lex_on p q r h.1 k.1)

pub before_on : (a b c : Meeting) → ComesBefore a b → ComesBefore b c → ComesBefore a c
before_on a b c h k = lex_on (order_of a) (order_of b) (order_of c) h k

not_itself : (p : List ℕ) → IsLexBefore p p → ⊥
not_itself [] h = h
not_itself (x ∷ p) h = elim h [ inl l ↦ omega arith | inr s ↦ not_itself p s.1 ]

pub none_before_itself : (m : Meeting) → ComesBefore m m → ⊥
none_before_itself m h = not_itself (order_of m) h

lex_cases : (p q : List ℕ) → length p ≡ length q → (p ≡ q) ⊎ (IsLexBefore p q ⊎ IsLexBefore q p)
lex_cases [] [] e = inl refl
lex_cases [] (y ∷ q) e = absurd (omega arith)
lex_cases (x ∷ p) [] e = absurd (omega arith)
lex_cases (x ∷ p) (y ∷ q) e =
    elim (cases_lt x y) as (λ _. (x ∷ p ≡ y ∷ q) ⊎ (IsLexBefore (x ∷ p) (y ∷ q) ⊎ IsLexBefore (y ∷ q) (x ∷ p))) [
      | inl less ↦ inr (inl (inl less))
      | inr most ↦ elim (cases_lt y x) as (λ _. (x ∷ p ≡ y ∷ q) ⊎ (IsLexBefore (x ∷ p) (y ∷ q) ⊎ IsLexBefore (y ∷ q) (x ∷ p))) [
        | inl more ↦ inr (inr (inl more))
        | inr least ↦ let same : x ≡ y = omega arith in
            elim (lex_cases p q (omega arith)) as (λ _. (x ∷ p ≡ y ∷ q) ⊎ (IsLexBefore (x ∷ p) (y ∷ q) ⊎ IsLexBefore (y ∷ q) (x ∷ p))) [
              | inl rest ↦ inl (ap (λ t. x ∷ t) rest ∙ ap (λ z. z ∷ q) same)
              | inr apart ↦ elim apart as (λ _. (x ∷ p ≡ y ∷ q) ⊎ (IsLexBefore (x ∷ p) (y ∷ q) ⊎ IsLexBefore (y ∷ q) (x ∷ p))) [ inl h ↦ inr (inl (inr (same, h))) | inr h ↦ inr (inr (inr (sym same, h))) ]
            ]
      ]
    ]

same_order : (a b : Meeting) → order_of a ≡ order_of b → a ≡ b
same_order a b e =
    let greater : max a.first a.second ≡ max b.first b.second = cc in
    let lesser : min a.first a.second ≡ min b.first b.second = cc in
    let first : a.first ≡ b.first = cc in
    let place : a.place ≡ b.place = cc in
    let second : a.second ≡ b.second = omega (arith, greater, lesser, first) in
    λ i. record { first = first i; second = second i; place = place i }

-- each one is done, or comes behind the last one
pub done_cases : (last m : Meeting) → IsDone last m ⊎ ComesBefore last m
done_cases last m =
    elim (lex_cases (order_of m) (order_of last) refl) as (λ _. IsDone last m ⊎ ComesBefore last m) [
      | inl e ↦ inl (inl (same_order m last e))
      | inr h ↦ elim h as (λ _. IsDone last m ⊎ ComesBefore last m) [ inl before ↦ inl (inr before) | inr behind ↦ inr behind ]
    ]

before_greater : (m n : Meeting) → ComesBefore m n → max m.first m.second ≤ max n.first n.second
before_greater m n (inl h) = omega (arith, h)
before_greater m n (inr h) = omega (arith, h.0)

done_greater : (last m : Meeting) → IsDone last m → max m.first m.second ≤ max last.first last.second
done_greater last m (inl e) = subst (λ (t : Meeting). max m.first m.second ≤ max t.first t.second) e (omega arith)
done_greater last m (inr h) = before_greater m last h

last_within : (rules : List Rule) (last : Meeting) → (last ≡ before_all) ⊎ Meets rules last → max last.first last.second ≤ length rules
last_within rules last (inl e) = subst (λ (t : Meeting). max t.first t.second ≤ length rules) (sym e) (omega arith)
last_within rules last (inr meets) = greater_within rules last meets

-- ranks follow from the order
ranks_of : (rules : List Rule) (last : Meeting) (list : List Meeting) → ((m : Meeting) → Contains list m → Meets rules m × IsDone last m)
    → ((m : Meeting) → Meets rules m → IsDone last m → Contains list m) → (m other : Meeting) → Contains list m → Meets rules other → (Contains list other → ⊥)
    → max m.first m.second ≤ max other.first other.second
ranks_of rules last list only each m other in_list meets out =
    let most = done_greater last m (only m in_list).1 in
    elim (done_cases last other) as (λ _. max m.first m.second ≤ max other.first other.second) [
      | inl done ↦ absurd (out (each other meets done))
      | inr behind ↦ let more = before_greater last other behind in omega (arith, most, more)
    ]

-- ---- what is done

-- what is done stays done
pub done_more : (rules more : List Rule) (last : Meeting) (count : ℕ) → Done rules last count → Done (rules ++ more) last count
done_more rules more last count d = record {
  there = there;
  list = d.list;
  ordered = d.ordered;
  only = only;
  each = each;
  many = d.many;
  joined = λ m in_list. joins_still rules more m (d.only m in_list).0 (d.joined m in_list);
  ranks = ranks_of (rules ++ more) last d.list only each;
}
  where
    there : (last ≡ before_all) ⊎ Meets (rules ++ more) last
    there = elim d.there as (λ _. (last ≡ before_all) ⊎ Meets (rules ++ more) last) [ inl e ↦ inl e | inr meets ↦ inr (meets_still rules more last meets) ]

    only : (m : Meeting) → Contains d.list m → Meets (rules ++ more) m × IsDone last m
    only m in_list = (meets_still rules more m (d.only m in_list).0, (d.only m in_list).1)

    each : (m : Meeting) → Meets (rules ++ more) m → IsDone last m → Contains d.list m
    each m meets done =
        let least = done_greater last m done in
        let most = last_within rules last d.there in
        d.each m (meets_before rules more m (omega (arith, least, most)) meets) done

pub next_more : (rules more : List Rule) (last next : Meeting) → IsNext rules last next → IsNext (rules ++ more) last next
next_more rules more last next step = record {
  meets = meets_still rules more next step.meets;
  behind = step.behind;
  least = least;
}
  where
    least : (other : Meeting) → Meets (rules ++ more) other → ComesBefore last other → (next ≡ other) ⊎ ComesBefore next other
    least other meets behind =
        elim (cases_lt (length rules) (max other.first other.second)) as (λ _. (next ≡ other) ⊎ ComesBefore next other) [
          | inl new ↦ let most = greater_within rules next step.meets in inr (inl (omega (arith, most, new)))
          | inr old ↦ step.least other (meets_before rules more other old meets) behind
        ]

order_push : (list : List Meeting) (m : Meeting) → IsInOrder list → AllByRecursion (λ x. ComesBefore x m) list → IsInOrder (list ++ m ∷ [])
order_push [] m h k = (tt, tt)
order_push (x ∷ list) m h k =
    (recursion_from_All (ComesBefore x) (list ++ m ∷ []) (All-push (ComesBefore x) list m (All-from_recursion (ComesBefore x) list h.0) k.0), order_push list m h.1 k.1)

all_of : (P : Meeting → Type 0) (list : List Meeting) → ((m : Meeting) → Contains list m → P m) → AllByRecursion P list
all_of P [] h = tt
all_of P (x ∷ list) h =
    (h x (Contains-append_left (x ∷ []) list x (Contains-push [] x)), all_of P list (λ m in_list. h m (Contains-append_right (x ∷ []) list m in_list)))

-- one more is done
pub done_next : (rules : List Rule) (last next : Meeting) (count : ℕ) → Done rules last count → IsNext rules last next → Joins rules next → Done rules next (count + 1)
done_next rules last next count d step joins = record {
  there = inr step.meets;
  list = d.list ++ next ∷ [];
  ordered = order_push d.list next d.ordered (all_of (λ x. ComesBefore x next) d.list before);
  only = only;
  each = each;
  many = length-append d.list (next ∷ []) ∙ ap (λ n. n + 1) d.many;
  joined = λ m in_list. elim (Contains-push_cases d.list next m in_list) as (λ _. Joins rules m) [ inl old ↦ d.joined m old | inr same ↦ subst (Joins rules) same joins ];
  ranks = ranks_of rules next (d.list ++ next ∷ []) only each;
}
  where
    before : (m : Meeting) → Contains d.list m → ComesBefore m next
    before m in_list =
        elim (d.only m in_list).1 as (λ _. ComesBefore m next) [ inl e ↦ subst (λ (t : Meeting). ComesBefore t next) (sym e) step.behind | inr h ↦ before_on m last next h step.behind ]

    only : (m : Meeting) → Contains (d.list ++ next ∷ []) m → Meets rules m × IsDone next m
    only m in_list =
        elim (Contains-push_cases d.list next m in_list) as (λ _. Meets rules m × IsDone next m) [
          | inl old ↦ ((d.only m old).0, inr (before m old))
          | inr same ↦ (subst (Meets rules) same step.meets, inl (sym same))
        ]

    each : (m : Meeting) → Meets rules m → IsDone next m → Contains (d.list ++ next ∷ []) m
    each m meets done =
        elim (done_cases last m) as (λ _. Contains (d.list ++ next ∷ []) m) [
          | inl old ↦ Contains-append_left d.list (next ∷ []) m (d.each m meets old)
          | inr behind ↦ elim (step.least m meets behind) as (λ _. Contains (d.list ++ next ∷ []) m) [
            | inl same ↦ subst (Contains (d.list ++ next ∷ [])) same (Contains-push d.list next)
            | inr later ↦ absurd (elim done [
              | inl e ↦ none_before_itself next (subst (ComesBefore next) e later)
              | inr h ↦ none_before_itself next (before_on next m next later h)
            ])
          ]
        ]
