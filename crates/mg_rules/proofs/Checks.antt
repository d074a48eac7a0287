-- What first descendants say of completeness: were the system complete, Newman's lemma would make them equal, and where
-- they are equal the system is complete.
use Rattle.std.proofs.Common.{◌≡◌, ◌≢◌, ℕ, zero, suc, ◌+◌, ◌-◌, ◌<◌, ◌≤◌, ◌⊎◌, ◌↔◌, ℤ, pos, negsuc, neg_ℤ, List, [], ◌∷◌, ◌++◌, length, take, drop, refl, sym, ap, subst, ◌∙◌, inl, inr, append_assoc, arith}
use Rattle.std.specs.Prelude.{Bool, IsTrue, Some, Result, Ok, Err, IfOk, nat_abs, slice_index_or}
use Rattle.std.proofs.lemmas.Bool.{cases_order}
use Rattle.std.specs.List.{AllByRecursion}
use Rattle.std.proofs.lemmas.Option.{same_Some}
use Rattle.std.proofs.lemmas.List.{append-nil, length-append, take_at, drop_at, drop_all}
use Rattle.std.proofs.lemmas.List.Elements.{All-from_recursion, recursion_from_All, All-weaker}
use Rattle.mg_present.specs.Presentation.{Group}
use Rattle.mg_present.specs.Ask.{Inquiry}
use Rattle.mg_rules.specs.declared.meeting.Meeting.{Meeting}
use Rattle.mg_rules.specs.Rule.{Rule, rule_numbered, Descends, HaveCommon}
use Rattle.mg_rules.specs.Shortlex.{AllDecrease}
use Rattle.mg_rules.specs.First.{IsFirstDescendant}
use Rattle.mg_rules.specs.Meeting.{Overlaps, Includes, MeetAt, Meets, Results, AllJoin}
use Rattle.mg_rules.specs.Complete.{IsRuleOver, IsComplete, Refutes}
use Rattle.mg_rules.specs.Checking.{Vanishes, LettersVanish, FallTogether, ResultsFall, one_result, other_result}
use Rattle.mg_rules.proofs.Firsts.{a_descendant, one_descendant, first_descends, normal_empty}
use Rattle.mg_rules.proofs.Confluence.{one_normal, common_normal}
use Rattle.mg_rules.proofs.Meetings.{overlap_sizes, include_sizes}

-- ---- the two results

module _ (first second : Rule) (place : ℕ) where
  -- what an overlap gives
  overlap_one : (o : Overlaps first.left second.left place) → one_result first second place ≡ first.right ++ o.c
  overlap_one o =
      let sizes : length first.left ≡ place + length o.b = ap length o.left_first ∙ (length-append o.a o.b ∙ ap (λ k. k + length o.b) o.at_place) in
      ap (λ t. first.right ++ t) (ap (drop (length first.left - place)) o.left_second ∙ drop_at o.b o.c (length first.left - place) (omega (arith, sizes)))

  overlap_other : (o : Overlaps first.left second.left place) → other_result first second place ≡ o.a ++ second.right
  overlap_other o =
      let sizes = overlap_sizes first.left second.left place o in
      let none : drop (place + length second.left) first.left ≡ [] = drop_all (place + length second.left) first.left (omega (arith, sizes.out)) in
      let front : take place first.left ≡ o.a = ap (take place) o.left_first ∙ take_at o.a o.b place o.at_place in
      ap (λ t. t ++ (second.right ++ drop (place + length second.left) first.left)) front
      ∙ (ap (λ t. o.a ++ (second.right ++ t)) none ∙ ap (λ t. o.a ++ t) (append-nil second.right))

  -- what an inclusion gives
  include_one : (o : Includes first.left second.left place) → one_result first second place ≡ first.right
  include_one o =
      let size = include_sizes first.left second.left place o in
      let none : drop (length first.left - place) second.left ≡ [] = drop_all (length first.left - place) second.left (omega (arith, size)) in
      ap (λ t. first.right ++ t) none ∙ append-nil first.right

  include_other : (o : Includes first.left second.left place) → other_result first second place ≡ o.a ++ (second.right ++ o.c)
  include_other o =
      let front : take place first.left ≡ o.a = ap (take place) o.left_first ∙ take_at o.a (second.left ++ o.c) place o.at_place in
      let whole : first.left ≡ (o.a ++ second.left) ++ o.c = o.left_first ∙ sym (append_assoc o.a second.left o.c) in
      let size : length (o.a ++ second.left) ≡ place + length second.left = length-append o.a second.left ∙ ap (λ k. k + length second.left) o.at_place in
      let back : drop (place + length second.left) first.left ≡ o.c = ap (drop (place + length second.left)) whole ∙ drop_at (o.a ++ second.left) o.c (place + length second.left) size in
      ap (λ t. t ++ (second.right ++ drop (place + length second.left) first.left)) front ∙ ap (λ t. o.a ++ (second.right ++ t)) back

-- the two results are these words
pub results_are : (rules : List Rule) (m : Meeting) (u v : List ℤ) (r : Results rules m u v) → (u ≡ one_result r.first r.second m.place) × (v ≡ other_result r.first r.second m.place)
results_are rules m u v r =
    elim r.give as (λ _. (u ≡ one_result r.first r.second m.place) × (v ≡ other_result r.first r.second m.place)) [
      | inl g ↦ (g.one ∙ sym (overlap_one r.first r.second m.place g.at), g.other ∙ sym (overlap_other r.first r.second m.place g.at))
      | inr h ↦ (h.1.one ∙ sym (include_one r.first r.second m.place h.1.at), h.1.other ∙ sym (include_other r.first r.second m.place h.1.at))
    ]

pub results_of : (rules : List Rule) (m : Meeting) (first second : Rule) → Meets rules m → rule_numbered rules m.first ≡ Some first → rule_numbered rules m.second ≡ Some second
    → Results rules m (one_result first second m.place) (other_result first second m.place)
results_of rules m first second meets e f =
    let same : meets.first ≡ first = same_Some meets.first first (sym meets.first_numbered ∙ e) in
    let same' : meets.second ≡ second = same_Some meets.second second (sym meets.second_numbered ∙ f) in
    subst (λ (s : Rule). Results rules m (one_result s second m.place) (other_result s second m.place)) same
    (subst (λ (s : Rule). Results rules m (one_result meets.first s m.place) (other_result meets.first s m.place)) same' (record {
      first = meets.first;
      second = meets.second;
      first_numbered = meets.first_numbered;
      second_numbered = meets.second_numbered;
      give = elim meets.meet [
        | inl o ↦ inl (record { at = o; one = overlap_one meets.first meets.second m.place o; other = overlap_other meets.first meets.second m.place o })
        | inr h ↦ inr (h.0, record { at = h.1; one = include_one meets.first meets.second m.place h.1; other = include_other meets.first meets.second m.place h.1 })
      ];
    }))

-- a meeting whose results are compared
pub fall_from : (rules : List Rule) (m : Meeting) (first second : Rule) → Meets rules m → rule_numbered rules m.first ≡ Some first → rule_numbered rules m.second ≡ Some second
    → ResultsFall rules m ↔ FallTogether rules (one_result first second m.place) (other_result first second m.place)
fall_from rules m first second meets e f = (
  λ h. h (one_result first second m.place) (other_result first second m.place) (results_of rules m first second meets e f),
  λ h u v r.
      let are = results_are rules m u v r in
      let same : r.first ≡ first = same_Some r.first first (sym r.first_numbered ∙ e) in
      let same' : r.second ≡ second = same_Some r.second second (sym r.second_numbered ∙ f) in
      let one : u ≡ one_result first second m.place = are.0 ∙ (ap (λ (s : Rule). one_result s r.second m.place) same ∙ ap (λ (s : Rule). one_result first s m.place) same') in
      let other : v ≡ other_result first second m.place = are.1 ∙ (ap (λ (s : Rule). other_result s r.second m.place) same ∙ ap (λ (s : Rule). other_result first s m.place) same') in
      subst (λ (t : List ℤ). FallTogether rules t v) (sym one) (subst (λ (t : List ℤ). FallTogether rules (one_result first second m.place) t) (sym other) h),
)

pub meets_from : (rules : List Rule) (m : Meeting) (u v : List ℤ) → Results rules m u v → Meets rules m
meets_from rules m u v r = record {
  first = r.first;
  second = r.second;
  first_numbered = r.first_numbered;
  second_numbered = r.second_numbered;
  meet = elim r.give as (λ _. MeetAt m.first m.second r.first.left r.second.left m.place) [ inl g ↦ inl g.at | inr h ↦ inr (h.0, h.1.at) ];
}

-- ---- first descendants that are found

-- two first descendants are compared
pub fall_found : (rules : List Rule) (u v one other : List ℤ) → IsFirstDescendant rules u one → IsFirstDescendant rules v other → (one ≡ other) ↔ FallTogether rules u v
fall_found rules u v one other h k = (
  λ e. (other, subst (IsFirstDescendant rules u) e h, k),
  λ f. one_descendant rules u one f.0 h f.1 ∙ sym (one_descendant rules v other f.0 k f.2),
)

pub vanish_found : (rules : List Rule) (u v : List ℤ) → IsFirstDescendant rules u v → (length v ≡ 0) ↔ Vanishes rules u
vanish_found rules u v h = (
  λ e. subst (IsFirstDescendant rules u) (no_letters v e) h,
  λ k. ap length (one_descendant rules u v [] h k),
)
  where
    no_letters : (w : List ℤ) → length w ≡ 0 → w ≡ []
    no_letters [] e = refl
    no_letters (x ∷ w) e = absurd (omega arith)

-- ---- completeness

module _ (rules : List Rule) (decrease : AllDecrease rules) (join : AllJoin rules) where
  -- a word that descends to the empty word vanishes
  vanish_of : (w : List ℤ) → Descends rules w [] → Vanishes rules w
  vanish_of w h =
      let end = a_descendant rules decrease w in
      let none : end.0 ≡ [] = one_normal rules decrease join w end.0 [] (first_descends rules w end.0 end.1) h end.1.normal (normal_empty rules decrease) in
      subst (IsFirstDescendant rules w) none end.1

  fall_of : (u v : List ℤ) → HaveCommon rules u v → FallTogether rules u v
  fall_of u v h =
      let one = a_descendant rules decrease u in
      let other = a_descendant rules decrease v in
      let same : one.0 ≡ other.0 =
      common_normal rules decrease join u v one.0 other.0 h (first_descends rules u one.0 one.1) (first_descends rules v other.0 other.1) one.1.normal other.1.normal in
      (other.0, subst (IsFirstDescendant rules u) same one.1, other.1)

  results_fall : (m : Meeting) → ResultsFall rules m
  results_fall m u v r =
      fall_of u v (elim r.give as (λ _. HaveCommon rules u v) [
        | inl g ↦ subst (λ (t : List ℤ). HaveCommon rules t v) (sym g.one) (subst (λ (t : List ℤ). HaveCommon rules (r.first.right ++ g.at.c) t) (sym g.other)
            (join.overlaps m.first m.second m.place r.first r.second r.first_numbered r.second_numbered g.at))
        | inr h ↦ subst (λ (t : List ℤ). HaveCommon rules t v) (sym h.1.one) (subst (λ (t : List ℤ). HaveCommon rules r.first.right t) (sym h.1.other)
            (join.inclusions m.first m.second m.place r.first r.second r.first_numbered r.second_numbered h.0 h.1.at))
      ])

pub letters_of_complete : (group : Group) (rules : List Rule) → IsComplete group rules → LettersVanish rules group.generators
letters_of_complete group rules complete x letter = vanish_of rules complete.decrease complete.join (x ∷ neg_ℤ x ∷ []) (complete.pairs x letter)

pub relators_of_complete : (group : Group) (rules : List Rule) → IsComplete group rules → AllByRecursion (Vanishes rules) group.relators
relators_of_complete group rules complete =
    recursion_from_All (Vanishes rules) group.relators (All-weaker (λ w. Descends rules w []) (Vanishes rules) (vanish_of rules complete.decrease complete.join) group.relators
    (All-from_recursion (λ w. Descends rules w []) group.relators complete.relators))

pub results_of_complete : (group : Group) (rules : List Rule) → IsComplete group rules → (m : Meeting) → ResultsFall rules m
results_of_complete group rules complete m = results_fall rules complete.decrease complete.join m

common_from : (rules : List Rule) (u v : List ℤ) → FallTogether rules u v → HaveCommon rules u v
common_from rules u v h = (h.0, first_descends rules u h.0 h.1, first_descends rules v h.0 h.2)

joins_from : (rules : List Rule) → ((m : Meeting) → ResultsFall rules m) → AllJoin rules
joins_from rules fall = record {
  overlaps = λ i j place first second e f o.
      common_from rules (first.right ++ o.c) (o.a ++ second.right) (fall (record { first = i; second = j; place = place }) (first.right ++ o.c) (o.a ++ second.right) (record {
        first = first;
        second = second;
        first_numbered = e;
        second_numbered = f;
        give = inl (record { at = o; one = refl; other = refl });
      }));
  inclusions = λ i j place first second e f apart o.
      common_from rules first.right (o.a ++ (second.right ++ o.c)) (fall (record { first = i; second = j; place = place }) first.right (o.a ++ (second.right ++ o.c)) (record {
        first = first;
        second = second;
        first_numbered = e;
        second_numbered = f;
        give = inr (apart, record { at = o; one = refl; other = refl });
      }));
}

pub complete_from : (group : Group) (rules : List Rule) → AllByRecursion (IsRuleOver group.generators) rules → AllDecrease rules → LettersVanish rules group.generators
    → AllByRecursion (Vanishes rules) group.relators → ((m : Meeting) → ResultsFall rules m) → IsComplete group rules
complete_from group rules over decrease letters relators fall = record {
  over = over;
  decrease = decrease;
  join = joins_from rules fall;
  pairs = λ x letter. first_descends rules (x ∷ neg_ℤ x ∷ []) [] (letters x letter);
  relators = recursion_from_All (λ w. Descends rules w []) group.relators (All-weaker (Vanishes rules) (λ w. Descends rules w []) (λ w h. first_descends rules w [] h) group.relators
      (All-from_recursion (Vanishes rules) group.relators relators));
}

-- ---- letters one by one

abs_cases : (y : ℤ) (k : ℕ) → nat_abs y ≡ suc k → (y ≡ pos (suc k)) ⊎ (y ≡ negsuc k)
abs_cases (pos n) k e = inl (ap pos e)
abs_cases (negsuc n) k e = inr (let same : n ≡ k = omega (arith, e) in ap negsuc same)

-- the letters of one generator more vanish
pub letters_next : (rules : List Rule) (n n' : ℕ) (x : ℤ) → LettersVanish rules n → n' ≡ n + 1 → x ≡ pos n' → Vanishes rules (x ∷ neg_ℤ x ∷ []) → Vanishes rules (neg_ℤ x ∷ x ∷ []) → LettersVanish rules n'
letters_next rules n zero x earlier e is one other y letter = absurd (omega arith)
letters_next rules n (suc k) x earlier e is one other y letter =
    let least : 1 ≤ nat_abs y = letter.least in
    let most : nat_abs y ≤ suc k = letter.most in
    elim (cases_order (nat_abs y) (suc k)) as (λ _. Vanishes rules (y ∷ neg_ℤ y ∷ [])) [
      | inl last ↦ elim (abs_cases y k last) as (λ _. Vanishes rules (y ∷ neg_ℤ y ∷ [])) [
        | inl plain ↦ subst (λ (t : ℤ). Vanishes rules (t ∷ neg_ℤ t ∷ [])) (is ∙ sym plain) one
        | inr inverse ↦
            let other' : Vanishes rules (negsuc k ∷ pos (suc k) ∷ []) = subst (λ (t : ℤ). Vanishes rules (neg_ℤ t ∷ t ∷ [])) is other in
            subst (λ (t : ℤ). Vanishes rules (t ∷ neg_ℤ t ∷ [])) (sym inverse) other'
      ]
      | inr apart ↦ earlier y (record { least = least; most = elim apart as (λ _. nat_abs y ≤ n) [ inl h ↦ omega arith | inr h ↦ absurd (omega arith) ] })
    ]

-- an inverse before its letter vanishes where all do
pub inverse_vanishes : (rules : List Rule) (generators n : ℕ) (x y : ℤ) → LettersVanish rules generators → 1 ≤ n → n ≤ generators → x ≡ pos n → y ≡ neg_ℤ x → Vanishes rules (y ∷ x ∷ [])
inverse_vanishes rules generators zero x y all least most is e = absurd (omega arith)
inverse_vanishes rules generators (suc k) x y all least most is e =
    let inverse : y ≡ negsuc k = e ∙ ap neg_ℤ is in
    subst (λ (t : ℤ). Vanishes rules (t ∷ x ∷ [])) (sym inverse)
    (subst (λ (t : ℤ). Vanishes rules (negsuc k ∷ t ∷ [])) (sym is) (all (negsuc k) (record { least = omega arith; most = omega arith })))

-- no generators, no letters
pub letters_none : (rules : List Rule) → LettersVanish rules 0
letters_none rules x letter = absurd (let least : 1 ≤ nat_abs x = letter.least in let most : nat_abs x ≤ 0 = letter.most in omega arith)

-- an answer that is exactly one thing is exactly another that is the same
pub if_ok_exactly : {E : Type 0} (r : Result Bool E) (P Q : Type 0) → IfOk r (λ answer. IsTrue answer ↔ P) → (Q ↔ P) → IfOk r (λ answer. IsTrue answer ↔ Q)
if_ok_exactly (Ok x) P Q h same = (λ t. same.1 (h.0 t), λ q. h.1 (same.0 q))
if_ok_exactly (Err e) P Q h same = tt

-- ---- what is refuted

pub refutes_from : (ask : Inquiry) (goal : ℕ) (rules : List Rule) (w v : List ℤ) → ask.subgroup ≡ [] → goal < length ask.goals → w ≡ slice_index_or ask.goals goal []
    → IsComplete ask.group rules → IsFirstDescendant rules w v → (0 < length v) ↔ Refutes ask goal rules
refutes_from ask goal rules w v alone there is complete h = (
  λ some. record {
    complete = complete;
    alone = alone;
    there = there;
    remains = v;
    descends = subst (λ (t : List ℤ). Descends rules t v) is (first_descends rules w v h);
    normal = h.normal;
    some = λ e. let none : length v ≡ 0 = ap length e in omega arith;
  },
  λ r.
      let same : r.remains ≡ v = one_normal rules complete.decrease complete.join w r.remains v (subst (λ (t : List ℤ). Descends rules t r.remains) (sym is) r.descends) (first_descends rules w v h) r.normal h.normal in
      some_letters v (λ e. r.some (same ∙ e)),
)
  where
    some_letters : (u : List ℤ) → u ≢ [] → 0 < length u
    some_letters [] h = absurd (h refl)
    some_letters (x ∷ u) h = omega arith
