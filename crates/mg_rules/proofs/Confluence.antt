-- Newman's lemma: where the results of all overlaps and inclusions have common descendants, a word has one normal
-- descendant.
use Rattle.std.proofs.Common.{◌≡◌, ◌≢◌, ℕ, zero, suc, ◌+◌, ◌<◌, ◌⊎◌, ℤ, List, [], ◌∷◌, ◌++◌, length, refl, sym, ap, subst, ◌∙◌, inl, inr, append_assoc, arith}
use Rattle.std.specs.List.{AllByRecursion}
use Rattle.std.proofs.lemmas.Bool.{cases_order}
use Rattle.std.proofs.lemmas.Option.{same_Some}
use Rattle.std.proofs.lemmas.List.{append-nil, length-append}
use Rattle.mg_rules.specs.Rule.{Rule, rule_numbered, Occurrence, Rewrites, Leads, Descends, HaveCommon, IsNormal}
use Rattle.mg_rules.specs.Shortlex.{AllDecrease}
use Rattle.mg_rules.specs.Meeting.{Overlaps, Includes, AllJoin}
use Rattle.mg_rules.proofs.Parts.{cuts, no_length, some_length}
use Rattle.mg_rules.proofs.Ranks.{rank, IsWithin, IsRuleWithin, replacing_lowers, base_for}
use Rattle.mg_rules.proofs.Chains.{descends_itself, descends_once, descends_on, descends_equal, common_between, common_turned, normal_stays}
use Rattle.mg_rules.proofs.Firsts.{a_descendant, first_descends}

-- what a rewriting at an occurrence gives
abbrev pub result_of : {rules : List Rule} {w : List ℤ} → Occurrence rules w → List ℤ
result_of at = at.before ++ (at.rule.right ++ at.behind)

abbrev Joins : (rules : List Rule) {w : List ℤ} → Occurrence rules w → Occurrence rules w → Type 0
Joins rules a b = HaveCommon rules (result_of a) (result_of b)

common_equal : (rules : List Rule) (u v u' v' : List ℤ) → u ≡ u' → v ≡ v' → HaveCommon rules u' v' → HaveCommon rules u v
common_equal rules u v u' v' e e' h = subst (λ (t : List ℤ). HaveCommon rules t v) (sym e) (subst (λ (t : List ℤ). HaveCommon rules u' t) (sym e') h)

module _ (rules : List Rule) (join : AllJoin rules) (w : List ℤ) (a b : Occurrence rules w) where
  abbrev p : List ℤ
  p = a.before

  abbrev q : List ℤ
  q = b.before

  -- the second one begins behind the end of the first one
  apart : (m m' : List ℤ) → q ≡ p ++ m → m ≡ a.rule.left ++ m' → a.behind ≡ m' ++ (b.rule.left ++ b.behind) → Joins rules a b
  apart m m' e f g =
      let l : List ℤ = a.rule.left in
      let r : List ℤ = a.rule.right in
      let r' : List ℤ = b.rule.right in
      let left_first : result_of a ≡ p ++ (r ++ (m' ++ (b.rule.left ++ b.behind))) = ap (λ t. p ++ (r ++ t)) g in
      let right_first : result_of b ≡ p ++ (l ++ (m' ++ (r' ++ b.behind))) =
      ap (λ t. t ++ (r' ++ b.behind)) (e ∙ ap (λ t. p ++ t) f) ∙ (append_assoc p (l ++ m') (r' ++ b.behind) ∙ ap (λ t. p ++ t) (append_assoc l m' (r' ++ b.behind))) in
      let both : List ℤ = p ++ (r ++ (m' ++ (r' ++ b.behind))) in
      let one : Rewrites rules (result_of a) both = record {
        at = record {
          number = b.number;
          rule = b.rule;
          numbered = b.numbered;
          before = p ++ (r ++ m');
          behind = b.behind;
          stands = left_first ∙ (ap (λ t. p ++ t) (sym (append_assoc r m' (b.rule.left ++ b.behind))) ∙ sym (append_assoc p (r ++ m') (b.rule.left ++ b.behind)));
        };
        replaced = ap (λ t. p ++ t) (sym (append_assoc r m' (r' ++ b.behind))) ∙ sym (append_assoc p (r ++ m') (r' ++ b.behind));
      } in
      let other : Rewrites rules (result_of b) both = record {
        at = record {
          number = a.number;
          rule = a.rule;
          numbered = a.numbered;
          before = p;
          behind = m' ++ (r' ++ b.behind);
          stands = right_first;
        };
        replaced = refl;
      } in
      (both, descends_once rules (result_of a) both one, descends_once rules (result_of b) both other)

  -- the second one stands in the first one
  within : (m n : List ℤ) → q ≡ p ++ m → a.rule.left ≡ m ++ (b.rule.left ++ n) → b.behind ≡ n ++ a.behind → a.number ≢ b.number → Joins rules a b
  within m n e f g numbers =
      let inclusion : Includes a.rule.left b.rule.left (length m) = record { a = m; c = n; left_first = f; at_place = refl } in
      let joined = join.inclusions a.number b.number (length m) a.rule b.rule a.numbered b.numbered numbers inclusion in
      common_equal rules (result_of a) (result_of b) (p ++ (a.rule.right ++ a.behind)) (p ++ ((m ++ (b.rule.right ++ n)) ++ a.behind)) refl
      (ap (λ t. t ++ (b.rule.right ++ b.behind)) e ∙ (ap (λ t. (p ++ m) ++ (b.rule.right ++ t)) g ∙ (append_assoc p m (b.rule.right ++ (n ++ a.behind))
      ∙ ap (λ t. p ++ t) (ap (λ t. m ++ t) (sym (append_assoc b.rule.right n a.behind)) ∙ sym (append_assoc m (b.rule.right ++ n) a.behind)))))
      (common_between rules p a.behind a.rule.right (m ++ (b.rule.right ++ n)) joined)

  -- the first one stands at the beginning of the second one
  around : (n : List ℤ) → q ≡ p → b.rule.left ≡ a.rule.left ++ n → a.behind ≡ n ++ b.behind → a.number ≢ b.number → Joins rules a b
  around n e f g numbers =
      let inclusion : Includes b.rule.left a.rule.left 0 = record { a = []; c = n; left_first = f; at_place = refl } in
      let joined = common_turned rules b.rule.right (a.rule.right ++ n)
      (join.inclusions b.number a.number 0 b.rule a.rule b.numbered a.numbered (λ same. numbers (sym same)) inclusion) in
      common_equal rules (result_of a) (result_of b) (p ++ ((a.rule.right ++ n) ++ b.behind)) (p ++ (b.rule.right ++ b.behind))
      (ap (λ t. p ++ (a.rule.right ++ t)) g ∙ ap (λ t. p ++ t) (sym (append_assoc a.rule.right n b.behind)))
      (ap (λ t. t ++ (b.rule.right ++ b.behind)) e)
      (common_between rules p b.behind (a.rule.right ++ n) b.rule.right joined)

  -- the second one begins in the first one and ends behind it
  over : (m o n : List ℤ) → m ≢ [] → o ≢ [] → n ≢ [] → q ≡ p ++ m → a.rule.left ≡ m ++ o → b.rule.left ≡ o ++ n → a.behind ≡ n ++ b.behind → Joins rules a b
  over m o n some_m some_o some_n e f g h =
      let overlap : Overlaps a.rule.left b.rule.left (length m) = record { a = m; b = o; c = n; some_a = some_m; some_b = some_o; some_c = some_n; left_first = f; left_second = g; at_place = refl } in
      let joined = join.overlaps a.number b.number (length m) a.rule b.rule a.numbered b.numbered overlap in
      common_equal rules (result_of a) (result_of b) (p ++ ((a.rule.right ++ n) ++ b.behind)) (p ++ ((m ++ b.rule.right) ++ b.behind))
      (ap (λ t. p ++ (a.rule.right ++ t)) h ∙ ap (λ t. p ++ t) (sym (append_assoc a.rule.right n b.behind)))
      (ap (λ t. t ++ (b.rule.right ++ b.behind)) e ∙ (append_assoc p m (b.rule.right ++ b.behind) ∙ ap (λ t. p ++ t) (sym (append_assoc m b.rule.right b.behind))))
      (common_between rules p b.behind (a.rule.right ++ n) (m ++ b.rule.right) joined)

  -- one rule at one place
  alike : a.number ≡ b.number → p ≡ q → a.behind ≡ b.behind → Joins rules a b
  alike numbers e g =
      let rule : a.rule ≡ b.rule = same_Some a.rule b.rule (sym a.numbered ∙ (ap (rule_numbered rules) numbers ∙ b.numbered)) in
      let same : result_of a ≡ result_of b =
      ap (λ t. t ++ (a.rule.right ++ a.behind)) e ∙ (ap (λ (r : Rule). q ++ (r.right ++ a.behind)) rule ∙ ap (λ t. q ++ (b.rule.right ++ t)) g) in
      (result_of b, descends_equal rules (result_of a) (result_of b) same, descends_itself rules (result_of b))

  same_left : a.number ≡ b.number → a.rule.left ≡ b.rule.left
  same_left numbers = ap (λ (r : Rule). r.left) (same_Some a.rule b.rule (sym a.numbered ∙ (ap (rule_numbered rules) numbers ∙ b.numbered)))

  abbrev Numbered : Type 0
  Numbered = (a.number ≡ b.number) ⊎ (a.number ≢ b.number)

  numbered : Numbered
  numbered = elim (cases_order a.number b.number) as (λ _. Numbered) [
    | inl e ↦ inl e
    | inr l ↦ inr (λ e. elim l [ inl h ↦ omega arith | inr h ↦ omega arith ])
  ]

  -- the second one ends no later than the first one
  ends_within : (m n : List ℤ) → q ≡ p ++ m → a.rule.left ≡ m ++ (b.rule.left ++ n) → b.behind ≡ n ++ a.behind → Joins rules a b
  ends_within m n e f g =
      elim numbered as (λ _. Joins rules a b) [
        | inl same ↦
            let lengths : length a.rule.left ≡ length m + (length b.rule.left + length n) = ap length f ∙ (length-append m (b.rule.left ++ n) ∙ ap (λ k. length m + k) (length-append b.rule.left n)) in
            let no_m : m ≡ [] = no_length m (omega (arith, lengths, ap length (same_left same))) in
            let no_n : n ≡ [] = no_length n (omega (arith, lengths, ap length (same_left same))) in
            alike same (sym (e ∙ (ap (λ t. p ++ t) no_m ∙ append-nil p))) (sym (g ∙ ap (λ t. t ++ a.behind) no_n))
        | inr numbers ↦ within m n e f g numbers
      ]

  -- the second one ends behind the first one
  ends_behind : (m o n : List ℤ) → o ≢ [] → n ≢ [] → q ≡ p ++ m → a.rule.left ≡ m ++ o → b.rule.left ≡ o ++ n → a.behind ≡ n ++ b.behind → Joins rules a b
  ends_behind [] o n some_o some_n e f g h =
      around n (e ∙ append-nil p) (g ∙ ap (λ t. t ++ n) (sym f)) h (λ same.
      let lengths : length b.rule.left ≡ length o + length n = ap length g ∙ length-append o n in
      let first : length a.rule.left ≡ length o = ap length f in
      let some : 0 < length n = some_length n some_n in
      omega (arith, ap length (same_left same)))
  ends_behind (x ∷ m) o n some_o some_n e f g h = over (x ∷ m) o n (λ none. cc) some_o some_n e f g h

  -- the second one begins no earlier than the first one
  ordered : (m : List ℤ) → q ≡ p ++ m → a.rule.left ++ a.behind ≡ m ++ (b.rule.left ++ b.behind) → Joins rules a b
  ordered m e whole =
      elim (cuts a.rule.left a.behind m (b.rule.left ++ b.behind) whole) [
        | inl cut ↦ apart m cut.middle e cut.longer cut.rest
        | inr cut ↦ elim (cuts b.rule.left b.behind cut.middle a.behind cut.rest) [
          | inl shorter ↦ ends_within m shorter.middle e (cut.longer ∙ ap (λ t. m ++ t) shorter.longer) shorter.rest
          | inr longer ↦ ends_behind m cut.middle longer.middle cut.some longer.some e cut.longer longer.longer longer.rest
        ]
      ]

-- two rewritings of one word give words with a common descendant
pub results_join : (rules : List Rule) → AllJoin rules → (w : List ℤ) (a b : Occurrence rules w) → HaveCommon rules (result_of a) (result_of b)
results_join rules join w a b =
    let whole : a.before ++ (a.rule.left ++ a.behind) ≡ b.before ++ (b.rule.left ++ b.behind) = sym a.stands ∙ b.stands in
    elim (cuts a.before (a.rule.left ++ a.behind) b.before (b.rule.left ++ b.behind) whole) [
      | inl cut ↦ ordered rules join w a b cut.middle cut.longer cut.rest
      | inr cut ↦ common_turned rules (result_of b) (result_of a) (ordered rules join w b a cut.middle cut.longer cut.rest)
    ]

-- ---- Newman's lemma, by induction on the rank

module _ (rules : List Rule) (decrease : AllDecrease rules) (join : AllJoin rules) (base : ℕ) (sides : AllByRecursion (IsRuleWithin base) rules) where
  below : (n : ℕ) (w u v : List ℤ) (us vs : List (List ℤ)) → IsWithin base w → rank base w < n → Leads rules w us u → Leads rules w vs v → IsNormal rules u → IsNormal rules v → u ≡ v
  below zero w u v us vs within low h k normal normal' = absurd (omega arith)
  below (suc n) w u v [] vs within low h k normal normal' =
      sym (normal_stays rules w u (subst (IsNormal rules) (sym h) normal) ([], h)) ∙ normal_stays rules w v (subst (IsNormal rules) (sym h) normal) (vs, k)
  below (suc n) w u v (t ∷ us) [] within low h k normal normal' =
      sym (normal_stays rules w u (subst (IsNormal rules) (sym k) normal') (t ∷ us, h)) ∙ k
  below (suc n) w u v (t ∷ us) (s ∷ vs) within low h k normal normal' =
      let first = replacing_lowers base rules w t h.0.at h.0.replaced decrease sides within in
      let second = replacing_lowers base rules w s k.0.at k.0.replaced decrease sides within in
      let common = results_join rules join w h.0.at k.0.at in
      let end = a_descendant rules decrease common.0 in
      let down : Descends rules common.0 end.0 = first_descends rules common.0 end.0 end.1 in
      let from_t : Descends rules t end.0 = descends_on rules t common.0 end.0 (subst (λ (x : List ℤ). Descends rules x common.0) (sym h.0.replaced) common.1) down in
      let from_s : Descends rules s end.0 = descends_on rules s common.0 end.0 (subst (λ (x : List ℤ). Descends rules x common.0) (sym k.0.replaced) common.2) down in
      below n t u end.0 us from_t.0 first.within (omega (arith, first.lower)) h.1 from_t.1 normal end.1.normal
      ∙ sym (below n s v end.0 vs from_s.0 second.within (omega (arith, second.lower)) k.1 from_s.1 normal' end.1.normal)

-- two normal descendants of a word are equal
pub one_normal : (rules : List Rule) → AllDecrease rules → AllJoin rules → (w u v : List ℤ) → Descends rules w u → Descends rules w v → IsNormal rules u → IsNormal rules v → u ≡ v
one_normal rules decrease join w u v h k normal normal' =
    let base = base_for rules w in
    below rules decrease join base.base base.sides (rank base.base w + 1) w u v h.0 k.0 base.within (omega arith) h.1 k.1 normal normal'

-- words with a common descendant have equal normal descendants
pub common_normal : (rules : List Rule) → AllDecrease rules → AllJoin rules → (u v u' v' : List ℤ) → HaveCommon rules u v
    → Descends rules u u' → Descends rules v v' → IsNormal rules u' → IsNormal rules v' → u' ≡ v'
common_normal rules decrease join u v u' v' common h k normal normal' =
    let end = a_descendant rules decrease common.0 in
    let down : Descends rules common.0 end.0 = first_descends rules common.0 end.0 end.1 in
    one_normal rules decrease join u u' end.0 h (descends_on rules u common.0 end.0 common.1 down) normal end.1.normal
    ∙ sym (one_normal rules decrease join v v' end.0 k (descends_on rules v common.0 end.0 common.2 down) normal' end.1.normal)

-- having a common descendant is transitive
pub common_on : (rules : List Rule) → AllDecrease rules → AllJoin rules → (u v w : List ℤ) → HaveCommon rules u v → HaveCommon rules v w → HaveCommon rules u w
common_on rules decrease join u v w h k =
    let left = a_descendant rules decrease h.0 in
    let right = a_descendant rules decrease k.0 in
    let down : Descends rules h.0 left.0 = first_descends rules h.0 left.0 left.1 in
    let down' : Descends rules k.0 right.0 = first_descends rules k.0 right.0 right.1 in
    let same : left.0 ≡ right.0 =
    one_normal rules decrease join v left.0 right.0 (descends_on rules v h.0 left.0 h.2 down) (descends_on rules v k.0 right.0 k.1 down') left.1.normal right.1.normal in
    (left.0, descends_on rules u h.0 left.0 h.1 down, subst (Descends rules w) (sym same) (descends_on rules w k.0 right.0 k.2 down'))
