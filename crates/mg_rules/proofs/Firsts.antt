-- First descendants: each word has one, in a system in which every rule decreases. Reading a word letter by letter
-- finds the first occurrence.
use Rattle.std.proofs.Common.{◌≡◌, ◌≢◌, ℕ, zero, suc, ◌+◌, ◌<◌, ◌≤◌, ◌⊎◌, ℤ, pos, negsuc, List, [], ◌∷◌, ◌++◌, length, refl, sym, ap, subst, ◌∙◌, inl, inr, append_assoc, arith}
use Rattle.std.specs.Prelude.{None, Some}
use Rattle.std.specs.List.{AllByRecursion}
use Rattle.std.proofs.lemmas.Bool.{cases_order}
use Rattle.std.proofs.lemmas.Option.{same_Some}
use Rattle.std.proofs.lemmas.List.{append-nil, length-append, append_cancel_left}
use Rattle.mg_rules.specs.Rule.{Rule, rule_numbered, Occurrence, Descends, IsNormal}
use Rattle.mg_rules.specs.Shortlex.{Decreases, AllDecrease}
use Rattle.mg_rules.specs.First.{end_of, RewritesFirst, LeadsFirst, IsFirstDescendant, Ends, IsLeastEnd}
use Rattle.mg_rules.proofs.Parts.{cuts, same_front, some_length, empty_front, all_numbered}
use Rattle.mg_rules.proofs.Ranks.{rank, IsWithin, IsRuleWithin, replacing_lowers, base_for}
use Rattle.mg_rules.proofs.Chains.{some_left, descends_on, descends_once, descends_equal}

-- ---- one first occurrence, one first descendant

-- two occurrences that come first replace alike
replaced_alike : (rules : List Rule) (u v v' : List ℤ) (a b : Occurrence rules u) → end_of a ≡ end_of b → a.number ≡ b.number
    → v ≡ a.before ++ (a.rule.right ++ a.behind) → v' ≡ b.before ++ (b.rule.right ++ b.behind) → v ≡ v'
replaced_alike rules u v v' a b ends numbers e e' =
    let rule : a.rule ≡ b.rule = same_Some a.rule b.rule (sym a.numbered ∙ (ap (rule_numbered rules) numbers ∙ b.numbered)) in
    let left : a.rule.left ≡ b.rule.left = ap (λ (r : Rule). r.left) rule in
    let lengths : length a.before ≡ length b.before = omega (arith, ends, ap length left) in
    let fronts = same_front a.before (a.rule.left ++ a.behind) b.before (b.rule.left ++ b.behind) (sym a.stands ∙ b.stands) lengths in
    let backs : a.behind ≡ b.behind = append_cancel_left b.rule.left a.behind b.behind (ap (λ t. t ++ a.behind) (sym left) ∙ fronts.1) in
    e ∙ (ap (λ t. t ++ (a.rule.right ++ a.behind)) fronts.0 ∙ (ap (λ (r : Rule). b.before ++ (r.right ++ a.behind)) rule
    ∙ (ap (λ t. b.before ++ (b.rule.right ++ t)) backs ∙ sym e')))

-- where each comes first they end at one place and have one number
both_first : (k l m n : ℕ) → (k < l) ⊎ ((k ≡ l) × (m ≤ n)) → (l < k) ⊎ ((l ≡ k) × (n ≤ m)) → (k ≡ l) × (m ≡ n)
both_first k l m n (inl h) (inl g) = absurd (omega arith)
both_first k l m n (inl h) (inr g) = absurd (let e : l ≡ k = g.0 in omega arith)
both_first k l m n (inr h) (inl g) = absurd (let e : k ≡ l = h.0 in omega arith)
both_first k l m n (inr h) (inr g) = (h.0, (let up : m ≤ n = h.1 in let down : n ≤ m = g.1 in omega arith))

pub first_once : (rules : List Rule) (u v v' : List ℤ) → RewritesFirst rules u v → RewritesFirst rules u v' → v ≡ v'
first_once rules u v v' a b =
    let same = both_first (end_of a.at) (end_of b.at) a.at.number b.at.number (a.first b.at) (b.first a.at) in
    replaced_alike rules u v v' a.at b.at same.0 same.1 a.replaced b.replaced

leads_once : (rules : List Rule) (u v v' : List ℤ) (words words' : List (List ℤ)) → LeadsFirst rules u words v → LeadsFirst rules u words' v'
    → IsNormal rules v → IsNormal rules v' → v ≡ v'
leads_once rules u v v' [] [] e e' n n' = sym e ∙ e'
leads_once rules u v v' [] (w ∷ words') e h n n' = absurd (n (subst (λ (t : List ℤ). Occurrence rules t) e h.0.at))
leads_once rules u v v' (w ∷ words) [] h e n n' = absurd (n' (subst (λ (t : List ℤ). Occurrence rules t) e h.0.at))
leads_once rules u v v' (w ∷ words) (w' ∷ words') h h' n n' =
    leads_once rules w' v v' words words' (subst (λ (t : List ℤ). LeadsFirst rules t words v) (first_once rules u w w' h.0 h'.0) h.1) h'.1 n n'

-- a word has at most one first descendant
pub one_descendant : (rules : List Rule) (u v v' : List ℤ) → IsFirstDescendant rules u v → IsFirstDescendant rules u v' → v ≡ v'
one_descendant rules u v v' a b = leads_once rules u v v' a.words b.words a.leads b.leads a.normal b.normal

-- one first rewriting more before it
pub first_before : (rules : List Rule) (u w v : List ℤ) → RewritesFirst rules u w → IsFirstDescendant rules w v → IsFirstDescendant rules u v
first_before rules u w v r d = record { words = w ∷ d.words; leads = (r, d.leads); normal = d.normal }

pub first_itself : (rules : List Rule) (u : List ℤ) → IsNormal rules u → IsFirstDescendant rules u u
first_itself rules u normal = record { words = []; leads = refl; normal = normal }

leads_down : (rules : List Rule) (u v : List ℤ) (words : List (List ℤ)) → LeadsFirst rules u words v → Descends rules u v
leads_down rules u v [] e = descends_equal rules u v e
leads_down rules u v (w ∷ words) h =
    descends_on rules u w v (descends_once rules u w (record { at = h.0.at; replaced = h.0.replaced })) (leads_down rules w v words h.1)

-- the first descendant is a descendant
pub first_descends : (rules : List Rule) (u v : List ℤ) → IsFirstDescendant rules u v → Descends rules u v
first_descends rules u v d = leads_down rules u v d.words d.leads

-- ---- reading a word

-- what is read is normal, so each occurrence ends behind it
ends_late : (rules : List Rule) (read rest : List ℤ) (x : ℤ) → IsNormal rules read → (at : Occurrence rules (read ++ x ∷ rest)) → length read + 1 ≤ end_of at
ends_late rules read rest x normal at =
    elim (cuts (at.before ++ at.rule.left) at.behind read (x ∷ rest) (append_assoc at.before at.rule.left at.behind ∙ sym at.stands)) [
      | inl cut ↦ absurd (normal (record {
        number = at.number;
        rule = at.rule;
        numbered = at.numbered;
        before = at.before;
        behind = cut.middle;
        stands = cut.longer ∙ append_assoc at.before at.rule.left cut.middle;
      }))
      | inr cut ↦ omega (arith, ap length cut.longer, length-append at.before at.rule.left, length-append read cut.middle, some_length cut.middle cut.some)
    ]

-- an occurrence that ends with the letter read ends what is read
ends_there : (rules : List Rule) (read rest : List ℤ) (x : ℤ) (at : Occurrence rules (read ++ x ∷ rest)) → length read + 1 ≡ end_of at → Ends rules (read ++ x ∷ []) at.number
ends_there rules read rest x at e =
    let whole : (read ++ x ∷ []) ++ rest ≡ (at.before ++ at.rule.left) ++ at.behind =
    append_assoc read (x ∷ []) rest ∙ (at.stands ∙ sym (append_assoc at.before at.rule.left at.behind)) in
    let fronts = same_front (read ++ x ∷ []) rest (at.before ++ at.rule.left) at.behind whole
    (omega (arith, e, length-append read (x ∷ []), length-append at.before at.rule.left)) in
    record { rule = at.rule; numbered = at.numbered; before = at.before; ends = fronts.0 }

-- where no left side ends what is read, that is normal
pub reads_on : (rules : List Rule) (read : List ℤ) (x : ℤ) → IsNormal rules read → IsLeastEnd rules (read ++ x ∷ []) 0 → IsNormal rules (read ++ x ∷ [])
reads_on rules read x normal least at =
    let late = ends_late rules read [] x normal at in
    let within : end_of at ≤ length read + 1 = omega (arith, ap length at.stands, length-append read (x ∷ []), length-append at.before (at.rule.left ++ at.behind), length-append at.rule.left at.behind) in
    least.none refl at.number (ends_there rules read [] x at (omega arith))

-- the least rule that ends what is read is the first to be used
pub uses_first : (rules : List Rule) (read rest before : List ℤ) (x : ℤ) (number : ℕ) (rule : Rule) → IsNormal rules read → IsLeastEnd rules (read ++ x ∷ []) number
    → rule_numbered rules number ≡ Some rule → read ++ x ∷ [] ≡ before ++ rule.left → RewritesFirst rules (read ++ x ∷ rest) (before ++ (rule.right ++ rest))
uses_first rules read rest before x number rule normal least numbered ends =
    record {
      at = record {
        number = number;
        rule = rule;
        numbered = numbered;
        before = before;
        behind = rest;
        stands = sym (append_assoc read (x ∷ []) rest) ∙ (ap (λ t. t ++ rest) ends ∙ append_assoc before rule.left rest);
      };
      first = λ other.
          let late = ends_late rules read rest x normal other in
          let here : length before + length rule.left ≡ length read + 1 = omega (arith, ap length ends, length-append read (x ∷ []), length-append before rule.left) in
          elim (cases_order (length read + 1) (end_of other)) as (λ _. (length before + length rule.left < end_of other) ⊎ ((length before + length rule.left ≡ end_of other) × (number ≤ other.number))) [
            | inl same ↦ inr (here ∙ same, least.least other.number (ends_there rules read rest x other same))
            | inr apart ↦ elim apart as (λ _. (length before + length rule.left < end_of other) ⊎ ((length before + length rule.left ≡ end_of other) × (number ≤ other.number))) [ inl l ↦ inl (omega arith) | inr l ↦ absurd (omega arith) ]
          ];
      replaced = refl;
    }

-- the empty word is normal
pub normal_empty : (rules : List Rule) → AllDecrease rules → IsNormal rules []
normal_empty rules decrease at =
    let middle : at.rule.left ++ at.behind ≡ [] = let e = at.stands in lemma at.before (at.rule.left ++ at.behind) (sym e) in
    some_left at.rule (all_numbered Decreases rules at.number at.rule decrease at.numbered) (empty_front at.rule.left at.behind middle)
  where
    lemma : (a b : List ℤ) → a ++ b ≡ [] → b ≡ []
    lemma [] b e = e
    lemma (x ∷ a) b e = absurd (let n : length (x ∷ (a ++ b)) ≡ 0 = ap length e in omega arith)

-- ---- whether a left side ends a word

int_cases : (x y : ℤ) → (x ≡ y) ⊎ (x ≢ y)
int_cases (pos a) (pos b) =
    elim (cases_order a b) [
      | inl e ↦ inl (ap pos e)
      | inr l ↦ inr (λ e. let same : a ≡ b = cc in elim l [ inl h ↦ omega arith | inr h ↦ omega arith ])
    ]
int_cases (pos a) (negsuc b) = inr (λ e. cc)
int_cases (negsuc a) (pos b) = inr (λ e. cc)
int_cases (negsuc a) (negsuc b) =
    elim (cases_order a b) [
      | inl e ↦ inl (ap negsuc e)
      | inr l ↦ inr (λ e. let same : a ≡ b = cc in elim l [ inl h ↦ omega arith | inr h ↦ omega arith ])
    ]

pub word_cases : (u v : List ℤ) → (u ≡ v) ⊎ (u ≢ v)
word_cases [] [] = inl refl
word_cases [] (y ∷ v) = inr (λ e. cc)
word_cases (x ∷ u) [] = inr (λ e. cc)
word_cases (x ∷ u) (y ∷ v) =
    elim (int_cases x y) [
      | inl e ↦ elim (word_cases u v) [
        | inl rest ↦ inl (ap (λ t. x ∷ t) rest ∙ ap (λ z. z ∷ v) e)
        | inr apart ↦ inr (λ whole. apart (let rest : u ≡ v = cc in rest))
      ]
      | inr apart ↦ inr (λ whole. apart (let head : x ≡ y = cc in head))
    ]

not_longer : (x : ℤ) (w l b : List ℤ) → l ≢ x ∷ w → ((c : List ℤ) → w ≢ c ++ l) → x ∷ w ≢ b ++ l
not_longer x w l [] apart rest e = apart (sym e)
not_longer x w l (y ∷ b) apart rest e = rest b (let tails : w ≡ b ++ l = cc in tails)

ends_cases : (l w : List ℤ) → ((b : List ℤ) × (w ≡ b ++ l)) ⊎ ((b : List ℤ) → w ≢ b ++ l)
ends_cases [] [] = inl ([], refl)
ends_cases (y ∷ l) [] = inr (λ b e. let n : 0 ≡ length (b ++ y ∷ l) = ap length e in omega (arith, length-append b (y ∷ l)))
ends_cases l (x ∷ w) =
    elim (word_cases l (x ∷ w)) [
      | inl e ↦ inl ([], sym e)
      | inr apart ↦ elim (ends_cases l w) [
        | inl rest ↦ inl (x ∷ rest.0, ap (λ t. x ∷ t) rest.1)
        | inr none ↦ inr (λ b. not_longer x w l b apart none)
      ]
    ]

-- the number of a rule with one rule more before it
ends_down : (rule : Rule) (rules : List Rule) (w : List ℤ) (n : ℕ) → Ends (rule ∷ rules) w (suc (suc n)) → Ends rules w (suc n)
ends_down rule rules w n e = record { rule = e.rule; numbered = e.numbered; before = e.before; ends = e.ends }

ends_up : (rule : Rule) (rules : List Rule) (w : List ℤ) (n : ℕ) → Ends rules w (suc n) → Ends (rule ∷ rules) w (suc (suc n))
ends_up rule rules w n e = record { rule = e.rule; numbered = e.numbered; before = e.before; ends = e.ends }

-- numbers count from 1
no_zero : (rules : List Rule) (w : List ℤ) → Ends rules w 0 → ⊥
no_zero rules w e = let never : None ≡ Some e.rule = e.numbered in cc

not_first : (rule : Rule) (rules : List Rule) (w : List ℤ) → ((b : List ℤ) → w ≢ b ++ rule.left) → Ends (rule ∷ rules) w 1 → ⊥
not_first rule rules w apart e =
    let same : rule ≡ e.rule = same_Some rule e.rule e.numbered in
    apart e.before (e.ends ∙ ap (λ (r : Rule). e.before ++ r.left) (sym same))

least_later : (rule : Rule) (rules : List Rule) (w : List ℤ) → ((b : List ℤ) → w ≢ b ++ rule.left) → (number : ℕ) → IsLeastEnd rules w number → (n : ℕ) × IsLeastEnd (rule ∷ rules) w n
least_later rule rules w apart zero least =
    let none : (other : ℕ) → Ends (rule ∷ rules) w other → ⊥ = none_of in
    (0, record { ends = λ (h : 0 < 0). absurd (omega arith); none = λ _. none; least = λ other e. absurd (none other e) })
  where
    none_of : (other : ℕ) → Ends (rule ∷ rules) w other → ⊥
    none_of zero e = no_zero (rule ∷ rules) w e
    none_of (suc zero) e = not_first rule rules w apart e
    none_of (suc (suc n)) e = least.none refl (suc n) (ends_down rule rules w n e)
least_later rule rules w apart (suc k) least = (
  suc (suc k),
  record {
    ends = λ _. ends_up rule rules w k (least.ends (omega arith));
    none = λ (h : suc (suc k) ≡ 0). absurd (omega arith);
    least = least_of;
  },
)
  where
    least_of : (other : ℕ) → Ends (rule ∷ rules) w other → suc (suc k) ≤ other
    least_of zero e = absurd (no_zero (rule ∷ rules) w e)
    least_of (suc zero) e = absurd (not_first rule rules w apart e)
    least_of (suc (suc n)) e = let below : suc k ≤ suc n = least.least (suc n) (ends_down rule rules w n e) in omega arith

pub least_end : (rules : List Rule) (w : List ℤ) → (number : ℕ) × IsLeastEnd rules w number
least_end [] w =
    let none : (other : ℕ) → Ends [] w other → ⊥ = none_of in
    (0, record { ends = λ (h : 0 < 0). absurd (omega arith); none = λ _. none; least = λ other e. absurd (none other e) })
  where
    none_of : (other : ℕ) → Ends [] w other → ⊥
    none_of zero e = no_zero [] w e
    none_of (suc n) e = let never : None ≡ Some e.rule = e.numbered in cc
least_end (rule ∷ rules) w =
    elim (ends_cases rule.left w) [
      | inl ends ↦ (
        1,
        record {
          ends = λ _. record { rule = rule; numbered = refl; before = ends.0; ends = ends.1 };
          none = λ (h : 1 ≡ 0). absurd (omega arith);
          least = one_least;
        },
      )
      | inr apart ↦ (let rest = least_end rules w in least_later rule rules w apart rest.0 rest.1)
    ]
  where
    one_least : (other : ℕ) → Ends (rule ∷ rules) w other → 1 ≤ other
    one_least zero e = absurd (no_zero (rule ∷ rules) w e)
    one_least (suc n) e = omega arith

-- ---- each word is normal or has a first occurrence, so that it has a first descendant

abbrev pub HasFirst : List Rule → List ℤ → Type 0
HasFirst rules w = IsNormal rules w ⊎ ((v : List ℤ) × RewritesFirst rules w v)

step_cases : (rules : List Rule) (read rest : List ℤ) (x : ℤ) → IsNormal rules read → (number : ℕ) → IsLeastEnd rules (read ++ x ∷ []) number
    → IsNormal rules (read ++ x ∷ []) ⊎ ((v : List ℤ) × RewritesFirst rules (read ++ x ∷ rest) v)
step_cases rules read rest x normal zero least = inl (reads_on rules read x normal least)
step_cases rules read rest x normal (suc n) least =
    let e = least.ends (omega arith) in
    inr (e.before ++ (e.rule.right ++ rest), uses_first rules read rest e.before x (suc n) e.rule normal least e.numbered e.ends)

read_cases : (rules : List Rule) (read rest : List ℤ) → IsNormal rules read → HasFirst rules (read ++ rest)
read_cases rules read [] normal = inl (subst (IsNormal rules) (sym (append-nil read)) normal)
read_cases rules read (x ∷ rest) normal =
    let found = least_end rules (read ++ x ∷ []) in
    elim (step_cases rules read rest x normal found.0 found.1) as (λ _. HasFirst rules (read ++ x ∷ rest)) [
      | inl longer ↦ subst (HasFirst rules) (append_assoc read (x ∷ []) rest) (read_cases rules (read ++ x ∷ []) rest longer)
      | inr first ↦ inr first
    ]

pub normal_cases : (rules : List Rule) → AllDecrease rules → (w : List ℤ) → HasFirst rules w
normal_cases rules decrease w = read_cases rules [] w (normal_empty rules decrease)

descend_below : (n base : ℕ) (rules : List Rule) → AllDecrease rules → AllByRecursion (IsRuleWithin base) rules
    → (u : List ℤ) → IsWithin base u → rank base u < n → (v : List ℤ) × IsFirstDescendant rules u v
descend_below zero base rules decrease sides u within low = absurd (omega arith)
descend_below (suc n) base rules decrease sides u within low =
    elim (normal_cases rules decrease u) [
      | inl normal ↦ (u, first_itself rules u normal)
      | inr first ↦
          let lowers = replacing_lowers base rules u first.0 first.1.at first.1.replaced decrease sides within in
          let rest = descend_below n base rules decrease sides first.0 lowers.within (omega (arith, lowers.lower)) in
          (rest.0, first_before rules u first.0 rest.0 first.1 rest.1)
    ]

-- each word has a first descendant
pub a_descendant : (rules : List Rule) → AllDecrease rules → (u : List ℤ) → (v : List ℤ) × IsFirstDescendant rules u v
a_descendant rules decrease u =
    let base = base_for rules u in
    descend_below (rank base.base u + 1) base.base rules decrease base.sides u base.within (omega arith)
