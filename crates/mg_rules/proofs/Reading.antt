-- Reading: ends of words, the search for the least rule, and what a rewriting does to what is read.
use Rattle.std.proofs.Common.{◌≡◌, ◌≢◌, ℕ, zero, suc, ◌+◌, ◌-◌, ◌<◌, ◌≤◌, ℤ, List, [], ◌∷◌, ◌++◌, length, take, drop, reverse, refl, sym, ap, subst, ◌∙◌, inl, inr, append_assoc, add-one, arith}
use Rattle.std.specs.Prelude.{None, Some, Result, Ok, Err, OnOk, get_or, slice_get}
use Rattle.std.proofs.lemmas.Bool.{cases_order}
use Rattle.std.proofs.lemmas.Option.{same_Some, slice_get_within, slice_get_read}
use Rattle.std.proofs.lemmas.List.{append-nil, length-append, reverse-append, take-append-drop, drop_at, take_rest, reverse-reverse, same_from_push}
use Rattle.mg_rules.specs.declared.rewriter.Rewriting.{Rewriting}
use Rattle.mg_rules.specs.Rule.{Rule, rule_numbered, IsNormal}
use Rattle.mg_rules.specs.Shortlex.{AllDecrease, Decreases}
use Rattle.mg_rules.specs.First.{Ends, IsLeastEnd, IsFirstDescendant, RewritesFirst, RewritesAt}
use Rattle.mg_rules.specs.Reading.{whole, EndsFirst, ReadsTo, Replaced, LeadsBy, Tells}
use Rattle.mg_rules.proofs.Parts.{all_numbered, last_cases}
use Rattle.mg_rules.proofs.Chains.{some_left, normal_front}
use Rattle.mg_rules.proofs.Ranks.{rank, IsWithin, base_for, replacing_lowers}
use Rattle.mg_rules.proofs.Firsts.{reads_on, uses_first, first_before, first_itself}

-- ---- ends

pub ends_from : (word end : List ℤ) (n : ℕ) → take (length word - n) (drop n word) ≡ end → (before : List ℤ) × (word ≡ before ++ end)
ends_from word end n e = (take n word, sym (take-append-drop n word) ∙ ap (λ t. take n word ++ t) (sym (take_rest word n) ∙ e))

pub ends_to : (word end : List ℤ) (n : ℕ) → n ≡ length word - length end → ((before : List ℤ) × (word ≡ before ++ end)) → take (length word - n) (drop n word) ≡ end
ends_to word end n h e =
    let at : length e.0 ≡ n = omega (arith, h, ap length e.1, length-append e.0 end) in
    take_rest word n ∙ (ap (drop n) e.1 ∙ drop_at e.0 end n at)

-- ---- each rule is tried

pub numbered_at : (rules : List Rule) (place : ℕ) (rule : Rule) → slice_get rules place ≡ Some rule → rule_numbered rules (place + 1) ≡ Some rule
numbered_at rules place rule e = ap (rule_numbered rules) (add-one place) ∙ e

pub number_within : (rules : List Rule) (number : ℕ) (rule : Rule) → rule_numbered rules number ≡ Some rule → (0 < number) × (number ≤ length rules)
number_within rules zero rule e = absurd (let never : None ≡ Some rule = e in cc)
number_within rules (suc n) rule e = (omega arith, (let below = slice_get_within rules n rule e in omega arith))

pub scan_found : (rules : List Rule) (word : List ℤ) (place : ℕ) (rule : Rule) (left : List ℤ) → slice_get rules place ≡ Some rule → left ≡ rule.left
    → ((before : List ℤ) × (word ≡ before ++ left)) → ((number : ℕ) → Ends rules word number → place < number) → IsLeastEnd rules word (place + 1)
scan_found rules word place rule left there is ends earlier = record {
  ends = λ _. record { rule = rule; numbered = numbered_at rules place rule there; before = ends.0; ends = ends.1 ∙ ap (λ t. ends.0 ++ t) is };
  none = λ (h : place + 1 ≡ 0). absurd (omega arith);
  least = λ other e. let above : place < other = earlier other e in omega arith;
}

pub scan_next : (rules : List Rule) (word : List ℤ) (place : ℕ) (rule : Rule) (left : List ℤ) → slice_get rules place ≡ Some rule → left ≡ rule.left
    → (((before : List ℤ) × (word ≡ before ++ left)) → ⊥) → ((number : ℕ) → Ends rules word number → place < number) → (number : ℕ) → Ends rules word number → place + 1 < number
scan_next rules word place rule left there is apart earlier number e =
    let above : place < number = earlier number e in
    elim (cases_order (place + 1) number) as (λ _. place + 1 < number) [
      | inl same ↦ absurd (
          let rule_is : rule ≡ e.rule = same_Some rule e.rule (sym (numbered_at rules place rule there) ∙ (ap (rule_numbered rules) same ∙ e.numbered)) in
          apart (e.before, e.ends ∙ ap (λ t. e.before ++ t) (ap (λ (r : Rule). r.left) (sym rule_is) ∙ sym is)))
      | inr l ↦ elim l as (λ _. place + 1 < number) [ inl h ↦ h | inr h ↦ absurd (omega arith) ]
    ]

pub scan_none : (rules : List Rule) (word : List ℤ) (place : ℕ) → length rules ≤ place → ((number : ℕ) → Ends rules word number → place < number) → IsLeastEnd rules word 0
scan_none rules word place past earlier =
    let none : (other : ℕ) → Ends rules word other → ⊥ =
    λ other e. (let within = number_within rules other e.rule e.numbered in let above : place < other = earlier other e in omega (arith, within.1)) in
    record { ends = λ (h : 0 < 0). absurd (omega arith); none = λ _. none; least = λ other e. absurd (none other e) }

-- ---- one letter more is read

pub read_one : (read rest rest' : List ℤ) (x : ℤ) → rest ≡ rest' ++ x ∷ [] → whole read rest ≡ whole (read ++ x ∷ []) rest'
read_one read rest rest' x e =
    ap (λ t. read ++ reverse t) e ∙ (ap (λ t. read ++ t) (reverse-append rest' (x ∷ [])) ∙ sym (append_assoc read (x ∷ []) (reverse rest')))

pub none_ends : (rules : List Rule) (read read' : List ℤ) (x : ℤ) (number : ℕ) → IsNormal rules read → read' ≡ read ++ x ∷ [] → number ≤ 0 → IsLeastEnd rules read' number → IsNormal rules read'
none_ends rules read read' x number normal e nothing least =
    let nought : number ≡ 0 = omega arith in
    subst (IsNormal rules) (sym e) (reads_on rules read x normal (subst (λ (t : List ℤ). IsLeastEnd rules t 0) e (subst (IsLeastEnd rules read') nought least)))

-- ---- a rewriting: the left side is taken away, and the right side put back

reversed : (rest rest' right : List ℤ) → rest' ≡ rest ++ reverse right → reverse rest' ≡ right ++ reverse rest
reversed rest rest' right e =
    ap reverse e ∙ (reverse-append rest (reverse right) ∙ ap (λ t. t ++ reverse rest) (turned right))
  where
    turned : (w : List ℤ) → reverse (reverse w) ≡ w
    turned w = reverse-reverse w

-- what stands before a left side that isn't empty is normal
front_normal : (rules : List Rule) (front before left : List ℤ) (x : ℤ) → IsNormal rules front → left ≢ [] → front ++ x ∷ [] ≡ before ++ left → IsNormal rules before
front_normal rules front before left x normal some e =
    elim (last_cases left) as (λ _. IsNormal rules before) [
      | inl none ↦ absurd (some none)
      | inr last ↦
          let cut : front ++ x ∷ [] ≡ (before ++ last.0) ++ last.1 ∷ [] = e ∙ (ap (λ t. before ++ t) last.2 ∙ sym (append_assoc before last.0 (last.1 ∷ []))) in
          normal_front rules before last.0 (subst (IsNormal rules) (same_from_push front (before ++ last.0) x last.1 cut).0 normal)
    ]

pub replaced : (rules : List Rule) (read rest read' rest' : List ℤ) (number : ℕ) (rule : Rule) → AllDecrease rules → EndsFirst rules read number → rule_numbered rules number ≡ Some rule
    → read ≡ read' ++ rule.left → rest' ≡ rest ++ reverse rule.right → Replaced rules read rest read' rest' number
replaced rules read rest read' rest' number rule decrease ends numbered cut put =
    let x : ℤ = ends.last in
    let front : List ℤ = ends.front in
    let least : IsLeastEnd rules (front ++ x ∷ []) number = subst (λ (t : List ℤ). IsLeastEnd rules t number) ends.is ends.least in
    let cut' : front ++ x ∷ [] ≡ read' ++ rule.left = sym ends.is ∙ cut in
    let before : front ++ x ∷ reverse rest ≡ whole read rest = sym (append_assoc front (x ∷ []) (reverse rest)) ∙ ap (λ t. t ++ reverse rest) (sym ends.is) in
    let after : read' ++ (rule.right ++ reverse rest) ≡ whole read' rest' = ap (λ t. read' ++ t) (sym (reversed rest rest' rule.right put)) in
    let first = uses_first rules front (reverse rest) read' x number rule ends.normal least numbered cut' in
    record {
      first = subst (λ (t : List ℤ). RewritesFirst rules t (whole read' rest')) before (subst (λ (t : List ℤ). RewritesFirst rules (front ++ x ∷ reverse rest) t) after first);
      at = record {
        at = record {
          number = number;
          rule = rule;
          numbered = numbered;
          before = read';
          behind = reverse rest;
          stands = ap (λ t. t ++ reverse rest) cut ∙ append_assoc read' rule.left (reverse rest);
        };
        by_rule = refl;
        at_place = refl;
        replaced = sym after;
      };
      normal = front_normal rules front read' rule.left x ends.normal (some_left rule (all_numbered Decreases rules number rule decrease numbered)) cut';
    }

-- ---- rewritings that are told

leads_by_push : (rules : List Rule) (u v w : List ℤ) (told : List Rewriting) (one : Rewriting) → LeadsBy rules u told v → RewritesAt rules one.rule one.place v w → LeadsBy rules u (told ++ one ∷ []) w
leads_by_push rules u v w [] one h r = (w, subst (λ (t : List ℤ). RewritesAt rules one.rule one.place t w) (sym h) r, refl)
leads_by_push rules u v w (other ∷ told) one h r = (h.0, h.1, leads_by_push rules h.0 v w told one h.2 r)

pub tells_none : (rules : List Rule) (u : List ℤ) (old : List Rewriting) → Tells rules u u old old
tells_none rules u old = record { told = []; appended = sym (append-nil old); lead = refl }

pub tells_equal : (rules : List Rule) (u v : List ℤ) (old : List Rewriting) → u ≡ v → Tells rules u v old old
tells_equal rules u v old e = record { told = []; appended = sym (append-nil old); lead = e }

pub tells_more : (rules : List Rule) (u v w : List ℤ) (old mid new : List Rewriting) (one : Rewriting) → Tells rules u v old mid → RewritesAt rules one.rule one.place v w → new ≡ mid ++ one ∷ [] → Tells rules u w old new
tells_more rules u v w old mid new one tells r e = record {
  told = tells.told ++ one ∷ [];
  appended = e ∙ (ap (λ t. t ++ one ∷ []) tells.appended ∙ append_assoc old tells.told (one ∷ []));
  lead = leads_by_push rules u v w tells.told one tells.lead r;
}

-- ---- how a word that is rewritten stands beside the one that it was

abbrev pub base_of : List Rule → List ℤ → ℕ
base_of rules start = (base_for rules start).base

pub record Stands (rules : List Rule) (start read rest : List ℤ) : Type 0 where
  pub normal : IsNormal rules read
  pub first : (v : List ℤ) → IsFirstDescendant rules (whole read rest) v → IsFirstDescendant rules start v
  pub within : IsWithin (base_of rules start) (whole read rest)

pub stands_first : (rules : List Rule) (read rest : List ℤ) → IsNormal rules read → Stands rules (whole read rest) read rest
stands_first rules read rest normal = record { normal = normal; first = λ v h. h; within = (base_for rules (whole read rest)).within }

pub ends_first : (rules : List Rule) (read rest read' rest' : List ℤ) (number : ℕ) → ReadsTo rules read rest read' rest' number → number ≢ 0 → EndsFirst rules read' number
ends_first rules read rest read' rest' number reads some =
    elim reads.how as (λ _. EndsFirst rules read' number) [ inl ended ↦ absurd (some ended.0) | inr ends ↦ ends ]

pub record StandsNext (rules : List Rule) (start read rest read' rest' : List ℤ) : Type 0 where
  pub stands : Stands rules start read' rest'
  pub lower : rank (base_of rules start) (whole read' rest') < rank (base_of rules start) (whole read rest)

pub stands_next : (rules : List Rule) (start read rest mid more read' rest' : List ℤ) (number : ℕ) → AllDecrease rules → Stands rules start read rest
    → ReadsTo rules read rest mid more number → Replaced rules mid more read' rest' number → StandsNext rules start read rest read' rest'
stands_next rules start read rest mid more read' rest' number decrease stands reads replaced =
    let first : RewritesFirst rules (whole read rest) (whole read' rest') = subst (λ (t : List ℤ). RewritesFirst rules t (whole read' rest')) (sym reads.same) replaced.first in
    let lowers = replacing_lowers (base_of rules start) rules (whole read rest) (whole read' rest') first.at first.replaced decrease (base_for rules start).sides stands.within in
    record {
      stands = record {
        normal = replaced.normal;
        first = λ v h. stands.first v (first_before rules (whole read rest) (whole read' rest') v first h);
        within = lowers.within;
      };
      lower = lowers.lower;
    }

whole_read : (read rest : List ℤ) → rest ≡ [] → whole read rest ≡ read
whole_read read rest e = ap (λ t. read ++ reverse t) e ∙ append-nil read

pub all_read : (rules : List Rule) (read rest read' rest' : List ℤ) (number : ℕ) → ReadsTo rules read rest read' rest' number → number ≡ 0
    → (whole read rest ≡ read') × IsNormal rules read'
all_read rules read rest read' rest' number reads e =
    elim reads.how as (λ _. (whole read rest ≡ read') × IsNormal rules read') [
      | inl ended ↦ (reads.same ∙ whole_read read' rest' ended.1, ended.2)
      | inr ends ↦ absurd (let some : 0 < number = ends.some in omega arith)
    ]

pub stands_last : (rules : List Rule) (start read rest read' rest' : List ℤ) (number : ℕ) → Stands rules start read rest → ReadsTo rules read rest read' rest' number → number ≡ 0
    → IsFirstDescendant rules start read'
stands_last rules start read rest read' rest' number stands reads e =
    let ended = all_read rules read rest read' rest' number reads e in
    stands.first read' (subst (λ (t : List ℤ). IsFirstDescendant rules t read') (sym ended.0) (first_itself rules read' ended.1))

-- the told rewritings lead on
pub tells_next : (rules : List Rule) (start read rest mid more read' rest' : List ℤ) (number place : ℕ) (old now new : List Rewriting) → Tells rules start (whole read rest) old now
    → ReadsTo rules read rest mid more number → Replaced rules mid more read' rest' number → place ≡ length read' → new ≡ now ++ record { rule = number; place = place } ∷ []
    → Tells rules start (whole read' rest') old new
tells_next rules start read rest mid more read' rest' number place old now new tells reads replaced e told =
    tells_more rules start (whole read rest) (whole read' rest') old now new (record { rule = number; place = place }) tells
    (subst (λ (t : List ℤ). RewritesAt rules number place t (whole read' rest')) (sym reads.same)
    (subst (λ (n : ℕ). RewritesAt rules number n (whole mid more) (whole read' rest')) (sym e) replaced.at)) told

pub tells_last : (rules : List Rule) (start read rest read' rest' : List ℤ) (number : ℕ) (old new : List Rewriting) → Tells rules start (whole read rest) old new
    → ReadsTo rules read rest read' rest' number → number ≡ 0 → Tells rules start read' old new
tells_last rules start read rest read' rest' number old new tells reads e =
    subst (λ (t : List ℤ). Tells rules start t old new) (all_read rules read rest read' rest' number reads e).0 tells

-- ---- what is read from a list of rules

pub rule_read : (rules pairs : List Rule) (number : ℕ) (rule : Rule) → pairs ≡ rules → rule ≡ get_or pairs (number - 1) rule → 0 < number → number ≤ length rules → rule_numbered rules number ≡ Some rule
rule_read rules pairs zero rule same is some within = absurd (omega arith)
rule_read rules pairs (suc n) rule same is some within =
    let at : suc n - 1 ≡ n = omega arith in
    let here : rule ≡ get_or pairs n rule = is ∙ ap (λ k. get_or pairs k rule) at in
    subst (λ (t : List Rule). slice_get t n ≡ Some rule) same (slice_get_read pairs (length pairs) n rule refl (omega (arith, ap length same)) here)

pub on_ok_both : {T E : Type 0} (r : Result T E) (P Q R : Type 0) → OnOk r P → OnOk r Q → (P → Q → R) → OnOk r R
on_ok_both (Ok x) P Q R p q f = f p q
on_ok_both (Err e) P Q R p q f = tt

pub rule_used : (rules pairs : List Rule) (read : List ℤ) (number : ℕ) (rule : Rule) → EndsFirst rules read number → pairs ≡ rules → rule ≡ get_or pairs (number - 1) rule → rule_numbered rules number ≡ Some rule
rule_used rules pairs read number rule first same is =
    let ends = first.least.ends first.some in
    rule_read rules pairs number rule same is first.some (number_within rules number ends.rule ends.numbered).1

-- a word of which nothing is read
pub whole_begun : (read rest w : List ℤ) → read ≡ [] → rest ≡ reverse w → whole read rest ≡ w
whole_begun read rest w e f = ap (λ t. t ++ reverse rest) e ∙ (ap reverse f ∙ reverse-reverse w)
