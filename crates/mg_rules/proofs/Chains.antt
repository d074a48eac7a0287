-- Chains of rewritings: they join, are kept by products, and lower ranks.
use Rattle.std.proofs.Common.{◌≡◌, ◌≢◌, ℤ, List, [], ◌∷◌, ◌++◌, length, refl, sym, ap, subst, ◌∙◌, inl, inr, append_assoc, arith}
use Rattle.std.specs.declared.cmp.Ordering.TheVariants.{Less, Equal}
use Rattle.mg_rules.specs.Rule.{Rule, Rewrites, Leads, Descends, HaveCommon, IsNormal}
use Rattle.mg_rules.specs.Shortlex.{IsSmaller, Decreases}

pub descends_itself : (rules : List Rule) (u : List ℤ) → Descends rules u u
descends_itself rules u = ([], refl)

pub descends_equal : (rules : List Rule) (u v : List ℤ) → u ≡ v → Descends rules u v
descends_equal rules u v e = ([], e)

pub descends_once : (rules : List Rule) (u v : List ℤ) → Rewrites rules u v → Descends rules u v
descends_once rules u v r = (v ∷ [], (r, refl))

leads_on : (rules : List Rule) (u v w : List ℤ) (words : List (List ℤ)) → Leads rules u words v → Descends rules v w → Descends rules u w
leads_on rules u v w [] e k = subst (λ (t : List ℤ). Descends rules t w) (sym e) k
leads_on rules u v w (t ∷ words) h k = let rest = leads_on rules t v w words h.1 k in (t ∷ rest.0, (h.0, rest.1))

pub descends_on : (rules : List Rule) (u v w : List ℤ) → Descends rules u v → Descends rules v w → Descends rules u w
descends_on rules u v w h k = leads_on rules u v w h.0 h.1 k

-- the same rewriting in a longer word
pub shape : (a b u p l q : List ℤ) → u ≡ p ++ (l ++ q) → a ++ (u ++ b) ≡ a ++ p ++ (l ++ (q ++ b))
shape a b u p l q e =
    ap (λ t. a ++ (t ++ b)) e ∙ (ap (λ t. a ++ t) (append_assoc p (l ++ q) b ∙ ap (λ t. p ++ t) (append_assoc l q b)) ∙ sym (append_assoc a p (l ++ (q ++ b))))

pub rewrites_between : (rules : List Rule) (a b u v : List ℤ) → Rewrites rules u v → Rewrites rules (a ++ (u ++ b)) (a ++ (v ++ b))
rewrites_between rules a b u v r = record {
  at = record {
    number = r.at.number;
    rule = r.at.rule;
    numbered = r.at.numbered;
    before = a ++ r.at.before;
    behind = r.at.behind ++ b;
    stands = shape a b u r.at.before r.at.rule.left r.at.behind r.at.stands;
  };
  replaced = shape a b v r.at.before r.at.rule.right r.at.behind r.replaced;
}

leads_between : (rules : List Rule) (a b u v : List ℤ) (words : List (List ℤ)) → Leads rules u words v → Descends rules (a ++ (u ++ b)) (a ++ (v ++ b))
leads_between rules a b u v [] e = ([], ap (λ t. a ++ (t ++ b)) e)
leads_between rules a b u v (w ∷ words) h =
    let rest = leads_between rules a b w v words h.1 in ((a ++ (w ++ b)) ∷ rest.0, (rewrites_between rules a b u w h.0, rest.1))

-- descendants of a part of a word
pub descends_between : (rules : List Rule) (a b u v : List ℤ) → Descends rules u v → Descends rules (a ++ (u ++ b)) (a ++ (v ++ b))
descends_between rules a b u v h = leads_between rules a b u v h.0 h.1

pub common_between : (rules : List Rule) (a b u v : List ℤ) → HaveCommon rules u v → HaveCommon rules (a ++ (u ++ b)) (a ++ (v ++ b))
common_between rules a b u v h = (a ++ (h.0 ++ b), descends_between rules a b u h.0 h.1, descends_between rules a b v h.0 h.2)

pub common_turned : (rules : List Rule) (u v : List ℤ) → HaveCommon rules u v → HaveCommon rules v u
common_turned rules u v h = (h.0, h.2, h.1)

pub common_below : (rules : List Rule) (u v : List ℤ) → Descends rules u v → HaveCommon rules u v
common_below rules u v h = (v, h, descends_itself rules v)

-- a part of a normal word is normal
pub normal_part : (rules : List Rule) (a b u : List ℤ) → IsNormal rules (a ++ (u ++ b)) → IsNormal rules u
normal_part rules a b u normal at = normal (record {
  number = at.number;
  rule = at.rule;
  numbered = at.numbered;
  before = a ++ at.before;
  behind = at.behind ++ b;
  stands = shape a b u at.before at.rule.left at.behind at.stands;
})

pub normal_front : (rules : List Rule) (u b : List ℤ) → IsNormal rules (u ++ b) → IsNormal rules u
normal_front rules u b normal = normal_part rules [] b u normal

-- a normal word is its own only descendant
pub normal_stays : (rules : List Rule) (u v : List ℤ) → IsNormal rules u → Descends rules u v → u ≡ v
normal_stays rules u v normal h = by h.0 h.1
  where
    by : (words : List (List ℤ)) → Leads rules u words v → u ≡ v
    by [] e = e
    by (w ∷ words) h = absurd (normal h.0.at)

-- nothing is smaller than the empty word
none_smaller : (u : List ℤ) → IsSmaller u [] → ⊥
none_smaller u (inl h) = omega arith
none_smaller [] (inr h) = let no : Equal ≡ Less = h.1 in cc
none_smaller (x ∷ u) (inr h) = let e : length (x ∷ u) ≡ 0 = h.0 in omega arith

pub some_left : (rule : Rule) → Decreases rule → rule.left ≢ []
some_left rule down e = none_smaller rule.right (subst (IsSmaller rule.right) e down)
