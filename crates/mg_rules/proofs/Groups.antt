-- What a complete system says of a group: words that are the same there have equal normal descendants, and the other
-- way round where the two sides of each rule are the same.
use Rattle.std.proofs.Common.{◌≡◌, ℕ, ℤ, neg_ℤ, List, [], ◌∷◌, ◌++◌, sym, ap, subst, ◌∙◌, inl, inr, append_assoc}
use Rattle.std.specs.Prelude.{Contains, slice_index_or}
use Rattle.std.specs.List.{AllByRecursion}
use Rattle.std.proofs.lemmas.List.Elements.{All-from_recursion, All-contains, All-get_or}
use Rattle.mg_words.specs.Word.{IsOver, inv}
use Rattle.mg_words.specs.Chain.{IsPiece, a_pair, a_relator, an_inverse, Inserts, Leads as StepsLead}
use Rattle.mg_words.proofs.Chains.{inv-cons, IsOver-append, IsOver-left, IsOver-right, Same-trans, Same-sym, Same-before, Same-after}
use Rattle.mg_present.specs.Presentation.{Group}
use Rattle.mg_present.specs.Ask.{Inquiry}
use Rattle.mg_present.specs.Same.{Same, Lies, Holds}
use Rattle.mg_present.proofs.Sameness.{lies_in_none}
use Rattle.mg_rules.specs.Rule.{Rule, Rewrites, Leads, Descends, HaveCommon, IsNormal}
use Rattle.mg_rules.specs.Complete.{IsRuleOver, IsComplete, Refutes}
use Rattle.mg_rules.proofs.Parts.{all_numbered}
use Rattle.mg_rules.proofs.Chains.{descends_itself, descends_on, descends_equal, descends_between, common_below, common_turned}
use Rattle.mg_rules.proofs.Firsts.{normal_empty}
use Rattle.mg_rules.proofs.Confluence.{common_normal, common_on}

-- a word that descends to a word over the generators is over them, where the rules are
over_back : (m : ℕ) (rules : List Rule) → AllByRecursion (IsRuleOver m) rules → (u v : List ℤ) (words : List (List ℤ)) → Leads rules u words v → IsOver m v → IsOver m u
over_back m rules sides u v [] e h = subst (IsOver m) (sym e) h
over_back m rules sides u v (w ∷ words) lead h =
    let at = lead.0.at in
    let mid : IsOver m (at.before ++ (at.rule.right ++ at.behind)) = subst (IsOver m) lead.0.replaced (over_back m rules sides w v words lead.1 h) in
    let rest : IsOver m (at.rule.right ++ at.behind) = IsOver-right m at.before (at.rule.right ++ at.behind) mid in
    let side : IsRuleOver m at.rule = all_numbered (IsRuleOver m) rules at.number at.rule sides at.numbered in
    subst (IsOver m) (sym at.stands) (IsOver-append m at.before (at.rule.left ++ at.behind) (IsOver-left m at.before (at.rule.right ++ at.behind) mid)
    (IsOver-append m at.rule.left at.behind side.left (IsOver-right m at.rule.right at.behind rest)))

module _ (group : Group) (rules : List Rule) (complete : IsComplete group rules) where
  abbrev m : ℕ
  m = group.generators

  -- a word times its inverse descends to the empty word
  times_inverse : (w : List ℤ) → IsOver m w → Descends rules (w ++ inv w) []
  times_inverse [] h = descends_itself rules []
  times_inverse (x ∷ w) h =
      let split : x ∷ w ++ inv (x ∷ w) ≡ (x ∷ []) ++ ((w ++ inv w) ++ (neg_ℤ x ∷ [])) =
      ap (λ t. x ∷ w ++ t) (inv-cons x w) ∙ ap (λ t. x ∷ t) (sym (append_assoc w (inv w) (neg_ℤ x ∷ []))) in
      descends_on rules (x ∷ w ++ inv (x ∷ w)) ((x ∷ []) ++ ((w ++ inv w) ++ (neg_ℤ x ∷ []))) [] (descends_equal rules _ _ split)
      (descends_on rules ((x ∷ []) ++ ((w ++ inv w) ++ (neg_ℤ x ∷ []))) (x ∷ neg_ℤ x ∷ []) []
      (descends_between rules (x ∷ []) (neg_ℤ x ∷ []) (w ++ inv w) [] (times_inverse w h.1)) (complete.pairs x h.0))

  relator_down : (relator : List ℤ) → Contains group.relators relator → Descends rules relator []
  relator_down relator there =
      All-contains (λ w. Descends rules w []) group.relators relator (All-from_recursion (λ w. Descends rules w []) group.relators complete.relators) there

  -- a piece between two words, and these words alone, have a common descendant
  piece_between : (a b piece : List ℤ) → IsPiece m group.relators piece → HaveCommon rules (a ++ (piece ++ b)) (a ++ b)
  piece_between a b piece (a_pair x letter e) =
      common_below rules (a ++ (piece ++ b)) (a ++ b) (descends_between rules a b piece [] (subst (λ (t : List ℤ). Descends rules t []) (sym e) (complete.pairs x letter)))
  piece_between a b piece (a_relator there) =
      common_below rules (a ++ (piece ++ b)) (a ++ b) (descends_between rules a b piece [] (relator_down piece there))
  piece_between a b piece (an_inverse relator there e) =
      let down : Descends rules relator [] = relator_down relator there in
      let over : IsOver m relator = over_back m rules complete.over relator [] down.0 down.1 tt in
      let both : List ℤ = a ++ ((relator ++ inv relator) ++ b) in
      let to_none : Descends rules both (a ++ b) = descends_between rules a b (relator ++ inv relator) [] (times_inverse relator over) in
      let to_piece : Descends rules both (a ++ (piece ++ b)) =
      subst (λ (t : List ℤ). Descends rules both (a ++ (t ++ b))) (sym e)
      (descends_between rules a b (relator ++ inv relator) (inv relator) (descends_between rules [] (inv relator) relator [] down)) in
      common_on rules complete.decrease complete.join (a ++ (piece ++ b)) both (a ++ b)
      (common_turned rules both (a ++ (piece ++ b)) (common_below rules both (a ++ (piece ++ b)) to_piece)) (common_below rules both (a ++ b) to_none)

  inserted : (u v : List ℤ) → Inserts m group.relators u v → HaveCommon rules u v
  inserted u v i =
      subst (λ (t : List ℤ). HaveCommon rules t v) (sym i.without) (subst (λ (t : List ℤ). HaveCommon rules (i.before ++ i.after) t) (sym i.with_it)
      (common_turned rules (i.before ++ (i.piece ++ i.after)) (i.before ++ i.after) (piece_between i.before i.after i.piece i.is_piece)))

  stepped : (u v : List ℤ) (words : List (List ℤ)) → StepsLead m group.relators u words v → HaveCommon rules u v
  stepped u v [] e = common_below rules u v (descends_equal rules u v e)
  stepped u v (w ∷ words) h =
      common_on rules complete.decrease complete.join u w v
      (elim h.0 as (λ _. HaveCommon rules u w) [ inl i ↦ inserted u w i | inr i ↦ common_turned rules w u (inserted w u i) ])
      (stepped w v words h.1)

-- words that are the same in the group have equal normal descendants
pub same_normal : (group : Group) (rules : List Rule) → IsComplete group rules → (u v u' v' : List ℤ) → Same group u v
    → Descends rules u u' → Descends rules v v' → IsNormal rules u' → IsNormal rules v' → u' ≡ v'
same_normal group rules complete u v u' v' same h k normal normal' =
    common_normal rules complete.decrease complete.join u v u' v' (stepped group rules complete u v same.0 same.1) h k normal normal'

-- ---- the other way round

rewrites_same : (group : Group) (rules : List Rule) → AllByRecursion (λ rule. Same group rule.left rule.right) rules → (u v : List ℤ) → Rewrites rules u v → Same group u v
rewrites_same group rules sides u v r =
    let m : ℕ = group.generators in
    let at = r.at in
    let side : Same group at.rule.left at.rule.right = all_numbered (λ (rule : Rule). Same group rule.left rule.right) rules at.number at.rule sides at.numbered in
    subst (λ (t : List ℤ). Same group t v) (sym at.stands) (subst (λ (t : List ℤ). Same group (at.before ++ (at.rule.left ++ at.behind)) t) (sym r.replaced)
    (Same-before m group.relators at.before (at.rule.left ++ at.behind) (at.rule.right ++ at.behind) (Same-after m group.relators at.behind at.rule.left at.rule.right side)))

leads_same : (group : Group) (rules : List Rule) → AllByRecursion (λ rule. Same group rule.left rule.right) rules → (u v : List ℤ) (words : List (List ℤ)) → Leads rules u words v → Same group u v
leads_same group rules sides u v [] e = ([], e)
leads_same group rules sides u v (w ∷ words) h =
    Same-trans group.generators group.relators u w v (rewrites_same group rules sides u w h.0) (leads_same group rules sides w v words h.1)

-- where the two sides of each rule are the same in the group, words with one descendant are
pub normal_same : (group : Group) (rules : List Rule) → AllByRecursion (λ rule. Same group rule.left rule.right) rules → (u v w : List ℤ)
    → Descends rules u w → Descends rules v w → Same group u v
normal_same group rules sides u v w h k =
    Same-trans group.generators group.relators u w v (leads_same group rules sides u w h.0 h.1)
    (Same-sym group.generators group.relators v w (leads_same group rules sides v w k.0 k.1))

-- ---- what is refuted

pub refuted_does_not_lie : (ask : Inquiry) (goal : ℕ) (rules : List Rule) → Refutes ask goal rules → Lies ask.group ask.subgroup (slice_index_or ask.goals goal []) → ⊥
refuted_does_not_lie ask goal rules refutes lies =
    let w : List ℤ = slice_index_or ask.goals goal [] in
    let same : Same ask.group w [] = lies_in_none ask.group w (subst (λ (t : List (List ℤ)). Lies ask.group t w) refutes.alone lies) in
    let normal : IsNormal rules [] = normal_empty rules refutes.complete.decrease in
    refutes.some (same_normal ask.group rules refutes.complete w [] refutes.remains [] same refutes.descends (descends_itself rules []) refutes.normal normal)

pub refuted_does_not_hold : (ask : Inquiry) (goal : ℕ) (rules : List Rule) → Refutes ask goal rules → Holds ask → ⊥
refuted_does_not_hold ask goal rules refutes holds =
    refuted_does_not_lie ask goal rules refutes (All-get_or (Lies ask.group ask.subgroup) ask.goals goal [] refutes.there (All-from_recursion (Lies ask.group ask.subgroup) ask.goals holds))
