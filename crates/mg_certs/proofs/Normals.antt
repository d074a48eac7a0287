-- Whether a complete system refutes a goal is seen at its first descendant.
use Rattle.std.proofs.Common.{◌≡◌, ◌≢◌, ℕ, ◌<◌, ◌↔◌, ℤ, List, [], ◌∷◌, length, refl, sym, ap, subst, ◌∙◌, arith}
use Rattle.std.specs.Prelude.{slice_get, slice_index_or, Some}
use Rattle.std.proofs.lemmas.Option.{get_or_from_slice_get}
use Rattle.mg_words.proofs.Chains.{Same-refl}
use Rattle.mg_present.specs.Ask.{Inquiry}
use Rattle.mg_rules.specs.Rule.{Rule, Leads, Descends}
use Rattle.mg_rules.specs.First.{LeadsFirst, IsFirstDescendant}
use Rattle.mg_rules.specs.Complete.{IsComplete, Refutes}
use Rattle.mg_rules.proofs.Groups.{same_normal}

leads_down : (rules : List Rule) (u v : List ℤ) (words : List (List ℤ)) → LeadsFirst rules u words v → Leads rules u words v
leads_down rules u v [] e = e
leads_down rules u v (w ∷ words) h = (record { at = h.0.at; replaced = h.0.replaced }, leads_down rules w v words h.1)

some_letters : (u : List ℤ) → u ≢ [] → 0 < length u
some_letters [] h = absurd (h refl)
some_letters (x ∷ u) h = omega arith

pub refuted_by_letters : (ask : Inquiry) (goal : ℕ) (rules : List Rule) (w v : List ℤ) → ask.subgroup ≡ [] → goal < length ask.goals → slice_get ask.goals goal ≡ Some w
    → IsComplete ask.group rules → IsFirstDescendant rules w v → (0 < length v) ↔ Refutes ask goal rules
refuted_by_letters ask goal rules w v alone within there complete h =
    let is : w ≡ slice_index_or ask.goals goal [] = sym (get_or_from_slice_get ask.goals goal w [] there) in
    let down : Descends rules w v = (h.words, leads_down rules w v h.words h.leads) in (
      λ some. record {
        complete = complete;
        alone = alone;
        there = within;
        remains = v;
        descends = subst (λ (t : List ℤ). Descends rules t v) is down;
        normal = h.normal;
        some = λ e. let none : length v ≡ 0 = ap length e in omega arith;
      },
      λ r.
          let same : r.remains ≡ v = same_normal ask.group rules complete w w r.remains v (Same-refl ask.group.generators ask.group.relators w) (subst (λ (t : List ℤ). Descends rules t r.remains) (sym is) r.descends) down r.normal h.normal in
          some_letters v (λ e. r.some (same ∙ e)),
    )
