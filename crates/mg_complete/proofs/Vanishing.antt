-- Goals that come to nothing, and goals that don't.
use Rattle.std.proofs.Common.{◌≡◌, ◌≢◌, ℕ, ◌+◌, ◌<◌, ◌≤◌, ℤ, List, [], ◌∷◌, length, refl, sym, ap, subst, ◌∙◌, inl, inr, arith}
use Rattle.std.specs.Prelude.{Some, slice_get, slice_index_or}
use Rattle.std.proofs.lemmas.Option.{get_or_from_slice_get, slice_get_within}
use Rattle.mg_present.specs.Ask.{Inquiry}
use Rattle.mg_rules.specs.Rule.{Rule, Descends}
use Rattle.mg_rules.specs.First.{LeadsFirst, IsFirstDescendant}
use Rattle.mg_complete.specs.Turn.{Remains}
use Rattle.mg_complete.specs.declared.work.Work.{Work}
use Rattle.mg_complete.specs.Working.{AllVanish, SameWork, IsSystem}
use Rattle.mg_complete.specs.declared.system.System.{System}
use Rattle.std.proofs.lemmas.Bool.{cases_lt}

leads_down : (rules : List Rule) (u v : List ℤ) (words : List (List ℤ)) → LeadsFirst rules u words v → Descends rules u v
leads_down rules u v [] e = ([], e)
leads_down rules u v (w ∷ words) h =
    let rest = leads_down rules w v words h.1 in (w ∷ rest.0, (record { at = h.0.at; replaced = h.0.replaced }, rest.1))

pub first_descends : (rules : List Rule) (u v : List ℤ) → IsFirstDescendant rules u v → Descends rules u v
first_descends rules u v h = leads_down rules u v h.words h.leads

no_length : (w : List ℤ) → length w ≡ 0 → w ≡ []
no_length [] h = refl
no_length (x ∷ w) h = absurd (omega arith)

pub goal_vanishes : (rules : List Rule) (goals : List (List ℤ)) (place : ℕ) (goal w v : List ℤ) → slice_get goals place ≡ Some goal → IsFirstDescendant rules goal v → w ≡ v → length w ≡ 0
    → (d : List ℤ) → IsFirstDescendant rules (slice_index_or goals place d) []
goal_vanishes rules goals place goal w v there first same none d =
    let empty : v ≡ [] = sym same ∙ no_length w none in
    subst (λ (t : List ℤ). IsFirstDescendant rules t []) (sym (get_or_from_slice_get goals place goal d there)) (subst (IsFirstDescendant rules goal) empty first)

pub goal_remains : (ask : Inquiry) (rules : List Rule) (place : ℕ) (goal w v : List ℤ) → slice_get ask.goals place ≡ Some goal → IsFirstDescendant rules goal v → w ≡ v → length w ≢ 0
    → Remains ask rules
goal_remains ask rules place goal w v there first same some = record {
  goal = goal;
  asked = (place, slice_get_within ask.goals place goal there, get_or_from_slice_get ask.goals place goal goal there);
  rest = v;
  descends = first_descends rules goal v first;
  normal = first.normal;
  some = λ e. some (ap length (same ∙ e));
}

pub all_vanish : (w : Work) (count place : ℕ) → count ≡ length w.ask.goals → count ≤ place → ((k : ℕ) (d : List ℤ) → k < place → IsFirstDescendant w.system.rules (slice_index_or w.ask.goals k d) [])
    → AllVanish w
all_vanish w count place e past each goal there =
    let within = there.1 in subst (λ (t : List ℤ). IsFirstDescendant w.system.rules t []) there.2 (each there.0 goal (omega (arith, within, e, past)))

pub same_on : (a b c : Work) → SameWork a b → SameWork b c → SameWork a c
same_on a b c h k = record { ask = k.ask ∙ h.ask; system = k.system ∙ h.system; last = k.last ∙ h.last; spent = k.spent ∙ h.spent }

pub count_on : (b c : Work) (count : ℕ) → SameWork b c → count ≡ length b.ask.goals → count ≡ length c.ask.goals
count_on b c count k e = e ∙ ap (λ (a : Inquiry). length a.goals) (sym k.ask)

pub system_on : (b c : Work) → SameWork b c → IsSystem b.ask.group b.system → IsSystem c.ask.group c.system
system_on b c k s = subst (λ (a : Inquiry). IsSystem a.group c.system) (sym k.ask) (subst (IsSystem b.ask.group) (sym k.system) s)

pub vanish_on : (a b : Work) (place : ℕ) → SameWork a b → ((k : ℕ) (d : List ℤ) → k < place → IsFirstDescendant a.system.rules (slice_index_or a.ask.goals k d) [])
    → ((d : List ℤ) → IsFirstDescendant b.system.rules (slice_index_or b.ask.goals place d) []) → (k : ℕ) (d : List ℤ) → k < place + 1 → IsFirstDescendant a.system.rules (slice_index_or a.ask.goals k d) []
vanish_on a b place h each here k d less =
    elim (cases_lt k place) as (λ _. IsFirstDescendant a.system.rules (slice_index_or a.ask.goals k d) []) [
      | inl before ↦ each k d before
      | inr past ↦ let same : place ≡ k = omega arith in subst (λ n. IsFirstDescendant a.system.rules (slice_index_or a.ask.goals n d) []) same
          (subst (λ (q : Inquiry). IsFirstDescendant a.system.rules (slice_index_or q.goals place d) []) h.ask (subst (λ (s : System). IsFirstDescendant s.rules (slice_index_or b.ask.goals place d) []) h.system (here d)))
    ]
