-- What a turn leaves is what a turn may leave.
use Rattle.std.proofs.Common.{◌≡◌, ℕ, ◌+◌, ◌≤◌, Some, sym, ap, subst, ◌∙◌}
use Rattle.mg_turn.specs.declared.outcome.Outcome.{Outcome}
use Rattle.mg_turn.specs.Turn.{goes_on}
use Rattle.mg_present.specs.Ask.{Inquiry}
use Rattle.mg_certs.specs.Claim.{Fact}
use Rattle.mg_tables.specs.Enumeration.{Enumerated}
use Rattle.mg_tables.specs.Enumerating.{Enumeration}
use Rattle.mg_cosets.specs.Cosets.{Cosets, CosetsEnd, CosetsTurn, IsHeld}

pub turn_made : (search after : Cosets) (units : ℕ) (outcome : Outcome Fact) (old e : Enumeration) → IsHeld search.ask search.spent (Some old) → e.group ≡ old.group → e.subgroup ≡ old.subgroup
    → e.units ≡ old.units + outcome.spent → outcome.spent ≤ units → Enumerated e.group e.subgroup e.units e.table → after.ask ≡ search.ask → after.table ≡ e.table → after.spent ≡ e.units
    → after.is_open ≡ goes_on outcome.end → CosetsEnd after units outcome.spent outcome.end → CosetsTurn search units outcome after
turn_made search after units outcome old e held group subgroup made within enumerated ask table spent goes end = record {
  ask = ask;
  spent = spent ∙ made ∙ ap (λ n. n + outcome.spent) held.2;
  within = within;
  openness = goes;
  end = end;
  kept = λ before.
      let g : e.group ≡ after.ask.group = group ∙ held.0 ∙ sym (ap (λ (a : Inquiry). a.group) ask) in
      let s : e.subgroup ≡ after.ask.subgroup = subgroup ∙ held.1 ∙ sym (ap (λ (a : Inquiry). a.subgroup) ask) in
      let h : Enumerated after.ask.group e.subgroup e.units e.table = subst (λ x. Enumerated x e.subgroup e.units e.table) g enumerated in
      let k : Enumerated after.ask.group after.ask.subgroup e.units e.table = subst (λ x. Enumerated after.ask.group x e.units e.table) s h in
      let n : Enumerated after.ask.group after.ask.subgroup after.spent e.table = subst (λ x. Enumerated after.ask.group after.ask.subgroup x e.table) (sym spent) k in
      subst (λ t. Enumerated after.ask.group after.ask.subgroup after.spent t) (sym table) n;
}
