-- Turns of these searches are sound: what a log and a run ask of them.
use Rattle.std.proofs.Common.{◌≡◌, ℕ, ◌≤◌, List, Some, refl, ap, sym, subst, ◌∙◌, lit≤, length}
use Rattle.std.proofs.Math.Nat.{not-suc-le_self}
use Rattle.std.specs.List.{AllByRecursion}
use Rattle.mg_core.specs.declared.entries.Facts.{Facts}
use Rattle.mg_turn.specs.declared.bounds.TheConstants.{MOST_ENTRIES}
use Rattle.mg_turn.specs.declared.outcome.Limit.{Limit}
use Rattle.mg_turn.specs.declared.outcome.Limit.TheVariants.{Entries}
use Rattle.mg_turn.specs.declared.outcome.TurnEnd.{TurnEnd}
use Rattle.mg_turn.specs.declared.outcome.TurnEnd.TheVariants.{More, Found, Closed, Idle, Stopped, Full}
use Rattle.mg_turn.specs.Turn.{Sound, EndFits, Settles, IsLimitOf, AreModels, records_of}
use Rattle.mg_present.specs.Ask.{Inquiry}
use Rattle.mg_certs.specs.Claim.{Fact, Model, action}
use Rattle.mg_certs.specs.Refuting.{PublishesNo}
use Rattle.mg_certs.specs.Validity.{recording, IsValid, AcceptedModel}
use Rattle.mg_cosets.specs.Cosets.{Cosets, CosetsEnd, searching}

no_valid : (ask : Inquiry) (model : Model) (records : List Fact) → PublishesNo ask model records → AcceptedModel ask.group model → AllByRecursion IsValid records
no_valid ask model records p of_group = subst (AllByRecursion IsValid) (sym p.records_are) (p.refutes, (of_group, tt))

no_settles : (ask : Inquiry) (model : Model) (records : List Fact) → PublishesNo ask model records → Settles recording ask records
no_settles ask model records p = subst (Settles recording ask) (sym p.records_are) (refl, lit≤ tt, (refl, tt))

end_valid : (after : Cosets) (units spent : ℕ) (end : TurnEnd Fact) → CosetsEnd after units spent end → AllByRecursion IsValid (records_of end)
end_valid after units spent More h = tt
end_valid after units spent (Found records) h = no_valid after.ask (action h.0) records h.2 h.1.of_group
end_valid after units spent (Closed records) h = subst (AllByRecursion IsValid) (sym h.3) (h.1.of_group, tt)
end_valid after units spent (Full what count) h = tt
end_valid after units spent (Stopped seen) h = tt
end_valid after units spent Idle h = absurd h

full_limit : (what : Limit) (count : ℕ) → what ≡ Entries → count ≡ MOST_ENTRIES → IsLimitOf what count
full_limit what count e f = subst (λ w. IsLimitOf w count) (sym e) f

end_fits : (search after : Cosets) (units : ℕ) (facts : Facts Fact) (spent : ℕ) (end : TurnEnd Fact) → 1 ≤ units → after.ask ≡ search.ask → CosetsEnd after units spent end → EndFits recording searching search units facts spent end
end_fits search after units facts spent More some same h = (subst (λ n. 1 ≤ n) (sym h.0) some, λ _. h.0)
end_fits search after units facts spent (Found records) some same h = subst (λ ask. Settles recording ask records) same (no_settles after.ask (action h.0) records h.2)
end_fits search after units facts spent (Closed records) some same h = subst (λ (rs : List Fact). (length rs ≤ 1) × AreModels recording rs) (sym h.3) (lit≤ tt, (refl, tt))
end_fits search after units facts spent (Full what count) some same h = full_limit what count h.2 h.3
end_fits search after units facts spent (Stopped seen) some same h = (h.0, h.1 ∙ ap Some same, λ wants. absurd (not-suc-le_self 0 wants))
end_fits search after units facts spent Idle some same h = absurd h

pub cosets_sound : Sound recording searching
cosets_sound search units facts outcome after opened some wanted turn = record {
  key = turn.ask;
  group = ap (λ (ask : Inquiry). ask.group) turn.ask;
  wants = λ n. refl;
  spent = turn.spent;
  within = turn.within;
  openness = turn.openness;
  end = end_fits search after units facts outcome.spent outcome.end some turn.ask turn.end;
  valid = end_valid after units outcome.spent outcome.end turn.end;
}
