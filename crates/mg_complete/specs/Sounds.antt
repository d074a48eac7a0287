-- Turns are sound: what a log and a run ask of them.
use Rattle.std.proofs.Common.{◌≡◌, ℕ, ◌≤◌, List, refl, ap, sym, subst, lit≤, inl, inr}
use Rattle.std.proofs.Math.Nat.{not-suc-le_self}
use Rattle.std.specs.List.{AllByRecursion}
use Rattle.mg_core.specs.declared.entries.Facts.{Facts}
use Rattle.mg_turn.specs.declared.outcome.Limit.{Limit}
use Rattle.mg_turn.specs.declared.outcome.Limit.TheVariants.{Rules, Letters, Entries, Moves, Symbols}
use Rattle.mg_turn.specs.declared.outcome.TurnEnd.{TurnEnd}
use Rattle.mg_turn.specs.declared.outcome.TurnEnd.TheVariants.{More, Found, Closed, Idle, Stopped, Full}
use Rattle.mg_turn.specs.Turn.{Sound, EndFits, IsLimitOf, Settles, records_of}
use Rattle.mg_present.specs.Ask.{Inquiry}
use Rattle.mg_certs.specs.Claim.{Fact, Model, complete}
use Rattle.mg_certs.specs.Refuting.{PublishesNo}
use Rattle.mg_certs.specs.Validity.{recording, IsValid}
use Rattle.mg_rules.specs.Rule.{Rule}
use Rattle.mg_complete.specs.Completion.{Completion}
use Rattle.mg_complete.specs.Publishing.{PublishesYes, Publishes}
use Rattle.mg_complete.specs.Turn.{NoRoom, LongLog, CompletionEnd, searching}

yes_valid : (s : Completion) (records : List Fact) → PublishesYes s.ask s.rules s.reasons records → AllByRecursion IsValid records
yes_valid s records p = subst (AllByRecursion IsValid) (sym p.records_are) (p.accepted, tt)

yes_settles : (s : Completion) (records : List Fact) → PublishesYes s.ask s.rules s.reasons records → Settles recording s.ask records
yes_settles s records p = subst (Settles recording s.ask) (sym p.records_are) (refl, lit≤ tt, tt)

no_valid : (ask : Inquiry) (rules : List Rule) (records : List Fact) → PublishesNo ask (complete rules) records → AllByRecursion IsValid records
no_valid ask rules records p = subst (AllByRecursion IsValid) (sym p.records_are) (p.refutes, (p.refutes.complete, tt))

no_settles : (ask : Inquiry) (model : Model) (records : List Fact) → PublishesNo ask model records → Settles recording ask records
no_settles ask model records p = subst (Settles recording ask) (sym p.records_are) (refl, lit≤ tt, (refl, tt))

published_valid : (s : Completion) (records : List Fact) → Publishes s records → AllByRecursion IsValid records
published_valid s records (inl p) = yes_valid s records p
published_valid s records (inr p) = no_valid s.ask s.rules records p

published_settles : (s : Completion) (records : List Fact) → Publishes s records → Settles recording s.ask records
published_settles s records (inl p) = yes_settles s records p
published_settles s records (inr p) = no_settles s.ask (complete s.rules) records p

full_limit : (s : Completion) (what : Limit) (count : ℕ) → NoRoom s.ask.group s.rules s.reasons what count → IsLimitOf what count
full_limit s Rules count h = h.passes.0
full_limit s Letters count h = elim h.passes [ inl p ↦ inl p.0 | inr p ↦ inr p.0 ]
full_limit s Moves count h = h.passes.0
full_limit s Entries count h = absurd h.passes
full_limit s Symbols count h = absurd h.passes

log_limit : (s : Completion) (what : Limit) (count : ℕ) → LongLog s.ask s.rules s.reasons what count → IsLimitOf what count
log_limit s what count h = subst (λ (l : Limit). IsLimitOf l count) (sym h.what_is) h.count_is

end_valid : (search after : Completion) (units spent : ℕ) (end : TurnEnd Fact) → CompletionEnd search after units spent end → AllByRecursion IsValid (records_of end)
end_valid search after units spent More h = tt
end_valid search after units spent (Found records) h = published_valid after records h
end_valid search after units spent (Stopped seen) h = tt
end_valid search after units spent (Closed records) h = absurd h
end_valid search after units spent Idle h = absurd h
end_valid search after units spent (Full what count) h = tt

end_fits : (search after : Completion) (units : ℕ) (facts : Facts Fact) (spent : ℕ) (end : TurnEnd Fact) → after.ask ≡ search.ask → 1 ≤ units → CompletionEnd search after units spent end → EndFits recording searching search units facts spent end
end_fits search after units facts spent More same some h = (subst (λ n. 1 ≤ n) (sym h.0) some, λ _. h.0)
end_fits search after units facts spent (Found records) same some h = subst (λ (a : Inquiry). Settles recording a records) same (published_settles after records h)
end_fits search after units facts spent (Stopped seen) same some h = (h.2, h.3, λ wants. absurd (not-suc-le_self 0 wants))
end_fits search after units facts spent (Closed records) same some h = absurd h
end_fits search after units facts spent Idle same some h = absurd h
end_fits search after units facts spent (Full what count) same some (inl h) = full_limit after what count h
end_fits search after units facts spent (Full what count) same some (inr h) = log_limit after what count h

pub completion_sound : Sound recording searching
completion_sound search units facts outcome after opened some wanted turn = record {
  key = turn.ask;
  group = ap (λ (a : Inquiry). a.group) turn.ask;
  wants = λ n. refl;
  spent = turn.spent;
  within = turn.within;
  openness = turn.openness;
  end = end_fits search after units facts outcome.spent outcome.end turn.ask some turn.end;
  valid = end_valid search after units outcome.spent outcome.end turn.end;
}
