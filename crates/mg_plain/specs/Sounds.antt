-- Turns of plain searches are sound: what a log and a run ask of them.
use Rattle.std.proofs.Common.{ℕ, ◌+◌, ◌≤◌, List, refl, ap, sym, subst, le_refl, lit≤}
use Rattle.std.proofs.Math.Nat.{not-suc-le_self}
use Rattle.std.specs.List.{AllByRecursion}
use Rattle.mg_core.specs.declared.entries.Facts.{Facts}
use Rattle.mg_turn.specs.declared.outcome.TurnEnd.{TurnEnd}
use Rattle.mg_turn.specs.declared.outcome.TurnEnd.TheVariants.{More, Found, Closed, Idle, Stopped, Full}
use Rattle.mg_turn.specs.Turn.{Sound, EndFits, Settles, records_of}
use Rattle.mg_words.specs.declared.procedure.Procedure.{Procedure}
use Rattle.mg_words.specs.declared.procedure.Procedure.TheVariants.{Derive, Act, Residue, Rewrite, Cosets, Nielsen, Recall}
use Rattle.mg_present.specs.Ask.{Inquiry}
use Rattle.mg_certs.specs.Claim.{Fact, Model, action, residues}
use Rattle.mg_certs.specs.Refuting.{PublishesNo}
use Rattle.mg_certs.specs.Validity.{recording, IsValid, AcceptedModel}
use Rattle.mg_plain.specs.Plain.{Plain, Publishes, PlainEnd, searching}

-- NO and the model behind it are valid, and NO settles the Ask
no_valid : (ask : Inquiry) (model : Model) (records : List Fact) → PublishesNo ask model records → AcceptedModel ask.group model → AllByRecursion IsValid records
no_valid ask model records p of_group = subst (AllByRecursion IsValid) (sym p.records_are) (p.refutes, (of_group, tt))

no_settles : (ask : Inquiry) (model : Model) (records : List Fact) → PublishesNo ask model records → Settles recording ask records
no_settles ask model records p = subst (Settles recording ask) (sym p.records_are) (refl, lit≤ tt, (refl, tt))

published_valid : (procedure : Procedure) (ask : Inquiry) (n : ℕ) (records : List Fact) → Publishes procedure ask n records → AllByRecursion IsValid records
published_valid Derive ask n records p = subst (AllByRecursion IsValid) (sym p.3) (p.2, tt)
published_valid Act ask n records p = no_valid ask (action p.0) records p.2 p.2.refutes.is_action
published_valid Residue ask n records p = no_valid ask (residues p.0) records p.2 p.2.refutes.is_map
published_valid Rewrite ask n records p = absurd p
published_valid Cosets ask n records p = absurd p
published_valid Nielsen ask n records p = absurd p
published_valid Recall ask n records p = absurd p

published_settles : (procedure : Procedure) (ask : Inquiry) (n : ℕ) (records : List Fact) → Publishes procedure ask n records → Settles recording ask records
published_settles Derive ask n records p = subst (Settles recording ask) (sym p.3) (refl, lit≤ tt, tt)
published_settles Act ask n records p = no_settles ask (action p.0) records p.2
published_settles Residue ask n records p = no_settles ask (residues p.0) records p.2
published_settles Rewrite ask n records p = absurd p
published_settles Cosets ask n records p = absurd p
published_settles Nielsen ask n records p = absurd p
published_settles Recall ask n records p = absurd p

end_within : (search : Plain) (units spent : ℕ) (end : TurnEnd Fact) → PlainEnd search units spent end → spent ≤ units
end_within search units spent More h = subst (λ (n : ℕ). spent ≤ n) h.all (le_refl spent)
end_within search units spent (Found records) h = h.0.within
end_within search units spent (Stopped seen) h = h.0.within
end_within search units spent (Closed records) h = absurd h
end_within search units spent Idle h = absurd h
end_within search units spent (Full what count) h = absurd h

end_valid : (search : Plain) (units spent : ℕ) (end : TurnEnd Fact) → PlainEnd search units spent end → AllByRecursion IsValid (records_of end)
end_valid search units spent More h = tt
end_valid search units spent (Found records) h = published_valid search.procedure search.ask (search.cursor + spent) records h.1
end_valid search units spent (Stopped seen) h = tt
end_valid search units spent (Closed records) h = absurd h
end_valid search units spent Idle h = absurd h
end_valid search units spent (Full what count) h = absurd h

end_fits : (search : Plain) (units : ℕ) (facts : Facts Fact) (spent : ℕ) (end : TurnEnd Fact) → 1 ≤ units → PlainEnd search units spent end → EndFits recording searching search units facts spent end
end_fits search units facts spent More some h = (subst (λ n. 1 ≤ n) (sym h.all) some, λ _. h.all)
end_fits search units facts spent (Found records) some h = published_settles search.procedure search.ask (search.cursor + spent) records h.1
end_fits search units facts spent (Stopped seen) some h = (h.1, h.2, λ wants. absurd (not-suc-le_self 0 wants))
end_fits search units facts spent (Closed records) some h = absurd h
end_fits search units facts spent Idle some h = absurd h
end_fits search units facts spent (Full what count) some h = absurd h

pub plain_sound : Sound recording searching
plain_sound search units facts outcome after opened some wanted turn = record {
  key = ap (λ (s : Plain). s.ask) turn.after_it;
  group = ap (λ (s : Plain). s.ask.group) turn.after_it;
  wants = λ n. refl;
  spent = ap (λ (s : Plain). s.cursor) turn.after_it;
  within = end_within search units outcome.spent outcome.end turn.end;
  openness = ap (λ (s : Plain). s.is_open) turn.after_it;
  end = end_fits search units facts outcome.spent outcome.end some turn.end;
  valid = end_valid search units outcome.spent outcome.end turn.end;
}
