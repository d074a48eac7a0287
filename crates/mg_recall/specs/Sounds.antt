-- Turns of these searches are sound: what a log and a run ask of them.
use Rattle.std.proofs.Common.{◌≡◌, ℕ, ◌-◌, ◌≤◌, List, length, refl, ap, sym, subst, lit≤, arith}
use Rattle.std.specs.Prelude.{min, Some, slice_get}
use Rattle.std.proofs.lemmas.Option.{slice_get_within}
use Rattle.std.specs.List.{AllByRecursion}
use Rattle.mg_core.specs.declared.entries.Facts.{Facts}
use Rattle.mg_turn.specs.declared.outcome.TurnEnd.{TurnEnd}
use Rattle.mg_turn.specs.declared.outcome.TurnEnd.TheVariants.{More, Found, Closed, Idle, Stopped, Full}
use Rattle.mg_turn.specs.Turn.{Sound, EndFits, Settles, records_of}
use Rattle.mg_present.specs.Ask.{Inquiry}
use Rattle.mg_certs.specs.Claim.{Fact, Model}
use Rattle.mg_certs.specs.Refuting.{PublishesNo}
use Rattle.mg_certs.specs.Validity.{recording, IsValid, AcceptedModel}
use Rattle.mg_recall.specs.declared.recall.TheConstants.{MOST_MODELS}
use Rattle.mg_recall.specs.Recall.{Recall, RecallEnd, searching}

-- the place before one that is there
is_within : (facts : List Fact) (spent : ℕ) (fact : Fact) → 1 ≤ spent → slice_get facts (spent - 1) ≡ Some fact → spent ≤ length facts
is_within facts spent fact some there = omega (arith, some, slice_get_within facts (spent - 1) fact there)

wants_some : (units : ℕ) → 1 ≤ units → 1 ≤ min units MOST_MODELS
wants_some units some = omega (arith, some)

-- NO and the model behind it are valid, and NO settles the Ask
no_valid : (ask : Inquiry) (model : Model) (records : List Fact) → PublishesNo ask model records → AcceptedModel ask.group model → AllByRecursion IsValid records
no_valid ask model records p of_group = subst (AllByRecursion IsValid) (sym p.records_are) (p.refutes, (of_group, tt))

no_settles : (ask : Inquiry) (model : Model) (records : List Fact) → PublishesNo ask model records → Settles recording ask records
no_settles ask model records p = subst (Settles recording ask) (sym p.records_are) (refl, lit≤ tt, (refl, tt))

-- no more units are spent than models were handed in
spent_handed : (ask : Inquiry) (facts : List Fact) (spent : ℕ) (end : TurnEnd Fact) → RecallEnd ask facts spent end → spent ≤ length facts
spent_handed ask facts spent More h = omega (arith, h.1)
spent_handed ask facts spent (Found records) h = is_within facts spent _ h.some h.there
spent_handed ask facts spent Idle h = omega (arith, h.0)
spent_handed ask facts spent (Stopped seen) h = omega (arith, h.0)
spent_handed ask facts spent (Closed records) h = absurd h
spent_handed ask facts spent (Full what count) h = absurd h

end_fits : (search : Recall) (units : ℕ) (facts : Facts Fact) (spent : ℕ) (end : TurnEnd Fact) → 1 ≤ units → RecallEnd search.ask facts.records spent end → EndFits recording searching search units facts spent end
end_fits search units facts spent More some h = (h.0, λ none. let wants = wants_some units some in absurd (omega (arith, none, wants)))
end_fits search units facts spent (Found records) some h = no_settles search.ask h.model records h.published
end_fits search units facts spent Idle some h = (h.0, wants_some units some, h.1)
end_fits search units facts spent (Stopped seen) some h = (h.1, h.2, λ _. h.0)
end_fits search units facts spent (Closed records) some h = absurd h
end_fits search units facts spent (Full what count) some h = absurd h

end_valid : (ask : Inquiry) (facts : List Fact) (spent : ℕ) (end : TurnEnd Fact) → RecallEnd ask facts spent end → AllByRecursion IsValid (records_of end)
end_valid ask facts spent More h = tt
end_valid ask facts spent (Found records) h = no_valid ask h.model records h.published h.of_group
end_valid ask facts spent Idle h = tt
end_valid ask facts spent (Stopped seen) h = tt
end_valid ask facts spent (Closed records) h = absurd h
end_valid ask facts spent (Full what count) h = absurd h

pub recall_sound : Sound recording searching
recall_sound search units facts outcome after opened some wanted turn =
    let handed = spent_handed search.ask facts.records outcome.spent outcome.end turn.end in
    let few = wanted.few in
    record {
      key = ap (λ (s : Recall). s.ask) turn.after_it;
      group = ap (λ (s : Recall). s.ask.group) turn.after_it;
      wants = λ n. refl;
      spent = ap (λ (s : Recall). s.read) turn.after_it;
      within = omega (arith, handed, few);
      openness = ap (λ (s : Recall). s.is_open) turn.after_it;
      end = end_fits search units facts outcome.spent outcome.end some turn.end;
      valid = end_valid search.ask facts.records outcome.spent outcome.end turn.end;
    }
