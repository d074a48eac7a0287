-- Turns are sound: what a log and a run ask of them.
use Rattle.std.proofs.Common.{◌≡◌, ℕ, zero, suc, ◌+◌, ◌≤◌, List, [], Some, length, refl, ap, sym, ◌∙◌, subst, lit≤, inl, inr, add-one}
use Rattle.std.proofs.Math.Nat.{not-suc-le_self, add-zero, add-suc}
use Rattle.std.specs.List.{AllByRecursion}
use Rattle.mg_core.specs.declared.entries.Facts.{Facts}
use Rattle.mg_turn.specs.declared.outcome.Limit.TheVariants.{Rules, Letters, Entries, Moves, Symbols}
use Rattle.mg_turn.specs.declared.outcome.TurnEnd.{TurnEnd}
use Rattle.mg_turn.specs.declared.outcome.TurnEnd.TheVariants.{More, Found, Closed, Idle, Stopped, Full}
use Rattle.mg_turn.specs.Turn.{Sound, EndFits, Settles, AreModels, records_of}
use Rattle.mg_present.specs.Ask.{Inquiry}
use Rattle.mg_certs.specs.Claim.{Fact}
use Rattle.mg_certs.specs.Validity.{recording, IsValid}
use Rattle.mg_nielsen.specs.Moves.{Nielsen, Steps, Peels, Reaches}
use Rattle.mg_nielsen.specs.Moves as moves
use Rattle.mg_nielsen.specs.Turn.{Publishes, NielsenEnd, searching}

-- units keep the Ask, and each is counted
move_ask : (before after : Nielsen) → moves.Moves before after → after.ask ≡ before.ask
move_ask before after (inl step) = ap (λ (s : Nielsen). s.ask) step.after_it
move_ask before after (inr peel) = ap (λ (s : Nielsen). s.ask) peel.after_it

move_spent : (before after : Nielsen) → moves.Moves before after → after.spent ≡ before.spent + 1
move_spent before after (inl step) = ap (λ (s : Nielsen). s.spent) step.after_it
move_spent before after (inr peel) = ap (λ (s : Nielsen). s.spent) peel.after_it

pub reached_ask : (n : ℕ) (first last : Nielsen) → Reaches n first last → last.ask ≡ first.ask
reached_ask zero first last h = ap (λ (s : Nielsen). s.ask) h
reached_ask (suc n) first last h = move_ask h.0 last h.2 ∙ reached_ask n first h.0 h.1

pub reached_spent : (n : ℕ) (first last : Nielsen) → Reaches n first last → last.spent ≡ first.spent + n
reached_spent zero first last h = ap (λ (s : Nielsen). s.spent) h ∙ sym (add-zero first.spent)
reached_spent (suc n) first last h =
    move_spent h.0 last h.2 ∙ (add-one h.0.spent ∙ (ap suc (reached_spent n first h.0 h.1) ∙ sym (add-suc first.spent n)))

published_valid : (s : Nielsen) (records : List Fact) → Publishes s records → AllByRecursion IsValid records
published_valid s records p = subst (AllByRecursion IsValid) (sym p.records_are) (p.accepted, tt)

published_settles : (s : Nielsen) (records : List Fact) → Publishes s records → Settles recording s.ask records
published_settles s records p = subst (Settles recording s.ask) (sym p.records_are) (refl, lit≤ tt, tt)

closed_fits : (records : List Fact) → records ≡ [] → (length records ≤ 1) × AreModels recording records
closed_fits records e = subst (λ (l : List Fact). (length l ≤ 1) × AreModels recording l) (sym e) (lit≤ tt, tt)

end_valid : (s : Nielsen) (units spent : ℕ) (end : TurnEnd Fact) → NielsenEnd s units spent end → AllByRecursion IsValid (records_of end)
end_valid s units spent More h = tt
end_valid s units spent (Found records) h = published_valid s records h.1
end_valid s units spent (Stopped seen) h = tt
end_valid s units spent (Closed records) h = subst (AllByRecursion IsValid) (sym h.0) tt
end_valid s units spent Idle h = absurd h
end_valid s units spent (Full what count) h = tt

end_fits : (search reached : Nielsen) (units : ℕ) (facts : Facts Fact) (spent : ℕ) (end : TurnEnd Fact) → reached.ask ≡ search.ask → 1 ≤ units → NielsenEnd reached units spent end → EndFits recording searching search units facts spent end
end_fits search reached units facts spent More same some h = (subst (λ n. 1 ≤ n) (sym h.0) some, λ _. h.0)
end_fits search reached units facts spent (Found records) same some h = subst (λ (a : Inquiry). Settles recording a records) same (published_settles reached records h.1)
end_fits search reached units facts spent (Stopped seen) same some h = (h.0, h.1 ∙ ap Some same, λ wants. absurd (not-suc-le_self 0 wants))
end_fits search reached units facts spent (Closed records) same some h = closed_fits records h.0
end_fits search reached units facts spent Idle same some h = absurd h
end_fits search reached units facts spent (Full Symbols count) same some h = h.0
end_fits search reached units facts spent (Full Letters count) same some h = inr h.0
end_fits search reached units facts spent (Full Rules count) same some h = absurd h
end_fits search reached units facts spent (Full Entries count) same some h = absurd h
end_fits search reached units facts spent (Full Moves count) same some h = absurd h

pub nielsen_sound : Sound recording searching
nielsen_sound search units facts outcome after opened some wanted turn =
    let same : turn.reached.ask ≡ search.ask = reached_ask outcome.spent search turn.reached turn.reaches in
    let asked : after.ask ≡ search.ask = ap (λ (s : Nielsen). s.ask) turn.after_it ∙ same in
    record {
      key = asked;
      group = ap (λ (a : Inquiry). a.group) asked;
      wants = λ n. refl;
      spent = ap (λ (s : Nielsen). s.spent) turn.after_it ∙ reached_spent outcome.spent search turn.reached turn.reaches;
      within = turn.within;
      openness = ap (λ (s : Nielsen). s.is_open) turn.after_it;
      end = end_fits search turn.reached units facts outcome.spent outcome.end same some turn.end;
      valid = end_valid turn.reached units outcome.spent outcome.end turn.end;
    }
