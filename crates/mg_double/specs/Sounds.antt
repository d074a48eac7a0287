-- Searches whose turns are sound.
use Rattle.std.proofs.Common.{◌≡◌, ℕ, ◌≤◌, nat_lt, Some, refl, ap, sym, ◌∙◌, subst, lit≤}
use Rattle.std.specs.List.{AllByRecursion}
use Rattle.mg_core.specs.Recording.{Recording}
use Rattle.mg_core.specs.declared.entries.Facts.{Facts}
use Rattle.mg_turn.specs.declared.outcome.TurnEnd.{TurnEnd}
use Rattle.mg_turn.specs.declared.outcome.TurnEnd.TheVariants.{More, Found, Closed, Idle, Stopped, Full}
use Rattle.mg_turn.specs.Turn.{Searching, Sound, EndFits, Settles, records_of}
use Rattle.mg_double.specs.Third.{Third, ThirdEnd, third, seen_as}

end_as : {R K G S T : Type 0} (recording : Recording R K G) (searching : Searching R K G T) (see : S → T) (search : S) (units : ℕ) (facts : Facts R) (spent : ℕ) (end : TurnEnd R) → EndFits recording searching (see search) units facts spent end → EndFits recording (seen_as see searching) search units facts spent end
end_as recording searching see search units facts spent More h = h
end_as recording searching see search units facts spent (Found records) h = h
end_as recording searching see search units facts spent (Closed records) h = h
end_as recording searching see search units facts spent Idle h = h
end_as recording searching see search units facts spent (Stopped seen) h = h
end_as recording searching see search units facts spent (Full what count) h = h

-- a search that is seen as a sound one is sound
pub sound_as : {R K G S T : Type 0} (recording : Recording R K G) (searching : Searching R K G T) (see : S → T) → Sound recording searching → Sound recording (seen_as see searching)
sound_as recording searching see sound search units facts outcome after is_open some wanted turn =
    let there = sound (see search) units facts outcome (see after) is_open some (record { few = wanted.few; of_group = wanted.of_group }) turn in
    record {
      key = there.key;
      group = there.group;
      wants = there.wants;
      spent = there.spent;
      within = there.within;
      openness = there.openness;
      end = end_as recording searching see search units facts outcome.spent outcome.end there.end;
      valid = there.valid;
    }

module _ {R K G : Type 0} (recording : Recording R K G) (verdict : K → R) (right : (key : K) → recording.valid (verdict key) × (recording.settles (verdict key) ≡ Some key)) where
  third_end : (search : Third K G) (units : ℕ) (facts : Facts R) (spent : ℕ) (end : TurnEnd R) → 1 ≤ units → ThirdEnd recording verdict search.key search.spent units spent end → EndFits recording (third recording verdict) search units facts spent end
  third_end search units facts spent More some h = (subst (λ n. 1 ≤ n) (sym h) some, λ _. h)
  third_end search units facts spent (Found records) some h = subst (Settles recording search.key) (sym h.1) ((right search.key).1, lit≤ tt, tt)
  third_end search units facts spent (Closed records) some h = absurd h
  third_end search units facts spent Idle some h = absurd h
  third_end search units facts spent (Stopped seen) some h = (h.1, h.2, λ _. h.0)
  third_end search units facts spent (Full what count) some h = absurd h

  third_valid : (search : Third K G) (units spent : ℕ) (end : TurnEnd R) → ThirdEnd recording verdict search.key search.spent units spent end → AllByRecursion recording.valid (records_of end)
  third_valid search units spent More h = tt
  third_valid search units spent (Found records) h = subst (AllByRecursion recording.valid) (sym h.1) ((right search.key).0, tt)
  third_valid search units spent (Closed records) h = absurd h
  third_valid search units spent Idle h = absurd h
  third_valid search units spent (Stopped seen) h = tt
  third_valid search units spent (Full what count) h = absurd h

  -- the search that finds at its third unit is sound
  pub third_is_sound : Sound recording (third recording verdict)
  third_is_sound search units facts outcome after is_open some wanted turn = record {
    key = ap (λ (s : Third K G). s.key) turn.after_is;
    group = ap (λ (s : Third K G). s.group) turn.after_is;
    wants = λ n. refl;
    spent = ap (λ (s : Third K G). s.spent) turn.after_is;
    within = turn.within;
    openness = ap (λ (s : Third K G). nat_lt s.spent 3) turn.after_is ∙ turn.openness;
    end = third_end search units facts outcome.spent outcome.end some turn.end;
    valid = third_valid search units outcome.spent outcome.end turn.end;
  }
