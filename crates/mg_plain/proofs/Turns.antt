-- What turns of plain searches pass and publish.
use Rattle.std.proofs.Common.{◌≡◌, ℕ, ◌+◌, ◌-◌, Bool, true, false, List, refl, ap, sym, ◌∙◌, subst, arith, inl, inr}
use Rattle.std.proofs.lemmas.Bool.{cases_lt}
use Rattle.mg_turn.specs.declared.outcome.Outcome.{Outcome}
use Rattle.mg_turn.specs.declared.outcome.TurnEnd.{TurnEnd}
use Rattle.mg_turn.specs.declared.outcome.TurnEnd.TheVariants.{More, Found, Closed, Idle, Stopped, Full}
use Rattle.mg_turn.specs.Turn.{goes_on}
use Rattle.mg_words.specs.declared.procedure.Procedure.{Procedure}
use Rattle.mg_numbers.specs.Plain.{NoneAmong, First}
use Rattle.mg_present.specs.Ask.{Inquiry}
use Rattle.mg_certs.specs.Claim.{Fact}
use Rattle.mg_plain.specs.Plain.{Plain, AcceptedBy, PlainEnd, PlainTurn, IsStarted, IsSearched, HasPublished}

-- a turn keeps the procedure
pub turn_procedure : (search : Plain) (units : ℕ) (outcome : Outcome Fact) (after : Plain) → PlainTurn search units outcome after → after.procedure ≡ search.procedure
turn_procedure search units outcome after turn = ap (λ (s : Plain). s.procedure) turn.after_it

pub started_searched : (procedure : Procedure) (ask : Inquiry) (search : Plain) → IsStarted procedure ask search → IsSearched search
started_searched procedure ask search started opened k low high holds =
    let start : search.cursor ≡ 0 = ap (λ (s : Plain). s.cursor) started.search_is in absurd (omega arith)

none_joined : (P : ℕ → Type 0) (low mid high : ℕ) → NoneAmong P low mid → NoneAmong P mid high → NoneAmong P low high
none_joined P low mid high first second k above below holds =
    elim (cases_lt mid k) [ inl later ↦ second k later below holds | inr earlier ↦ first k above earlier holds ]

not_both : (b : Bool) → b ≡ true → b ≡ false → ⊥
not_both b e f = let g : true ≡ false = sym e ∙ f in cc g

-- a turn after which the search goes on passes over no accepted number
end_passes : (search : Plain) (units spent : ℕ) (end : TurnEnd Fact) → PlainEnd search units spent end → goes_on end ≡ true → NoneAmong (AcceptedBy search.procedure search.ask) search.cursor (search.cursor + spent)
end_passes search units spent More h on = h.none
end_passes search units spent (Stopped seen) h on = h.0.none
end_passes search units spent (Found records) h on = absurd (not_both false on refl)
end_passes search units spent (Closed records) h on = absurd h
end_passes search units spent Idle h on = absurd h
end_passes search units spent (Full what count) h on = absurd h

pub turn_searched : (search after : Plain) (units : ℕ) (outcome : Outcome Fact) → search.is_open ≡ true → PlainTurn search units outcome after → IsSearched search → IsSearched after
turn_searched search after units outcome opened turn searched =
    subst IsSearched (sym turn.after_it)
    (λ on. none_joined (AcceptedBy search.procedure search.ask) 0 search.cursor (search.cursor + outcome.spent) (searched opened) (end_passes search units outcome.spent outcome.end turn.end on))

-- a turn that finds stands at the first accepted number
found_first : (search : Plain) (units spent : ℕ) (records : List Fact) → PlainEnd search units spent (Found records) → search.is_open ≡ true → IsSearched search → First (AcceptedBy search.procedure search.ask) (search.cursor + spent)
found_first search units spent records h opened searched =
    let some = h.0.some in
    record {
      from = omega arith;
      holds = h.0.holds;
      least = λ k low high holds. none_joined (AcceptedBy search.procedure search.ask) 0 search.cursor (search.cursor + spent - 1) (searched opened) h.0.none_before k (omega arith) (omega arith) holds;
    }

pub turn_publishes : (search after : Plain) (units spent : ℕ) (records : List Fact) → search.is_open ≡ true → PlainTurn search units (record { spent = spent; end = Found records }) after → IsSearched search → HasPublished after records
turn_publishes search after units spent records opened turn searched =
    subst (λ (s : Plain). HasPublished s records) (sym turn.after_it) (found_first search units spent records turn.end opened searched, turn.end.1)
