-- What turns of searches keep, how they end and what they publish, whatever the procedure.
use Rattle.std.proofs.Common.{◌≡◌, ℕ, true, List, refl, ap, sym, ◌∙◌, subst}
use Rattle.mg_core.specs.declared.entries.Facts.{Facts}
use Rattle.mg_turn.specs.declared.outcome.Limit.TheVariants as limit
use Rattle.mg_turn.specs.declared.outcome.Outcome.{Outcome}
use Rattle.mg_turn.specs.declared.outcome.TurnEnd.{TurnEnd}
use Rattle.mg_turn.specs.declared.outcome.TurnEnd.TheVariants.{More, Found, Closed, Idle, Stopped, Full}
use Rattle.mg_words.specs.declared.procedure.Procedure.{Procedure}
use Rattle.mg_words.specs.declared.procedure.Procedure.TheVariants as by
use Rattle.mg_present.specs.Ask.{Inquiry}
use Rattle.mg_certs.specs.Claim.{Fact}
use Rattle.mg_plain.specs.Plain.{Plain, PlainEnd, PlainTurn}
use Rattle.mg_plain.proofs.Turns.{turn_procedure, turn_searched, turn_publishes as plain_publishes}
use Rattle.mg_complete.specs.Completion.{Completion}
use Rattle.mg_complete.specs.Turn.{CompletionEnd, CompletionTurn}
use Rattle.mg_cosets.specs.Cosets.{Cosets, CosetsEnd, CosetsTurn}
use Rattle.mg_nielsen.specs.Moves.{Nielsen}
use Rattle.mg_nielsen.specs.Turn.{NielsenEnd, NielsenTurn}
use Rattle.mg_nielsen.proofs.Keeping.{turn_kept}
use Rattle.mg_recall.specs.Recall.{Recall, RecallEnd, RecallTurn, FindsFirst}
use Rattle.mg_search.specs.Search.{Search, plain, completing, enumerating, reducing, recalling, procedure_of, is_open, SearchTurn, IsAlike, InRow, HasPublished}
use Rattle.mg_search.specs.Ends.{MayEnd}

-- a turn of a search of some kind is one of a search
pub plain_turn : (search after : Plain) (units : ℕ) (facts : Facts Fact) (outcome : Outcome Fact) → PlainTurn search units outcome after → SearchTurn (plain search) units facts outcome (plain after)
plain_turn search after units facts outcome turn = (after, refl, turn)

pub completing_turn : (search after : Completion) (units : ℕ) (facts : Facts Fact) (outcome : Outcome Fact) → CompletionTurn search units outcome after → SearchTurn (completing search) units facts outcome (completing after)
completing_turn search after units facts outcome turn = (after, refl, turn)

pub enumerating_turn : (search after : Cosets) (units : ℕ) (facts : Facts Fact) (outcome : Outcome Fact) → CosetsTurn search units outcome after → SearchTurn (enumerating search) units facts outcome (enumerating after)
enumerating_turn search after units facts outcome turn = (after, refl, turn)

pub reducing_turn : (search after : Nielsen) (units : ℕ) (facts : Facts Fact) (outcome : Outcome Fact) → NielsenTurn search units outcome after → SearchTurn (reducing search) units facts outcome (reducing after)
reducing_turn search after units facts outcome turn = (after, refl, turn)

pub recalling_turn : (search after : Recall) (units : ℕ) (facts : Facts Fact) (outcome : Outcome Fact) → RecallTurn search facts outcome after → SearchTurn (recalling search) units facts outcome (recalling after)
recalling_turn search after units facts outcome turn = (after, refl, turn)

-- a turn keeps the kind
pub keeps_kind : (search : Search) (units : ℕ) (facts : Facts Fact) (outcome : Outcome Fact) (after : Search) → SearchTurn search units facts outcome after → IsAlike search after
keeps_kind (plain search) units facts outcome after turn = (turn.0, turn.1)
keeps_kind (completing search) units facts outcome after turn = (turn.0, turn.1)
keeps_kind (enumerating search) units facts outcome after turn = (turn.0, turn.1)
keeps_kind (reducing search) units facts outcome after turn = (turn.0, turn.1)
keeps_kind (recalling search) units facts outcome after turn = (turn.0, turn.1)

-- a turn keeps the procedure
pub keeps_procedure : (search : Search) (units : ℕ) (facts : Facts Fact) (outcome : Outcome Fact) (after : Search) → SearchTurn search units facts outcome after → procedure_of after ≡ procedure_of search
keeps_procedure (plain search) units facts outcome after turn = ap procedure_of turn.1 ∙ turn_procedure search units outcome turn.0 turn.2
keeps_procedure (completing search) units facts outcome after turn = ap procedure_of turn.1
keeps_procedure (enumerating search) units facts outcome after turn = ap procedure_of turn.1
keeps_procedure (reducing search) units facts outcome after turn = ap procedure_of turn.1
keeps_procedure (recalling search) units facts outcome after turn = ap procedure_of turn.1

-- a turn of a search that goes on keeps it in its row
pub keeps_row : (search : Search) (units : ℕ) (facts : Facts Fact) (outcome : Outcome Fact) (after : Search) → is_open search ≡ true → SearchTurn search units facts outcome after → InRow search → InRow after
keeps_row (plain search) units facts outcome after opened turn row = subst InRow (sym turn.1) (turn_searched search turn.0 units outcome opened turn.2 row)
keeps_row (completing search) units facts outcome after opened turn row = subst InRow (sym turn.1) turn.2.kept
keeps_row (enumerating search) units facts outcome after opened turn row = subst InRow (sym turn.1) (turn.2.kept row)
keeps_row (reducing search) units facts outcome after opened turn row = subst InRow (sym turn.1) (turn_kept search turn.0 units outcome row turn.2)
keeps_row (recalling search) units facts outcome after opened turn row = subst InRow (sym turn.1) tt

plain_may_end : (search : Plain) (units spent : ℕ) (end : TurnEnd Fact) → PlainEnd search units spent end → MayEnd end search.procedure
plain_may_end search units spent More h = tt
plain_may_end search units spent (Found records) h = tt
plain_may_end search units spent (Stopped seen) h = tt
plain_may_end search units spent (Closed records) h = absurd h
plain_may_end search units spent Idle h = absurd h
plain_may_end search units spent (Full what count) h = absurd h

completing_may_end : (search after : Completion) (units spent : ℕ) (end : TurnEnd Fact) → CompletionEnd search after units spent end → MayEnd end by.Rewrite
completing_may_end search after units spent More h = tt
completing_may_end search after units spent (Found records) h = tt
completing_may_end search after units spent (Stopped seen) h = tt
completing_may_end search after units spent (Closed records) h = absurd h
completing_may_end search after units spent Idle h = absurd h
completing_may_end search after units spent (Full what count) h = tt

enumerating_may_end : (search : Cosets) (units spent : ℕ) (end : TurnEnd Fact) → CosetsEnd search units spent end → MayEnd end by.Cosets
enumerating_may_end search units spent More h = tt
enumerating_may_end search units spent (Found records) h = tt
enumerating_may_end search units spent (Stopped seen) h = tt
enumerating_may_end search units spent (Closed records) h = tt
enumerating_may_end search units spent Idle h = absurd h
enumerating_may_end search units spent (Full what count) h = tt

reducing_may_end : (search : Nielsen) (units spent : ℕ) (end : TurnEnd Fact) → NielsenEnd search units spent end → MayEnd end by.Nielsen
reducing_may_end search units spent More h = tt
reducing_may_end search units spent (Found records) h = tt
reducing_may_end search units spent (Stopped seen) h = tt
reducing_may_end search units spent (Closed records) h = tt
reducing_may_end search units spent Idle h = absurd h
reducing_may_end search units spent (Full what count) h = tt

recalling_may_end : (ask : Inquiry) (facts : List Fact) (spent : ℕ) (end : TurnEnd Fact) → RecallEnd ask facts spent end → MayEnd end by.Recall
recalling_may_end ask facts spent More h = tt
recalling_may_end ask facts spent (Found records) h = tt
recalling_may_end ask facts spent (Stopped seen) h = tt
recalling_may_end ask facts spent (Closed records) h = absurd h
recalling_may_end ask facts spent Idle h = tt
recalling_may_end ask facts spent (Full what count) h = absurd h

-- a turn ends as one of the procedure may
pub turn_may_end : (search : Search) (units : ℕ) (facts : Facts Fact) (outcome : Outcome Fact) (after : Search) → SearchTurn search units facts outcome after → MayEnd outcome.end (procedure_of search)
turn_may_end (plain search) units facts outcome after turn = plain_may_end search units outcome.spent outcome.end turn.2.end
turn_may_end (completing search) units facts outcome after turn = completing_may_end search turn.0 units outcome.spent outcome.end turn.2.end
turn_may_end (enumerating search) units facts outcome after turn = enumerating_may_end turn.0 units outcome.spent outcome.end turn.2.end
turn_may_end (reducing search) units facts outcome after turn = reducing_may_end turn.2.reached units outcome.spent outcome.end turn.2.end
turn_may_end (recalling search) units facts outcome after turn = recalling_may_end search.ask facts.records outcome.spent outcome.end turn.2.end

reducing_publishes : (search after : Nielsen) (units : ℕ) (outcome : Outcome Fact) (records : List Fact) → NielsenTurn search units outcome after → outcome.end ≡ Found records → HasPublished (reducing after) records
reducing_publishes search after units outcome records turn e =
    let ended : NielsenEnd turn.reached units outcome.spent (Found records) = subst (NielsenEnd turn.reached units outcome.spent) e turn.end in
    subst (λ (s : Nielsen). HasPublished (reducing s) records) (sym turn.after_it) (ended.0, record { accepted = ended.1.accepted; symbols = ended.1.symbols; letters = ended.1.letters; records_are = ended.1.records_are })

recalling_publishes : (search after : Recall) (facts : Facts Fact) (outcome : Outcome Fact) (records : List Fact) → RecallTurn search facts outcome after → outcome.end ≡ Found records → HasPublished (recalling after) records
recalling_publishes search after facts outcome records turn e =
    let ended : FindsFirst search.ask facts.records outcome.spent records = subst (RecallEnd search.ask facts.records outcome.spent) e turn.end in
    subst (λ (s : Recall). HasPublished (recalling s) records) (sym turn.after_it) (ended.model, ended.of_group, ended.published)

-- a turn that finds publishes what the search has published then
pub turn_publishes : (search : Search) (units : ℕ) (facts : Facts Fact) (outcome : Outcome Fact) (after : Search) (records : List Fact) → is_open search ≡ true → SearchTurn search units facts outcome after → InRow search → outcome.end ≡ Found records → HasPublished after records
turn_publishes (plain search) units facts outcome after records opened turn row e =
    subst (λ (s : Search). HasPublished s records) (sym turn.1)
    (plain_publishes search turn.0 units outcome.spent records opened (subst (λ (end : TurnEnd Fact). PlainTurn search units (record { spent = outcome.spent; end = end }) turn.0) e turn.2) row)
turn_publishes (completing search) units facts outcome after records opened turn row e =
    subst (λ (s : Search). HasPublished s records) (sym turn.1) (subst (CompletionEnd search turn.0 units outcome.spent) e turn.2.end)
turn_publishes (enumerating search) units facts outcome after records opened turn row e =
    subst (λ (s : Search). HasPublished s records) (sym turn.1) (subst (CosetsEnd turn.0 units outcome.spent) e turn.2.end)
turn_publishes (reducing search) units facts outcome after records opened turn row e =
    subst (λ (s : Search). HasPublished s records) (sym turn.1) (reducing_publishes search turn.0 units outcome records turn.2 e)
turn_publishes (recalling search) units facts outcome after records opened turn row e =
    subst (λ (s : Search). HasPublished s records) (sym turn.1) (recalling_publishes search turn.0 facts outcome records turn.2 e)
