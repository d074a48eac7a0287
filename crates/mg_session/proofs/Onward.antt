-- Further runs come to an end, since each spends a unit.
use Rattle.std.proofs.Common.{◌≡◌, ℕ, zero, suc, ◌+◌, ◌-◌, ◌<◌, ◌≤◌, ◌⊎◌, inl, inr, Bool, true, false, cond, List, [], ◌∷◌, ◌++◌, map, take, set, refl, ap, sym, ◌∙◌, subst, arith, append-nil}
use Rattle.std.specs.Prelude.{Some, slice_get}
use Rattle.std.specs.List.{AllByRecursion}
use Rattle.mg_core.specs.declared.entries.Entry.{Entry}
use Rattle.mg_core.specs.declared.entries.Facts.{Facts}
use Rattle.mg_core.specs.Log.{facts_of, IsFact, Settled, ModelsFrom, ModelsAbove, Handed}
use Rattle.mg_core.proofs.Logs.{facts_of-append}
use Rattle.mg_turn.specs.declared.outcome.Outcome.{Outcome}
use Rattle.mg_turn.specs.declared.outcome.TurnEnd.{TurnEnd}
use Rattle.mg_turn.specs.declared.outcome.TurnEnd.TheVariants.{More, Found, Closed, Idle, Stopped, Full}
use Rattle.mg_turn.specs.Turn.{records_of, is_stopped}
use Rattle.mg_workers.specs.Run.{Row, Running, Begins, Event, Leads, Finished, entry_of, row_after, end_after, leaves_at}
use Rattle.mg_workers.specs.Rows.{EachPair, total_spent}
use Rattle.mg_workers.proofs.Pairs.{all_at}
use Rattle.mg_workers.proofs.Events.{event_sound}
use Rattle.mg_present.specs.Ask.{Inquiry}
use Rattle.mg_certs.specs.Claim.{Fact}
use Rattle.mg_certs.specs.Validity.{recording, key_of}
use Rattle.mg_recall.specs.Recall.{RecallEnd}
use Rattle.mg_search.specs.Search.{Search, plain, completing, enumerating, reducing, recalling, searching, ask_of, models_wanted, Reads, SearchTurn}
use Rattle.mg_search.specs.Sounds.{sound}
use Rattle.mg_session.specs.State.{State, SearchState, Params, row_taken}
use Rattle.mg_session.specs.Run.{IsRow, Rounds, Idles, SomeIdles, after_rows}
use Rattle.mg_session.specs.StateOk.{StandsBeside, StateOk}
use Rattle.mg_session.proofs.Events.{not_both}
use Rattle.mg_session.proofs.Rounds.{RanTo, rounds_run}
use Rattle.mg_names.specs.Plan.{Plan}

-- models of the beginning are there later
some_later : (above n : ℕ) (facts more : List Fact) (ask : Inquiry) (first : ℕ × Fact) (rest : List (ℕ × Fact)) → ModelsFrom recording.model_of ask.group above n facts (first ∷ rest) → ModelsFrom recording.model_of ask.group above n (facts ++ more) [] → ⊥
some_later above n [] more ask first rest h g = absurd (cc h)
some_later above n (r ∷ facts) more ask first rest (inl h) (inl g) = absurd (cc (g.3))
some_later above n (r ∷ facts) more ask first rest (inl h) (inr (inl low, g)) = absurd (omega (arith, h.0))
some_later above n (r ∷ facts) more ask first rest (inl h) (inr (inr other, g)) = other h.1
some_later above n (r ∷ facts) more ask first rest (inr h) (inl g) = absurd (cc (g.3))
some_later above n (r ∷ facts) more ask first rest (inr h) (inr g) = some_later above (n + 1) facts more ask first rest h.1 g.1

none_of_none : (most : ℕ) (models : List (ℕ × Fact)) → 1 ≤ most → map (λ (f : ℕ × Fact). f.1) (take most models) ≡ [] → models ≡ []
none_of_none zero models some e = absurd (omega arith)
none_of_none (suc most) [] some e = refl
none_of_none (suc most) (model ∷ models) some e = absurd (cc e)

-- one who waits beside a model of the beginning is handed some
is_handed : (begin seen : List (Entry Fact)) (ask : Inquiry) (read most : ℕ) (first : ℕ × Fact) (rest : List (ℕ × Fact)) (facts : Facts Fact) → Begins begin seen → 1 ≤ most → ModelsAbove recording.model_of begin ask.group read (first ∷ rest) → Handed recording.model_of seen ask.group read most facts → facts.records ≡ [] → ⊥
is_handed begin seen ask read most first rest facts begins some unread handed e =
    let none : handed.models ≡ [] = none_of_none most handed.models some (sym handed.records_are ∙ e) in
    let longer : facts_of seen ≡ facts_of begin ++ facts_of begins.0 = ap (λ l. facts_of l) begins.1 ∙ facts_of-append begin begins.0 in
    some_later read 1 (facts_of begin) (facts_of begins.0) ask first rest unread
    (subst (λ (found : List (ℕ × Fact)). ModelsFrom recording.model_of ask.group read 1 (facts_of begin ++ facts_of begins.0) found) none (subst (λ (fs : List Fact). ModelsFrom recording.model_of ask.group read 1 fs handed.models) longer handed.are_models))

wants_some : (search : Search) (units : ℕ) → Reads search → 1 ≤ units → 1 ≤ models_wanted search units
wants_some (plain search) units reads some = absurd reads
wants_some (completing search) units reads some = absurd reads
wants_some (enumerating search) units reads some = absurd reads
wants_some (reducing search) units reads some = absurd reads
wants_some (recalling search) units reads some = omega arith

-- a turn that is handed a model spends a unit or is stopped
abbrev SpendsOrStops : Outcome Fact → Type 0
SpendsOrStops outcome = (1 ≤ outcome.spent) ⊎ ((outcome.spent ≡ 0) × (is_stopped outcome.end ≡ true))

recall_spends : (ask : Inquiry) (facts : List Fact) (spent : ℕ) (end : TurnEnd Fact) → RecallEnd ask facts spent end → (facts ≡ [] → ⊥) → (1 ≤ spent) ⊎ ((spent ≡ 0) × (is_stopped end ≡ true))
recall_spends ask facts spent More h some = inl h.0
recall_spends ask facts spent (Found records) h some = inl h.some
recall_spends ask facts spent Idle h some = absurd (some h.1)
recall_spends ask facts spent (Stopped seen) h some = inr (h.0, refl)
recall_spends ask facts spent (Closed records) h some = absurd h
recall_spends ask facts spent (Full what count) h some = absurd h

spends : (search : Search) (units : ℕ) (facts : Facts Fact) (outcome : Outcome Fact) (after : Search) → Reads search → SearchTurn search units facts outcome after → (facts.records ≡ [] → ⊥) → SpendsOrStops outcome
spends (plain search) units facts outcome after reads turn some = absurd reads
spends (completing search) units facts outcome after reads turn some = absurd reads
spends (enumerating search) units facts outcome after reads turn some = absurd reads
spends (reducing search) units facts outcome after reads turn some = absurd reads
spends (recalling search) units facts outcome after reads turn some = recall_spends search.ask facts.records outcome.spent outcome.end turn.2.end some

reads_on : (search : Search) (units : ℕ) (facts : Facts Fact) (outcome : Outcome Fact) (after : Search) → Reads search → SearchTurn search units facts outcome after → Reads after
reads_on (plain search) units facts outcome after reads turn = absurd reads
reads_on (completing search) units facts outcome after reads turn = absurd reads
reads_on (enumerating search) units facts outcome after reads turn = absurd reads
reads_on (reducing search) units facts outcome after reads turn = absurd reads
reads_on (recalling search) units facts outcome after reads turn = subst Reads (sym turn.1) tt

stopped_stays : (end : TurnEnd Fact) → is_stopped end ≡ true → leaves_at (end_after false end) ≡ false
stopped_stays More e = refl
stopped_stays (Found records) e = absurd (cc e)
stopped_stays (Closed records) e = absurd (cc e)
stopped_stays Idle e = absurd (cc e)
stopped_stays (Stopped seen) e = refl
stopped_stays (Full what count) e = absurd (cc e)

stopped_brings : (end : TurnEnd Fact) → is_stopped end ≡ true → records_of end ≡ []
stopped_brings More e = refl
stopped_brings (Found records) e = absurd (cc e)
stopped_brings (Closed records) e = absurd (cc e)
stopped_brings Idle e = refl
stopped_brings (Stopped seen) e = refl
stopped_brings (Full what count) e = absurd (cc e)

fact_same : (a b : List (Entry Fact)) (n : ℕ) (r : Fact) → facts_of a ≡ facts_of b → IsFact a n r → IsFact b n r
fact_same a b n r e fact = record { from_one = fact.from_one; there = subst (λ (fs : List Fact). slice_get fs (n - 1) ≡ Some r) e fact.there }

settled_same : (a b : List (Entry Fact)) (ask : Inquiry) → facts_of a ≡ facts_of b → Settled key_of a ask → Settled key_of b ask
settled_same a b ask e s = (s.0, s.1, record { fact = fact_same a b s.0 s.1 e s.2.fact; verdict = s.2.verdict; first = λ m q low other. s.2.first m q low (fact_same b a m q (sym e) other) })

total_set : (rows : List (Row Search)) (i : ℕ) (row new : Row Search) → slice_get rows i ≡ Some row → total_spent (set rows i new) + row.spent ≡ total_spent rows + new.spent
total_set [] i row new e = absurd (cc e)
total_set (r ∷ rows) zero row new e = let is : r ≡ row = cc e in let same : r.spent ≡ row.spent = ap (λ (v : Row Search). v.spent) is in omega arith
total_set (r ∷ rows) (suc i) row new e = let rest = total_set rows i row new e in omega arith

pairs_put : {X Y : Type 0} (R : X → Y → Type 0) (xs : List X) (ys : List Y) (i : ℕ) (y new : Y) → slice_get ys i ≡ Some y → ((x : X) → R x y → R x new) → EachPair R xs ys → EachPair R xs (set ys i new)
pairs_put R [] [] i y new e put h = absurd (cc e)
pairs_put R [] (w ∷ ys) i y new e put h = absurd h
pairs_put R (x ∷ xs) [] i y new e put h = absurd h
pairs_put R (x ∷ xs) (w ∷ ys) zero y new e put h = let same : w ≡ y = cc e in (put x (subst (R x) same h.0), h.1)
pairs_put R (x ∷ xs) (w ∷ ys) (suc i) y new e put h = (h.0, pairs_put R xs ys i y new e put h.1)

pair_with : {X Y : Type 0} (R : X → Y → Type 0) (xs : List X) (ys : List Y) (i : ℕ) (y : Y) → slice_get ys i ≡ Some y → EachPair R xs ys → (x : X) × R x y
pair_with R [] [] i y e h = absurd (cc e)
pair_with R [] (w ∷ ys) i y e h = absurd h
pair_with R (x ∷ xs) [] i y e h = absurd h
pair_with R (x ∷ xs) (w ∷ ys) zero y e h = let same : w ≡ y = cc e in (x, subst (R x) same h.0)
pair_with R (x ∷ xs) (w ∷ ys) (suc i) y e h = pair_with R xs ys i y e h.1

pair_of : {X Y : Type 0} (R : X → Y → Type 0) (xs : List X) (ys : List Y) (i : ℕ) (x : X) → slice_get xs i ≡ Some x → EachPair R xs ys → (y : Y) × (slice_get ys i ≡ Some y) × R x y
pair_of R [] ys i x e h = absurd (cc e)
pair_of R (w ∷ xs) [] i x e h = absurd h
pair_of R (w ∷ xs) (y ∷ ys) zero x e h = let same : w ≡ x = cc e in (y, refl, subst (λ v. R v y) same h.0)
pair_of R (w ∷ xs) (y ∷ ys) (suc i) x e h = pair_of R xs ys i x e h.1

module _ (begin : List (Entry Fact)) where
  -- a search that waits beside a model of the beginning
  record Waits (row : Row Search) : Type 0 where
    reads : Reads row.search
    allowed : 1 ≤ row.allowed
    stays : row.left ≡ false
    unsettled : Settled key_of begin (ask_of row.search) → ⊥
    first : ℕ × Fact
    rest : List (ℕ × Fact)
    unread : ModelsAbove recording.model_of begin (ask_of row.search).group row.read (first ∷ rest)

  -- a search has sat out or still waits
  data IsStill (first row : Row Search) : Type 0 where
    sits_out : first.left ≡ true → row.left ≡ true → IsStill first row
    waits : Waits row → IsStill first row

  -- a unit has been spent, or all stands as it did
  data Moves (firsts : List (Row Search)) (now : Running Fact Search) : Type 0 where
    has_spent : 1 + total_spent firsts ≤ total_spent now.rows → Moves firsts now
    is_still : EachPair IsStill firsts now.rows → facts_of now.log ≡ facts_of begin → total_spent firsts ≤ total_spent now.rows → Moves firsts now

  waits_for : (first row : Row Search) → row.left ≡ false → IsStill first row → Waits row
  waits_for first row stays (sits_out a b) = absurd (not_both row.left b stays)
  waits_for first row stays (waits w) = w

  module _ (workers : ℕ) (IsSize : ℕ → ℕ → ℕ → ℕ → Type 0) (firsts : List (Row Search)) where
    module _ (old new : Running Fact Search) (event : Event recording searching workers IsSize begin old new) where
      abbrev after : Row Search
      after = row_after event.row event.facts event.outcome event.dropped event.search

      spent_now : total_spent new.rows + event.row.spent ≡ total_spent old.rows + (event.row.spent + event.outcome.spent)
      spent_now = ap (λ rows. total_spent rows + event.row.spent) event.rows ∙ total_set old.rows event.place event.row after event.of_row

      waiting : EachPair IsStill firsts old.rows → Waits event.row
      waiting still = let there = pair_with IsStill firsts old.rows event.place event.row event.of_row still in waits_for there.0 event.row event.stays there.1

      kept_then : (dropped : Bool) → event.dropped ≡ dropped → facts_of old.log ≡ facts_of begin → Waits event.row → dropped ≡ false
      kept_then true e same w = absurd (w.unsettled (settled_same old.log begin (ask_of event.row.search) same (event.is_dropped.0 e)))
      kept_then false e same w = refl

      still_waits : event.dropped ≡ false → event.outcome.spent ≡ 0 → is_stopped event.outcome.end ≡ true → Waits event.row → Waits after
      still_waits kept none stopped w =
          let turned = event_sound recording searching workers IsSize begin sound old new event in
          let ask : ask_of event.search ≡ ask_of event.row.search = turned.key in
          let allowed = w.allowed in
          record {
            reads = reads_on event.row.search event.units event.facts event.outcome event.search w.reads event.turn;
            allowed = omega arith;
            stays = ap (λ d. leaves_at (end_after d event.outcome.end)) kept ∙ stopped_stays event.outcome.end stopped;
            unsettled = λ s. w.unsettled (subst (Settled key_of begin) ask s);
            first = w.first;
            rest = w.rest;
            unread = subst (λ n. ModelsAbove recording.model_of begin (ask_of event.search).group n (w.first ∷ w.rest)) (sym (ap (λ b. cond b event.row.read event.facts.upto) stopped))
                (subst (λ (a : Inquiry). ModelsAbove recording.model_of begin a.group event.row.read (w.first ∷ w.rest)) (sym ask) w.unread);
          }

      no_facts : (dropped : Bool) → is_stopped event.outcome.end ≡ true → facts_of (entry_of event.pass event.row event.outcome dropped ∷ []) ≡ []
      no_facts true stopped = refl
      no_facts false stopped = append-nil (records_of event.outcome.end) ∙ stopped_brings event.outcome.end stopped

      same_facts : is_stopped event.outcome.end ≡ true → facts_of new.log ≡ facts_of old.log
      same_facts stopped =
          let entry = entry_of event.pass event.row event.outcome event.dropped in
          ap (λ l. facts_of l) event.log ∙ facts_of-append old.log (entry ∷ []) ∙ ap (λ fs. facts_of old.log ++ fs) (no_facts event.dropped stopped) ∙ append-nil (facts_of old.log)

      event_moves : Moves firsts old → Moves firsts new
      event_moves (has_spent more) = has_spent (let now = spent_now in omega arith)
      event_moves (is_still still same low) =
          let now = spent_now in
          let w = waiting still in
          elim (spends event.row.search event.units event.facts event.outcome event.search w.reads event.turn
          (is_handed begin event.seen (ask_of event.row.search) event.row.read (models_wanted event.row.search event.units) w.first w.rest event.facts event.seen_all_before (wants_some event.row.search event.units w.reads event.units_from) w.unread event.handed)) [
            | inl spent ↦ has_spent (omega arith)
            | inr stopped ↦
                (let kept = kept_then event.dropped refl same w in
                let none = stopped.0 in
                is_still (subst (EachPair IsStill firsts) (sym event.rows) (pairs_put IsStill firsts old.rows event.place event.row after event.of_row (λ first _. waits (still_waits kept stopped.0 stopped.1 w)) still)) (same_facts stopped.1 ∙ same) (omega arith))
          ]

    leads_move : (states : List (Running Fact Search)) (old new : Running Fact Search) → Leads recording searching workers IsSize begin old states new → Moves firsts old → Moves firsts new
    leads_move [] old new h moves = subst (Moves firsts) h moves
    leads_move (mid ∷ states) old new h moves = leads_move states mid new h.1 (event_moves old mid h.0 moves)

  waits_not_over : (row : Row Search) → Waits row → (row.left ≡ true) ⊎ (row.allowed ≡ 0) → ⊥
  waits_not_over row w (inl left) = not_both row.left left w.stays
  waits_not_over row w (inr none) = let some = w.allowed in absurd (omega arith)

  waits_still : (first row : Row Search) → first.left ≡ false → IsStill first row → Waits row
  waits_still first row stays (sits_out a b) = absurd (not_both first.left a stays)
  waits_still first row stays (waits w) = w

  moved : (firsts : List (Row Search)) (last : Running Fact Search) (place : ℕ) (first : Row Search) → slice_get firsts place ≡ Some first → first.left ≡ false → Finished last → Moves firsts last → 1 + total_spent firsts ≤ total_spent last.rows
  moved firsts last place first there stays finished (has_spent more) = more
  moved firsts last place first there stays finished (is_still still same low) =
      let row = pair_of IsStill firsts last.rows place first there still in
      absurd (waits_not_over row.0 (waits_still first row.0 stays row.2) (all_at (λ (r : Row Search). (r.left ≡ true) ⊎ (r.allowed ≡ 0)) last.rows place row.0 finished row.1))

-- the units that searches may still spend
abbrev pub allowed_of : List SearchState → ℕ
allowed_of [] = 0
allowed_of (x ∷ xs) = x.allowed + allowed_of xs

abbrev spent_of : List SearchState → ℕ
spent_of [] = 0
spent_of (x ∷ xs) = x.account.spent + spent_of xs

module _ (state : State) where
  first_still : (x : SearchState) (row : Row Search) (left : Bool) → row.left ≡ left → IsRow (Idles state) x row → IsStill state.log row row
  first_still x row true e is = sits_out e e
  first_still x row false e is =
      let idles = is.takes.0 e in
      let same = is.row_is in
      waits (record {
        reads = subst (λ (r : Row Search). Reads r.search) (sym same) idles.reads;
        allowed = subst (λ (r : Row Search). 1 ≤ r.allowed) (sym same) idles.allowed;
        stays = e;
        unsettled = λ s. idles.unsettled (subst (λ (r : Row Search). Settled key_of state.log (ask_of r.search)) same s);
        first = (idles.number, idles.model);
        rest = idles.rest;
        unread = subst (λ (r : Row Search). ModelsAbove recording.model_of state.log (ask_of r.search).group r.read ((idles.number, idles.model) ∷ idles.rest)) (sym same) idles.unread;
      })

  all_still : (xs : List SearchState) (rows : List (Row Search)) → EachPair (IsRow (Idles state)) xs rows → EachPair (IsStill state.log) rows rows
  all_still [] [] h = tt
  all_still [] (row ∷ rows) h = absurd h
  all_still (x ∷ xs) [] h = absurd h
  all_still (x ∷ xs) (row ∷ rows) h = (first_still x row row.left refl h.0, all_still xs rows h.1)

spent_first : (Takes : SearchState → Type 0) (xs : List SearchState) (rows : List (Row Search)) → EachPair (IsRow Takes) xs rows → total_spent rows ≡ spent_of xs
spent_first Takes [] [] h = refl
spent_first Takes [] (row ∷ rows) h = absurd h
spent_first Takes (x ∷ xs) [] h = absurd h
spent_first Takes (x ∷ xs) (row ∷ rows) h =
    let rest = spent_first Takes xs rows h.1 in
    let here : row.spent ≡ x.account.spent = ap (λ (r : Row Search). r.spent) h.0.row_is in omega arith

-- what is spent is no more allowed
balance : (log : List (Entry Fact)) (Takes : SearchState → Type 0) (xs : List SearchState) (lasts : List (Row Search)) → EachPair (RanTo Takes) xs lasts → AllByRecursion (λ (x : SearchState). StandsBeside log (row_taken true x)) xs → total_spent lasts + allowed_of (after_rows xs lasts) ≡ spent_of xs + allowed_of xs
balance log Takes [] [] h stand = refl
balance log Takes [] (last ∷ lasts) h stand = absurd h
balance log Takes (x ∷ xs) [] h stand = absurd h
balance log Takes (x ∷ xs) (last ∷ lasts) h stand =
    let rest = balance log Takes xs lasts h.1 stand.1 in
    let first : h.0.first ≡ row_taken h.0.first.left x = h.0.is_row.row_is in
    let spent : h.0.first.spent ≡ x.account.spent = ap (λ (r : Row Search). r.spent) first in
    let held : h.0.first.held ≡ x.account.held = ap (λ (r : Row Search). r.held) first in
    let allowed : h.0.first.allowed ≡ x.allowed = ap (λ (r : Row Search). r.allowed) first in
    let funded = stand.0.allowed in
    let units = h.0.keeps.balance in
    let back = h.0.keeps.kept_back in
    let within = h.0.keeps.within in omega arith

-- in a further run the allowed units become fewer
pub fewer_allowed : (plan : Plan) (params : Params) (old new : State) → StateOk plan params.workers old → SomeIdles old → Rounds params Idles old new → allowed_of new.searches < allowed_of old.searches
fewer_allowed plan params old new ok some rounds =
    let run = rounds_run params Idles old new rounds (record { numbered = ok.numbered; stand = ok.stand; legal = ok.legal; passes = ok.passes }) in
    let row = pair_of (IsRow (Idles old)) old.searches rounds.first.rows some.place some.search some.there rounds.rows in
    let begins : Moves old.log rounds.first.rows rounds.first = is_still (all_still old old.searches rounds.first.rows rounds.rows) (ap (λ l. facts_of l) rounds.log) (omega arith) in
    let moves = leads_move old.log params.workers params.IsSize rounds.first.rows rounds.runs.0 rounds.first rounds.last rounds.runs.1 begins in
    let more = moved old.log rounds.first.rows rounds.last some.place row.0 row.1 (row.2.takes.1 some.idles) rounds.finished moves in
    let were = spent_first (Idles old) old.searches rounds.first.rows rounds.rows in
    let balanced = balance old.log (Idles old) old.searches rounds.last.rows run.ran ok.stand in
    let after : allowed_of new.searches ≡ allowed_of (after_rows old.searches rounds.last.rows) = ap (λ (s : State). allowed_of s.searches) rounds.new_is in
    omega arith
