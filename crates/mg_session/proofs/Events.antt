-- What an event keeps of how the searches of a run stand.
use Rattle.std.proofs.Common.{◌≡◌, ◌≢◌, ℕ, zero, suc, ◌+◌, ◌<◌, ◌≤◌, ◌==◌, ◌↔◌, Bool, true, false, cond, List, [], ◌∷◌, ◌++◌, length, length-append, refl, ap, sym, ◌∙◌, subst, arith, append-nil, add-zero}
use Rattle.std.specs.Prelude.{Some, IsSome, Contains, slice_index_or}
use Rattle.std.specs.List.{AllByRecursion}
use Rattle.std.proofs.lemmas.Bool.Decides.{nat_tests}
use Rattle.mg_core.specs.declared.entries.Entry.{Entry}
use Rattle.mg_core.specs.declared.entries.Facts.{Facts}
use Rattle.mg_core.specs.Log.{facts_of, Settled, KeeperOf, Handed}
use Rattle.mg_core.proofs.Logs.{facts_of-append}
use Rattle.mg_words.specs.declared.procedure.Procedure.{Procedure}
use Rattle.mg_turn.specs.declared.outcome.Outcome.{Outcome}
use Rattle.mg_turn.specs.declared.outcome.TurnEnd.{TurnEnd}
use Rattle.mg_turn.specs.declared.outcome.TurnEnd.TheVariants.{More, Found, Closed, Idle, Stopped, Full}
use Rattle.mg_turn.specs.Turn.{IsSound, EndFits, AreModels, Settles, records_of, goes_on, is_stopped}
use Rattle.mg_workers.specs.declared.held.End.{End}
use Rattle.mg_workers.specs.declared.held.End.TheVariants as ends
use Rattle.mg_workers.specs.Run.{Row, Running, Begins, Event, entry_of, row_after, end_after}
use Rattle.mg_workers.specs.Rows.{AreApart, units_of}
use Rattle.mg_workers.proofs.Pairs.{all_at}
use Rattle.mg_workers.proofs.Counts.{units_of-append, others_apart}
use Rattle.mg_workers.proofs.Events.{event_sound}
use Rattle.mg_present.specs.Ask.{Inquiry}
use Rattle.mg_certs.specs.Claim.{Fact}
use Rattle.mg_certs.specs.Claim as claims
use Rattle.mg_certs.specs.Validity.{recording, key_of, group_of}
use Rattle.mg_search.specs.Search.{Search, searching, ask_of, procedure_of, is_open, models_wanted, SearchTurn, HasPublished}
use Rattle.mg_search.specs.Ends.{MayEnd}
use Rattle.mg_search.specs.Sounds.{sound}
use Rattle.mg_search.proofs.Turns.{keeps_procedure, keeps_row, turn_may_end, turn_publishes}
use Rattle.mg_session.specs.Run.{KeepsVerdict}
use Rattle.mg_session.specs.StateOk.{IsOpenAt, CanEnd, HasVerdict, EndsSo, StandsBeside}
use Rattle.mg_session.proofs.Lists.{all-set}
use Rattle.mg_session.proofs.Keepers.{Brings, IsKeeperOf, is_new, is_old, keeper_grows, keeper_back}
use Rattle.mg_session.proofs.Settling.{settled_grows, kept_settles}
use Rattle.mg_session.proofs.Handing.{handed_within}
use Rattle.mg_session.proofs.Reading.{reads_grow, reads_turn}

pub not_both : (b : Bool) → b ≡ true → b ≡ false → ⊥
not_both b e f = let g : true ≡ false = sym e ∙ f in cc g

contains_none : (x : Fact) → Contains [] x → ⊥
contains_none x c = let low = c.1 in absurd (omega arith)

-- a search that goes on hasn't found
pub not_found : (search : Search) (end : End) → IsOpenAt end search → is_open search ≡ true → end ≡ ends.Found → ⊥
not_found search end at opened e =
    let closed : is_open search ≡ false = subst (λ (x : End). IsOpenAt x search) e at in not_both (is_open search) opened closed

module _ (log : List (Entry Fact)) (entry : Entry Fact) where
  abbrev pub longer : List (Entry Fact)
  longer = log ++ entry ∷ []

  read_grows : (n : ℕ) → n ≤ length (facts_of log) → n ≤ length (facts_of longer)
  read_grows n low =
      let grown : length (facts_of longer) ≡ length (facts_of log) + length (facts_of (entry ∷ [])) = ap length (facts_of-append log (entry ∷ [])) ∙ length-append (facts_of log) (facts_of (entry ∷ [])) in omega arith

  foreign_units : (number : ℕ) → entry.search ≢ number → units_of number longer ≡ units_of number log
  foreign_units number other =
      let foreign : (entry.search == number) ≡ false = grind (arith, nat_tests, other) in
      let none : units_of number (entry ∷ []) ≡ 0 = ap (λ b. cond b entry.units 0 + 0) foreign in omega (arith, units_of-append number log (entry ∷ []), none)

  own_units : (number : ℕ) → entry.search ≡ number → units_of number longer ≡ units_of number log + entry.units
  own_units number same =
      let own : (entry.search == number) ≡ true = grind (arith, nat_tests, same) in
      let one : units_of number (entry ∷ []) ≡ entry.units = ap (λ b. cond b entry.units 0 + 0) own ∙ add-zero entry.units in omega (arith, units_of-append number log (entry ∷ []), one)

  -- the keeper with another number is the one before
  keeper_was : (ask : Inquiry) (number : ℕ) (kept : Entry Fact) → entry.search ≢ number → kept.search ≡ number → IsKeeperOf key_of log entry ask kept → KeeperOf key_of log ask kept
  keeper_was ask number kept other same (is_new e unsettled brings) = absurd (other (sym (ap (λ (x : Entry Fact). x.search) e) ∙ same))
  keeper_was ask number kept other same (is_old k) = k

  -- the entry of another search changes nothing of how a search stands
  stands_beside : (row : Row Search) → entry.search ≢ row.number → StandsBeside log row → StandsBeside longer row
  stands_beside row other h = record {
    in_row = h.in_row;
    units = h.units;
    counted = foreign_units row.number other ∙ h.counted;
    allowed = h.allowed;
    end = record {
      found = (
        λ e. (let k = h.end.found.0 e in (k.0, keeper_grows key_of log (entry ∷ []) (ask_of row.search) k.0 k.1, k.2)),
        λ k. h.end.found.1 (k.0, keeper_was (ask_of row.search) row.number k.0 other k.2 (keeper_back key_of log entry (ask_of row.search) k.0 k.1), k.2),
      );
      verdict = λ v. settled_grows key_of log (entry ∷ []) (ask_of row.search) (h.end.verdict v);
      openness = h.end.openness;
      can_end = h.end.can_end;
    };
    published = λ kept k same. h.published kept (keeper_was (ask_of row.search) row.number kept other same (keeper_back key_of log entry (ask_of row.search) kept k)) same;
    read = read_grows row.read h.read;
    in_order = reads_grow log entry row.search row.read h.read h.in_order;
  }

-- none of these records settles an Ask
abbrev SettleNone : List Fact → Type 0
SettleNone records = (r : Fact) (ask : Inquiry) → Contains records r → key_of r ≡ Some ask → ⊥

no_key : (r : Fact) (ask : Inquiry) → IsSome (group_of r) → key_of r ≡ Some ask → ⊥
no_key (claims.settled own verdict) ask some e = cc some
no_key (claims.model_of group model) ask some e = cc e

models_at : (records : List Fact) (r : Fact) (ask : Inquiry) (k : ℕ) → AreModels recording records → k < length records → slice_index_or records k r ≡ r → key_of r ≡ Some ask → ⊥
models_at [] r ask k models low at e = absurd (omega arith)
models_at (x ∷ xs) r ask zero models low at e = no_key x ask models.0 (ap key_of at ∙ e)
models_at (x ∷ xs) r ask (suc k) models low at e = models_at xs r ask k models.1 (omega arith) at e

-- an end of a search by the procedure that brings no verdict
record BringsNone (procedure : Procedure) (end : TurnEnd Fact) : Type 0 where
  none : SettleNone (records_of end)
  found : end_after false end ≡ ends.Found → ⊥
  verdict : HasVerdict (end_after false end) → ⊥
  openness : (after : Search) → is_open after ≡ goes_on end → IsOpenAt (end_after false end) after
  can_end : CanEnd (end_after false end) procedure

-- how a turn of a search by the procedure ends: it brings no verdict, or it finds
data EndsAs (procedure : Procedure) (end : TurnEnd Fact) : Type 0 where
  goes : BringsNone procedure end → EndsAs procedure end
  finds : (records : List Fact) → end ≡ Found records → EndsAs procedure end

ends_as : (search : Search) (units : ℕ) (facts : Facts Fact) (spent : ℕ) (procedure : Procedure) (end : TurnEnd Fact) → MayEnd end procedure → EndFits recording searching search units facts spent end → EndsAs procedure end
ends_as search units facts spent procedure More may fits = goes (record { none = λ r ask c e. contains_none r c; found = λ e. cc e; verdict = λ v. v; openness = λ after e. e; can_end = tt })
ends_as search units facts spent procedure (Found records) may fits = finds records refl
ends_as search units facts spent procedure (Closed records) may fits =
    goes (record { none = λ r ask c e. models_at records r ask c.0 fits.1 c.1 c.2 e; found = λ e. cc e; verdict = λ v. v; openness = λ after e. e; can_end = may })
ends_as search units facts spent procedure Idle may fits = goes (record { none = λ r ask c e. contains_none r c; found = λ e. cc e; verdict = λ v. v; openness = λ after e. e; can_end = may })
ends_as search units facts spent procedure (Stopped seen) may fits = goes (record { none = λ r ask c e. contains_none r c; found = λ e. cc e; verdict = λ v. v; openness = λ after e. e; can_end = tt })
ends_as search units facts spent procedure (Full what count) may fits = goes (record { none = λ r ask c e. contains_none r c; found = λ e. cc e; verdict = λ v. v; openness = λ after e. e; can_end = may })

either_within : (b : Bool) (x y n : ℕ) → x ≤ n → y ≤ n → cond b x y ≤ n
either_within true x y n h g = h
either_within false x y n h g = g

module _ (log : List (Entry Fact)) (pass units : ℕ) (row : Row Search) (facts : Facts Fact) (outcome : Outcome Fact) (after : Search) where
  abbrev pub entry : Bool → Entry Fact
  entry dropped = entry_of pass row outcome dropped

  module _ (opened : is_open row.search ≡ true) (turn : SearchTurn row.search units facts outcome after) (sound : IsSound recording searching row.search units facts outcome after) (h : StandsBeside log row) where
    no_old : (kept : Entry Fact) → kept.search ≡ row.number → KeeperOf key_of log (ask_of row.search) kept → ⊥
    no_old kept same k = not_found row.search row.end h.end.openness opened (h.end.found.1 (kept, k, same))

    -- the keeper of the longer log is the entry of this turn, which brings a verdict
    brings_now : (dropped : Bool) (kept : Entry Fact) → kept.search ≡ row.number → KeeperOf key_of (log ++ entry dropped ∷ []) (ask_of after) kept → (kept ≡ entry dropped) × Brings key_of (ask_of row.search) (entry dropped)
    brings_now dropped kept same k =
        elim (keeper_back key_of log (entry dropped) (ask_of row.search) kept (subst (λ (a : Inquiry). KeeperOf key_of (log ++ entry dropped ∷ []) a kept) sound.key k)) [
          | is_new e unsettled brings ↦ (e, subst (Brings key_of (ask_of row.search)) e brings)
          | is_old old ↦ absurd (no_old kept same old)
        ]

    none_brought : Brings key_of (ask_of row.search) (entry false) → SettleNone (records_of outcome.end) → ⊥
    none_brought brings none = none brings.verdict (ask_of row.search) brings.among brings.settles_it

    search_ends : EndsAs (procedure_of row.search) outcome.end
    search_ends = ends_as row.search units facts outcome.spent (procedure_of row.search) outcome.end (turn_may_end row.search units facts outcome after turn) sound.end

    first_settles : (records : List Fact) → outcome.end ≡ Found records → Settles recording (ask_of row.search) records
    first_settles records e = subst (λ (end : TurnEnd Fact). EndFits recording searching row.search units facts outcome.spent end) e sound.end

    entry_brings : (records : List Fact) → outcome.end ≡ Found records → (entry false).records ≡ records
    entry_brings records e = ap (λ (end : TurnEnd Fact). records_of end) e

    keeps_now : (records : List Fact) → outcome.end ≡ Found records → Settles recording (ask_of row.search) records → (Settled key_of log (ask_of row.search) → ⊥) → KeepsVerdict (log ++ entry false ∷ []) (ask_of after) row.number
    keeps_now [] e settles unsettled = absurd settles
    keeps_now (first ∷ rest) e settles unsettled =
        let ask : ask_of after ≡ ask_of row.search = sound.key in (
          entry false,
          record {
            before = log;
            after = [];
            place = refl;
            kept = refl;
            verdict = first;
            among = subst (λ (rs : List Fact). Contains rs first) (sym (entry_brings (first ∷ rest) e)) (0, omega arith, refl);
            settles_it = settles.0 ∙ ap Some (sym ask);
            not_before = λ s. unsettled (subst (Settled key_of log) ask s);
          },
          refl,
        )

    settled_now : (records : List Fact) → outcome.end ≡ Found records → Settles recording (ask_of row.search) records → (Settled key_of log (ask_of row.search) → ⊥) → Settled key_of (log ++ entry false ∷ []) (ask_of after)
    settled_now [] e settles unsettled = absurd settles
    settled_now (first ∷ rest) e settles unsettled =
        subst (Settled key_of (log ++ entry false ∷ [])) (sym sound.key)
        (kept_settles key_of log (entry false) first rest (ask_of row.search) unsettled (append-nil (entry false).records ∙ entry_brings (first ∷ rest) e) settles.0)

    ends_dropped : Settled key_of log (ask_of row.search) → EndsSo (log ++ entry true ∷ []) after row.number ends.Stopped
    ends_dropped settled = record {
      found = (λ e. absurd (cc e), λ k. let brings = (brings_now true k.0 k.2 k.1).1 in absurd (not_both true refl brings.kept));
      verdict = λ _. subst (Settled key_of (log ++ entry true ∷ [])) (sym sound.key) (settled_grows key_of log (entry true ∷ []) (ask_of row.search) settled);
      openness = tt;
      can_end = tt;
    }

    ends_kept : (Settled key_of log (ask_of row.search) → ⊥) → EndsAs (procedure_of row.search) outcome.end → EndsSo (log ++ entry false ∷ []) after row.number (end_after false outcome.end)
    ends_kept unsettled (goes brings) = record {
      found = (λ e. absurd (brings.found e), λ k. absurd (none_brought (brings_now false k.0 k.2 k.1).1 brings.none));
      verdict = λ v. absurd (brings.verdict v);
      openness = brings.openness after sound.openness;
      can_end = subst (λ (p : Procedure). CanEnd (end_after false outcome.end) p) (sym (keeps_procedure row.search units facts outcome after turn)) brings.can_end;
    }
    ends_kept unsettled (finds records e) =
        let settles = first_settles records e in
        let is_found : end_after false outcome.end ≡ ends.Found = ap (λ (end : TurnEnd Fact). end_after false end) e in
        subst (EndsSo (log ++ entry false ∷ []) after row.number) (sym is_found)
        (record {
          found = (λ _. keeps_now records e settles unsettled, λ _. refl);
          verdict = λ _. settled_now records e settles unsettled;
          openness = sound.openness ∙ ap (λ (end : TurnEnd Fact). goes_on end) e;
          can_end = tt;
        })

    ends_so : (dropped : Bool) → (dropped ≡ true) ↔ Settled key_of log (ask_of row.search) → EndsSo (log ++ entry dropped ∷ []) after row.number (end_after dropped outcome.end)
    ends_so true was = ends_dropped (was.0 refl)
    ends_so false was = ends_kept (λ s. not_both false (was.1 s) refl) search_ends

    publishes : (dropped : Bool) (kept : Entry Fact) → KeeperOf key_of (log ++ entry dropped ∷ []) (ask_of after) kept → kept.search ≡ row.number → HasPublished after kept.records
    publishes true kept k same = let brings = (brings_now true kept same k).1 in absurd (not_both true refl brings.kept)
    publishes false kept k same =
        let now = brings_now false kept same k in
        elim search_ends [
          | goes brings ↦ absurd (none_brought now.1 brings.none)
          | finds records e ↦ subst (HasPublished after) (sym (ap (λ (x : Entry Fact). x.records) now.0 ∙ entry_brings records e)) (turn_publishes row.search units facts outcome after records opened turn h.in_row e)
        ]

    pub stands_turn : (dropped : Bool) (seen : List (Entry Fact)) → Begins seen log → (dropped ≡ true) ↔ Settled key_of log (ask_of row.search) → Handed recording.model_of seen (ask_of row.search).group row.read (models_wanted row.search units) facts →
        StandsBeside (log ++ entry dropped ∷ []) (row_after row facts outcome dropped after)
    stands_turn dropped seen begins was handed =
        let units_then = sound.spent in
        let agreed = h.units in
        let counted = h.counted in
        let within = h.allowed in
        let upto : cond (is_stopped outcome.end) row.read facts.upto ≤ length (facts_of log) = either_within (is_stopped outcome.end) row.read facts.upto (length (facts_of log)) h.read
        (handed_within recording.model_of (ask_of row.search).group seen log row.read (models_wanted row.search units) facts begins handed h.read) in
        record {
          in_row = keeps_row row.search units facts outcome after opened turn h.in_row;
          units = omega arith;
          counted = own_units log (entry dropped) row.number refl ∙ ap (λ n. n + outcome.spent) counted;
          allowed = omega arith;
          end = ends_so dropped was;
          published = publishes dropped;
          read = read_grows log (entry dropped) (cond (is_stopped outcome.end) row.read facts.upto) upto;
          in_order = reads_grow log (entry dropped) after (cond (is_stopped outcome.end) row.read facts.upto) upto (reads_turn log seen begins row.search row.read units facts outcome after opened turn h.in_order handed);
        }

-- an event keeps how all searches of the run stand
pub event_stands : (workers : ℕ) (IsSize : ℕ → ℕ → ℕ → ℕ → Type 0) (begin : List (Entry Fact)) (old new : Running Fact Search) → Event recording searching workers IsSize begin old new → AreApart old.rows →
    AllByRecursion (StandsBeside old.log) old.rows → AllByRecursion (StandsBeside new.log) new.rows
event_stands workers IsSize begin old new event apart h =
    let entry = entry_of event.pass event.row event.outcome event.dropped in
    let turned = event_sound recording searching workers IsSize begin sound old new event in
    let row = all_at (StandsBeside old.log) old.rows event.place event.row h event.of_row in
    subst (λ (log : List (Entry Fact)). AllByRecursion (StandsBeside log) new.rows) (sym event.log)
    (subst (AllByRecursion (StandsBeside (old.log ++ entry ∷ []))) (sym event.rows)
    (all-set (StandsBeside old.log) (StandsBeside (old.log ++ entry ∷ [])) (λ (x z : Row Search). x.number ≢ z.number) old.rows event.place event.row (row_after event.row event.facts event.outcome event.dropped event.search) event.of_row
    (stands_turn old.log event.pass event.units event.row event.facts event.outcome event.search event.openness event.turn turned row event.dropped event.seen event.seen_is_there event.is_dropped event.handed)
    (λ z other. stands_beside old.log entry z other) (others_apart old.rows event.place event.row apart event.of_row) h))
