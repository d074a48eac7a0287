-- A run of the searches of a state leaves it in order.
use Rattle.std.proofs.Common.{◌≡◌, ℕ, ◌≤◌, ◌⊎◌, Bool, true, List, [], ◌∷◌, refl, sym, ◌∙◌, subst, inl, inr}
use Rattle.std.specs.Prelude.{IsSome, IsNone}
use Rattle.std.specs.List.{AllByRecursion}
use Rattle.mg_core.specs.declared.entries.Entry.{Entry}
use Rattle.mg_core.specs.Log.{KeeperOf, LegalFrom}
use Rattle.mg_turn.specs.declared.outcome.TurnEnd.{TurnEnd}
use Rattle.mg_workers.specs.Run.{Row, Running, Event, Leads, entry_of, row_after, end_after, leaves_at}
use Rattle.mg_workers.specs.Rows.{EachPair, Keeps, AreFunded, AreApart, units_of}
use Rattle.mg_workers.proofs.Pairs.{all_along, all_imply, pairs_imply, pairs_then, pairs_set, others_all}
use Rattle.mg_workers.proofs.Counts.{apart_along}
use Rattle.mg_workers.proofs.Events.{event_keeps, runs_keep}
use Rattle.mg_workers.proofs.Legality.{runs_legal}
use Rattle.mg_certs.specs.Claim.{Fact, settled, model_of}
use Rattle.mg_certs.specs.Validity.{recording, IsValid, key_of}
use Rattle.mg_search.specs.Search.{Search, searching, ask_of, procedure_of, HasPublished, Reads}
use Rattle.mg_search.specs.Sounds.{sound}
use Rattle.mg_search.proofs.Turns.{keeps_procedure}
use Rattle.mg_search.proofs.Readers.{keeps_reading}
use Rattle.mg_session.specs.Run.{IsRow, Rounds}
use Rattle.mg_session.specs.State.{State, SearchState, Params, asks, row_taken, after_row}
use Rattle.mg_session.specs.StateOk.{EndsSo, StandsBeside, HasPass, of_worker, AreNumbered}
use Rattle.mg_session.proofs.Lists.{all-append}
use Rattle.mg_session.proofs.Events.{event_stands}
use Rattle.mg_session.proofs.Asks.{rows_apart, rows_asked}

all_there : (rows : List (Row Search)) → AllByRecursion (λ (row : Row Search). Unit {0}) rows
all_there [] = tt
all_there (row ∷ rows) = (tt, all_there rows)

-- a model settles nothing
exclusive : (r : Fact) → recording.valid r → IsSome (recording.model_of r) → IsNone (recording.settles r)
exclusive (settled ask verdict) valid model = absurd (cc model)
exclusive (model_of group model) valid is = refl

-- a row that has made a turn stands as its last turn ended, and has left where that says so
pub record HasTurned (row : Row Search) : Type 0 where
  pub dropped : Bool
  pub last : TurnEnd Fact
  pub end : row.end ≡ end_after dropped last
  pub left : row.left ≡ leaves_at row.end

-- what a run makes of a row
pub record GoesTo (first row : Row Search) : Type 0 where
  pub procedure : procedure_of row.search ≡ procedure_of first.search
  pub reads : Reads first.search → Reads row.search
  pub turned : (row ≡ first) ⊎ HasTurned row

same_turned : (x y z : Row Search) → (y ≡ x) ⊎ HasTurned y → (z ≡ y) ⊎ HasTurned z → (z ≡ x) ⊎ HasTurned z
same_turned x y z first (inr turned) = inr turned
same_turned x y z (inl e) (inl f) = inl (f ∙ e)
same_turned x y z (inr turned) (inl f) = inr (subst HasTurned (sym f) turned)

goes_then : (x y z : Row Search) → GoesTo x y → GoesTo y z → GoesTo x z
goes_then x y z a b = record { procedure = b.procedure ∙ a.procedure; reads = λ r. b.reads (a.reads r); turned = same_turned x y z a.turned b.turned }

goes_nowhere : (row : Row Search) → GoesTo row row
goes_nowhere row = record { procedure = refl; reads = λ r. r; turned = inl refl }

each_nowhere : (rows : List (Row Search)) → EachPair GoesTo rows rows
each_nowhere [] = tt
each_nowhere (row ∷ rows) = (goes_nowhere row, each_nowhere rows)

pub pairs_both : {X Y : Type 0} (A B C : X → Y → Type 0) → ((x : X) (y : Y) → A x y → B x y → C x y) → (xs : List X) (ys : List Y) → EachPair A xs ys → EachPair B xs ys → EachPair C xs ys
pairs_both A B C f [] [] a b = tt
pairs_both A B C f [] (y ∷ ys) a b = absurd a
pairs_both A B C f (x ∷ xs) [] a b = absurd a
pairs_both A B C f (x ∷ xs) (y ∷ ys) a b = (f x y a.0 b.0, pairs_both A B C f xs ys a.1 b.1)

module _ (workers : ℕ) (IsSize : ℕ → ℕ → ℕ → ℕ → Type 0) (begin : List (Entry Fact)) where
  event_goes : (old new : Running Fact Search) → Event recording searching workers IsSize begin old new → EachPair GoesTo old.rows new.rows
  event_goes old new event =
      subst (EachPair GoesTo old.rows) (sym event.rows)
      (pairs_set GoesTo (λ x z. Unit {0}) old.rows event.place event.row (row_after event.row event.facts event.outcome event.dropped event.search) event.of_row
      (record {
        procedure = keeps_procedure event.row.search event.units event.facts event.outcome event.search event.turn;
        reads = λ r. keeps_reading event.row.search event.units event.facts event.outcome event.search event.turn r;
        turned = inr (record { dropped = event.dropped; last = event.outcome.end; end = refl; left = refl });
      })
      (λ z _. goes_nowhere z) (others_all (λ (z : Row Search). Unit {0}) old.rows event.place event.row (all_there old.rows)))

  event_passes : (old new : Running Fact Search) → Event recording searching workers IsSize begin old new → AllByRecursion (HasPass workers) old.log → AllByRecursion (HasPass workers) new.log
  event_passes old new event h =
      let entry = entry_of event.pass event.row event.outcome event.dropped in
      subst (AllByRecursion (HasPass workers)) (sym event.log) (all-append (HasPass workers) old.log (entry ∷ []) h (of_worker event.pass_from event.pass_upto, tt))

  -- what holds of a run as it goes on
  pub record Goes (first : List (Row Search)) (running : Running Fact Search) : Type 0 where
    pub apart : AreApart running.rows
    pub stand : AllByRecursion (StandsBeside running.log) running.rows
    pub goes : EachPair GoesTo first running.rows
    pub passes : AllByRecursion (HasPass workers) running.log

  funded_of : (log : List (Entry Fact)) (rows : List (Row Search)) → AllByRecursion (StandsBeside log) rows → AreFunded rows
  funded_of log rows h = all_imply (StandsBeside log) (λ (row : Row Search). row.allowed ≤ row.held) (λ row stands. stands.allowed) rows h

  event_goes_on : (first : List (Row Search)) (old new : Running Fact Search) → Event recording searching workers IsSize begin old new → Goes first old → Goes first new
  event_goes_on first old new event h =
      let kept = event_keeps recording searching workers IsSize begin sound old new (funded_of old.log old.rows h.stand) event in
      record {
        apart = apart_along old.rows new.rows (pairs_imply (Keeps searching) (λ (x y : Row Search). y.number ≡ x.number) (λ x y k. k.number) old.rows new.rows kept) h.apart;
        stand = event_stands workers IsSize begin old new event h.apart h.stand;
        goes = pairs_then GoesTo GoesTo GoesTo goes_then first old.rows new.rows h.goes (event_goes old new event);
        passes = event_passes old new event h.passes;
      }

  pub leads_go : (first : List (Row Search)) (old : Running Fact Search) (states : List (Running Fact Search)) (new : Running Fact Search) → Leads recording searching workers IsSize begin old states new → Goes first old → Goes first new
  leads_go first old [] new h goes = subst (Goes first) h goes
  leads_go first old (mid ∷ states) new h goes = leads_go first mid states new h.1 (event_goes_on first old mid h.0 goes)

-- a search as a run takes it stands as it did
pub as_row : (log : List (Entry Fact)) (x : SearchState) (left left' : Bool) → StandsBeside log (row_taken left x) → StandsBeside log (row_taken left' x)
as_row log x left left' h = record { in_row = h.in_row; units = h.units; counted = h.counted; allowed = h.allowed; end = h.end; published = h.published; read = h.read; in_order = h.in_order }

-- a search as a run leaves it stands as its row does
pub row_back : (log : List (Entry Fact)) (x : SearchState) (last : Row Search) → last.number ≡ x.number → StandsBeside log last → StandsBeside log (row_taken true (after_row x last))
row_back log x last same h = record {
  in_row = h.in_row;
  units = h.units;
  counted = subst (λ n. units_of n log ≡ last.spent) same h.counted;
  allowed = h.allowed;
  end = subst (λ n. EndsSo log last.search n last.end) same h.end;
  published = subst (λ n. (entry : Entry Fact) → KeeperOf key_of log (ask_of last.search) entry → entry.search ≡ n → HasPublished last.search entry.records) same h.published;
  read = h.read;
  in_order = h.in_order;
}

-- how a row began, and where it ended
pub record RanTo (Takes : SearchState → Type 0) (x : SearchState) (last : Row Search) : Type 0 where
  pub first : Row Search
  pub is_row : IsRow Takes x first
  pub keeps : Keeps searching first last
  pub goes : GoesTo first last

pub ran_to : (Takes : SearchState → Type 0) (xs : List SearchState) (rows lasts : List (Row Search)) → EachPair (IsRow Takes) xs rows → EachPair (Keeps searching) rows lasts → EachPair GoesTo rows lasts → EachPair (RanTo Takes) xs lasts
ran_to Takes xs rows lasts is_rows kept gone =
    let both = pairs_both (Keeps searching) GoesTo (λ (r l : Row Search). Keeps searching r l × GoesTo r l) (λ r l a b. (a, b)) rows lasts kept gone in
    pairs_then (IsRow Takes) (λ (r l : Row Search). Keeps searching r l × GoesTo r l) (RanTo Takes) (λ x r l is h. record { first = r; is_row = is; keeps = h.0; goes = h.1 }) xs rows lasts is_rows both

-- what a finished run makes of the searches of a state
pub record Ran (workers : ℕ) (Takes : SearchState → Type 0) (xs : List SearchState) (last : Running Fact Search) : Type 0 where
  pub ran : EachPair (RanTo Takes) xs last.rows
  pub stand : AllByRecursion (StandsBeside last.log) last.rows
  pub legal : LegalFrom IsValid key_of (asks xs) [] last.log
  pub passes : AllByRecursion (HasPass workers) last.log

-- searches of a state as a run may take them
pub record CanRun (workers : ℕ) (log : List (Entry Fact)) (xs : List SearchState) : Type 0 where
  pub numbered : AreNumbered 1 xs
  pub stand : AllByRecursion (λ (x : SearchState). StandsBeside log (row_taken true x)) xs
  pub legal : LegalFrom IsValid key_of (asks xs) [] log
  pub passes : AllByRecursion (HasPass workers) log

pub rounds_run : (params : Params) (Takes : State → SearchState → Type 0) (old new : State) (rounds : Rounds params Takes old new) → CanRun params.workers old.log old.searches → Ran params.workers (Takes old) old.searches rounds.last
rounds_run params Takes old new rounds can =
    let first = rounds.first in
    let rows_stand : AllByRecursion (StandsBeside old.log) first.rows = all_along (IsRow (Takes old)) (λ (x : SearchState). StandsBeside old.log (row_taken true x)) (StandsBeside old.log)
    (λ x row is h. subst (StandsBeside old.log) (sym is.row_is) (as_row old.log x true row.left h)) old.searches first.rows rounds.rows can.stand in
    let begins : Goes params.workers params.IsSize old.log first.rows first = record {
      apart = rows_apart (Takes old) 1 old.searches first.rows can.numbered rounds.rows;
      stand = subst (λ (log : List (Entry Fact)). AllByRecursion (StandsBeside log) first.rows) (sym rounds.log) rows_stand;
      goes = each_nowhere first.rows;
      passes = subst (AllByRecursion (HasPass params.workers)) (sym rounds.log) can.passes;
    } in
    let ends = leads_go params.workers params.IsSize old.log first.rows first rounds.runs.0 rounds.last rounds.runs.1 begins in
    let funded = all_imply (StandsBeside old.log) (λ (row : Row Search). row.allowed ≤ row.held) (λ row stands. stands.allowed) first.rows rows_stand in
    record {
      ran = ran_to (Takes old) old.searches first.rows rounds.last.rows rounds.rows (runs_keep recording searching params.workers params.IsSize old.log sound first rounds.last funded rounds.runs) ends.goes;
      stand = ends.stand;
      legal = runs_legal recording searching exclusive params.workers params.IsSize old.log sound (asks old.searches) first rounds.last funded (rows_asked (Takes old) old.searches first.rows can.numbered rounds.rows) rounds.runs
          (subst (λ (log : List (Entry Fact)). LegalFrom IsValid key_of (asks old.searches) [] log) (sym rounds.log) can.legal);
      passes = ends.passes;
    }
