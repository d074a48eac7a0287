-- What a run of a session does to its searches.
use Rattle.std.proofs.Common.{◌≡◌, ℕ, ◌+◌, ◌≤◌, ◌⊎◌, Bool, true, false, List, [], ◌∷◌, ◌++◌, append_assoc, map, refl, ap, sym, ◌∙◌, subst, arith, inl, inr}
use Rattle.std.specs.Prelude.{Option, Some, None}
use Rattle.std.specs.List.{AllByRecursion}
use Rattle.std.proofs.lemmas.Bool.{cases_lt}
use Rattle.mg_core.specs.declared.entries.Entry.{Entry}
use Rattle.mg_core.specs.Log.{Settled}
use Rattle.mg_turn.specs.declared.outcome.TurnEnd.{TurnEnd}
use Rattle.mg_turn.specs.declared.outcome.TurnEnd.TheVariants as turns
use Rattle.mg_workers.specs.declared.held.End.{End}
use Rattle.mg_workers.specs.declared.held.End.TheVariants as ends
use Rattle.mg_workers.specs.Run.{Row, Begins, end_after, leaves_at}
use Rattle.mg_workers.specs.Rows.{EachPair}
use Rattle.mg_workers.proofs.Pairs.{pairs_then}
use Rattle.mg_workers.proofs.Events.{runs_begins}
use Rattle.mg_names.specs.Plan.{Plan}
use Rattle.mg_certs.specs.Claim.{Fact}
use Rattle.mg_certs.specs.Validity.{recording, key_of}
use Rattle.mg_search.specs.Search.{Search, searching, ask_of, procedure_of, Reads}
use Rattle.mg_session.specs.State.{State, SearchState, Params, row_taken, after_row}
use Rattle.mg_session.specs.Run.{after_rows, within_bound, allow, CanGoOn, TakesPart, Core, Idles, Rounds, FurtherBy, IsSettledTo, is_found, is_stopped, stays, Settle, RunStep}
use Rattle.mg_session.specs.StateOk.{HasVerdict, StandsBeside, StateOk}
use Rattle.mg_session.specs.RunOk.{reach, LeavesUnits, is_settled, is_open, IsRunTo, RunOk}
use Rattle.mg_session.proofs.Settling.{settled_grows}
use Rattle.mg_session.proofs.Events.{not_both}
use Rattle.mg_session.proofs.Rounds.{HasTurned, RanTo, rounds_run}
use Rattle.mg_session.proofs.States.{allow_ok, rounds_ok, ran_ok}

-- where the rounds of a run leave a search
pub record CoreTo (bound : Option ℕ) (log : List (Entry Fact)) (x y : SearchState) : Type 0 where
  pub question : y.question ≡ x.question
  pub number : y.number ≡ x.number
  pub procedure : procedure_of y.search ≡ procedure_of x.search
  pub reads : Reads x.search → Reads y.search
  pub ask : ask_of y.search ≡ ask_of x.search
  pub granted : y.account.granted ≡ x.account.granted
  pub rises : x.account.spent ≤ y.account.spent
  pub reached : y.account.spent + y.allowed ≡ reach bound x
  pub funded : y.allowed ≤ y.account.held
  pub total : y.account.held + y.account.spent ≡ x.account.held + x.account.spent
  pub ends : (Settled key_of log (ask_of x.search) → ⊥) → (y.account.spent ≡ reach bound x) ⊎ LeavesUnits y.end

-- a search that holds nothing has spent its reach
nothing_held : (bound : Option ℕ) (held : ℕ) → held ≡ 0 → within_bound bound held ≡ 0
nothing_held None held e = e
nothing_held (Some n) held e = omega arith

-- a row that left by a turn has a verdict or is over
left_by : (dropped : Bool) (end : TurnEnd Fact) → leaves_at (end_after dropped end) ≡ true → HasVerdict (end_after dropped end) ⊎ LeavesUnits (end_after dropped end)
left_by true end left = inl tt
left_by false turns.More left = absurd (not_both false left refl)
left_by false (turns.Found records) left = inl tt
left_by false (turns.Closed records) left = inr tt
left_by false turns.Idle left = inr tt
left_by false (turns.Stopped seen) left = absurd (not_both false left refl)
left_by false (turns.Full what count) left = inr tt

-- a search that could go on, or is closed or full
over_or_can : (end : End) → CanGoOn end ⊎ LeavesUnits end
over_or_can ends.Fresh = inl tt
over_or_can ends.More = inl tt
over_or_can ends.Found = inl tt
over_or_can ends.Closed = inr tt
over_or_can ends.Idle = inl tt
over_or_can ends.Stopped = inl tt
over_or_can (ends.Full what count) = inr tt
over_or_can ends.Cancelled = inl tt

module _ (bound : Option ℕ) (state : State) (log : List (Entry Fact)) (x : SearchState) (last : Row Search) (ran : RanTo (TakesPart state) (allow bound x) last) where
  first_is : ran.first ≡ row_taken ran.first.left (allow bound x)
  first_is = ran.is_row.row_is

  first_spent : ran.first.spent ≡ x.account.spent
  first_spent = ap (λ (r : Row Search). r.spent) first_is

  first_held : ran.first.held ≡ x.account.held
  first_held = ap (λ (r : Row Search). r.held) first_is

  first_allowed : ran.first.allowed ≡ within_bound bound x.account.held
  first_allowed = ap (λ (r : Row Search). r.allowed) first_is

  bound_within : (b : Option ℕ) (held : ℕ) → within_bound b held ≤ held
  bound_within None held = omega arith
  bound_within (Some n) held = omega arith

  spent_and_allowed : last.spent + last.allowed ≡ reach bound x
  spent_and_allowed =
      let balance = ran.keeps.balance in
      let kept_back = ran.keeps.kept_back in
      let within = ran.keeps.within in omega (arith, first_spent, first_held, first_allowed, bound_within bound x.account.held)

  spent_all : last.allowed ≡ 0 → last.spent ≡ reach bound x
  spent_all none = omega (arith, spent_and_allowed)

  -- a search that sat out
  sat_out : ran.first.left ≡ true → (Settled key_of state.log (ask_of x.search) → ⊥) → (last.spent ≡ reach bound x) ⊎ LeavesUnits last.end
  sat_out out unsettled =
      let same : last ≡ ran.first = ran.keeps.stays_left out in
      let spent : last.spent ≡ x.account.spent = ap (λ (r : Row Search). r.spent) same ∙ first_spent in
      let end : last.end ≡ x.end = ap (λ (r : Row Search). r.end) same ∙ ap (λ (r : Row Search). r.end) first_is in
      elim (cases_lt 0 x.account.held) [
        | inl some ↦ elim (over_or_can x.end) [
          | inl can ↦ absurd (not_both ran.first.left out (ran.is_row.takes.1 (record { holds = some; unsettled = unsettled; can_go_on = can })))
          | inr over ↦ inr (subst LeavesUnits (sym end) over)
        ]
        | inr none ↦ inl (let nothing : x.account.held ≡ 0 = omega arith in omega (arith, nothing_held bound x.account.held nothing))
      ]

  -- a search that took part and made no turn, or that made one
  took_part : ran.first.left ≡ false → StandsBeside log last → (last.left ≡ true) ⊎ (last.allowed ≡ 0) → (last ≡ ran.first) ⊎ HasTurned last → (Settled key_of log (ask_of last.search) → ⊥) → (last.spent ≡ reach bound x) ⊎ LeavesUnits last.end
  took_part took stands (inr none) turned unsettled = inl (spent_all none)
  took_part took stands (inl left) (inl same) unsettled = absurd (not_both ran.first.left (ap (λ (r : Row Search). r.left) (sym same) ∙ left) took)
  took_part took stands (inl left) (inr turned) unsettled =
      elim (left_by turned.dropped turned.last (ap leaves_at (sym turned.end) ∙ (sym turned.left ∙ left))) [
        | inl verdict ↦ absurd (unsettled (stands.end.verdict (subst HasVerdict (sym turned.end) verdict)))
        | inr over ↦ inr (subst LeavesUnits (sym turned.end) over)
      ]

  last_ask : ask_of last.search ≡ ask_of x.search
  last_ask = ran.keeps.key ∙ ap (λ (r : Row Search). ask_of r.search) first_is

  either : (left : Bool) → ran.first.left ≡ left → StandsBeside log last → (last.left ≡ true) ⊎ (last.allowed ≡ 0) → Begins state.log log → (Settled key_of log (ask_of x.search) → ⊥) → (last.spent ≡ reach bound x) ⊎ LeavesUnits last.end
  either true out stands finished begins unsettled =
      sat_out out (λ s. unsettled (subst (λ (l : List (Entry Fact)). Settled key_of l (ask_of x.search)) (sym begins.1) (settled_grows key_of state.log begins.0 (ask_of x.search) s)))
  either false took stands finished begins unsettled = took_part took stands finished ran.goes.turned (λ s. unsettled (subst (Settled key_of log) last_ask s))

  pub core_to : StandsBeside log last → (last.left ≡ true) ⊎ (last.allowed ≡ 0) → Begins state.log log → CoreTo bound log x (after_row (allow bound x) last)
  core_to stands finished begins =
      let balance = ran.keeps.balance in
      let rises = ran.keeps.rises in
      record {
        question = refl;
        number = refl;
        procedure = ran.goes.procedure ∙ ap (λ (r : Row Search). procedure_of r.search) first_is;
        reads = λ h. ran.goes.reads (subst (λ (r : Row Search). Reads r.search) (sym first_is) h);
        ask = last_ask;
        granted = refl;
        rises = omega (arith, first_spent);
        reached = spent_and_allowed;
        funded = ran.keeps.within;
        total = omega (arith, first_spent, first_held);
        ends = either ran.first.left refl stands finished begins;
      }

all_core_to : (bound : Option ℕ) (state : State) (log : List (Entry Fact)) (xs : List SearchState) (lasts : List (Row Search)) → EachPair (RanTo (TakesPart state)) (map (allow bound) xs) lasts → AllByRecursion (StandsBeside log) lasts →
    AllByRecursion (λ (row : Row Search). (row.left ≡ true) ⊎ (row.allowed ≡ 0)) lasts → Begins state.log log → EachPair (CoreTo bound log) xs (after_rows (map (allow bound) xs) lasts)
all_core_to bound state log [] [] ran stands finished begins = tt
all_core_to bound state log [] (last ∷ lasts) ran stands finished begins = absurd ran
all_core_to bound state log (x ∷ xs) [] ran stands finished begins = absurd ran
all_core_to bound state log (x ∷ xs) (last ∷ lasts) ran stands finished begins =
    (core_to bound state log x last ran.0 stands.0 finished.0 begins, all_core_to bound state log xs lasts ran.1 stands.1 finished.1 begins)

-- a search that sits out a further run, or reads on in it
module _ (bound : Option ℕ) (state : State) (log : List (Entry Fact)) (x y : SearchState) (core : CoreTo bound state.log x y) (last : Row Search) (ran : RanTo (Idles state) y last) where
  was_first : ran.first ≡ row_taken ran.first.left y
  was_first = ran.is_row.row_is

  was_spent : ran.first.spent ≡ y.account.spent
  was_spent = ap (λ (r : Row Search). r.spent) was_first

  was_held : ran.first.held ≡ y.account.held
  was_held = ap (λ (r : Row Search). r.held) was_first

  was_allowed : ran.first.allowed ≡ y.allowed
  was_allowed = ap (λ (r : Row Search). r.allowed) was_first

  reached_on : last.spent + last.allowed ≡ reach bound x
  reached_on =
      let balance = ran.keeps.balance in
      let kept_back = ran.keeps.kept_back in
      let within = ran.keeps.within in
      let reached = core.reached in
      let funded = core.funded in omega (arith, was_spent, was_held, was_allowed)

  same_ask : ask_of last.search ≡ ask_of x.search
  same_ask = ran.keeps.key ∙ ap (λ (r : Row Search). ask_of r.search) was_first ∙ core.ask

  ends_on : (left : Bool) → ran.first.left ≡ left → StandsBeside log last → (last.left ≡ true) ⊎ (last.allowed ≡ 0) → Begins state.log log → (Settled key_of log (ask_of x.search) → ⊥) → (last.spent ≡ reach bound x) ⊎ LeavesUnits last.end
  ends_on true out stands finished begins unsettled =
      let same : last ≡ ran.first = ran.keeps.stays_left out in
      let spent : last.spent ≡ y.account.spent = ap (λ (r : Row Search). r.spent) same ∙ was_spent in
      let end : last.end ≡ y.end = ap (λ (r : Row Search). r.end) same ∙ ap (λ (r : Row Search). r.end) was_first in
      elim (core.ends (λ s. unsettled (subst (λ (l : List (Entry Fact)). Settled key_of l (ask_of x.search)) (sym begins.1) (settled_grows key_of state.log begins.0 (ask_of x.search) s)))) [ inl all ↦ inl (spent ∙ all) | inr over ↦ inr (subst LeavesUnits (sym end) over) ]
  ends_on false took stands (inr none) begins unsettled = inl (let reached = reached_on in omega arith)
  ends_on false took stands (inl left) begins unsettled =
      elim ran.goes.turned [
        | inl same ↦ absurd (not_both ran.first.left (ap (λ (r : Row Search). r.left) (sym same) ∙ left) took)
        | inr turned ↦ elim (left_by turned.dropped turned.last (ap leaves_at (sym turned.end) ∙ (sym turned.left ∙ left))) [
          | inl verdict ↦ absurd (unsettled (subst (Settled key_of log) same_ask (stands.end.verdict (subst HasVerdict (sym turned.end) verdict))))
          | inr over ↦ inr (subst LeavesUnits (sym turned.end) over)
        ]
      ]

  pub further_to : StandsBeside log last → (last.left ≡ true) ⊎ (last.allowed ≡ 0) → Begins state.log log → CoreTo bound log x (after_row y last)
  further_to stands finished begins =
      let balance = ran.keeps.balance in
      let rises = ran.keeps.rises in
      let total = core.total in
      let rose = core.rises in
      record {
        question = core.question;
        number = core.number;
        procedure = ran.goes.procedure ∙ ap (λ (r : Row Search). procedure_of r.search) was_first ∙ core.procedure;
        reads = λ h. ran.goes.reads (subst (λ (r : Row Search). Reads r.search) (sym was_first) (core.reads h));
        ask = same_ask;
        granted = core.granted;
        rises = omega (arith, was_spent);
        reached = reached_on;
        funded = ran.keeps.within;
        total = omega (arith, was_spent, was_held);
        ends = ends_on ran.first.left refl stands finished begins;
      }

all_further_to : (bound : Option ℕ) (state : State) (log : List (Entry Fact)) (xs ys : List SearchState) (lasts : List (Row Search)) → EachPair (CoreTo bound state.log) xs ys → EachPair (RanTo (Idles state)) ys lasts → AllByRecursion (StandsBeside log) lasts →
    AllByRecursion (λ (row : Row Search). (row.left ≡ true) ⊎ (row.allowed ≡ 0)) lasts → Begins state.log log → EachPair (CoreTo bound log) xs (after_rows ys lasts)
all_further_to bound state log [] [] [] core ran stands finished begins = tt
all_further_to bound state log [] [] (last ∷ lasts) core ran stands finished begins = absurd ran
all_further_to bound state log [] (y ∷ ys) lasts core ran stands finished begins = absurd core
all_further_to bound state log (x ∷ xs) [] lasts core ran stands finished begins = absurd core
all_further_to bound state log (x ∷ xs) (y ∷ ys) [] core ran stands finished begins = absurd ran
all_further_to bound state log (x ∷ xs) (y ∷ ys) (last ∷ lasts) core ran stands finished begins =
    (further_to bound state log x y core.0 last ran.0 stands.0 finished.0 begins, all_further_to bound state log xs ys lasts core.1 ran.1 stands.1 finished.1 begins)

-- settling
settled_to : (bound : Option ℕ) (state : State) (x y z : SearchState) → CoreTo bound state.log x y → IsSettledTo state y z → IsRunTo bound state.log x z
settled_to bound state x y z h (is_found s k e) =
    subst (IsRunTo bound state.log x) (sym e) (record {
      question = h.question;
      number = h.number;
      procedure = h.procedure;
      ask = h.ask;
      granted = h.granted;
      rises = h.rises;
      within = let reached = h.reached in omega arith;
      ends = is_settled (subst (Settled key_of state.log) h.ask s) refl;
    })
settled_to bound state x y z h (is_stopped s k e) =
    subst (IsRunTo bound state.log x) (sym e) (record {
      question = h.question;
      number = h.number;
      procedure = h.procedure;
      ask = h.ask;
      granted = h.granted;
      rises = h.rises;
      within = let reached = h.reached in omega arith;
      ends = is_settled (subst (Settled key_of state.log) h.ask s) refl;
    })
settled_to bound state x y z h (stays unsettled e) =
    let unsettled_too : Settled key_of state.log (ask_of x.search) → ⊥ = (λ s. unsettled (subst (Settled key_of state.log) (sym h.ask) s)) in
    subst (IsRunTo bound state.log x) (sym e) (record {
      question = h.question;
      number = h.number;
      procedure = h.procedure;
      ask = h.ask;
      granted = h.granted;
      rises = h.rises;
      within = let reached = h.reached in omega arith;
      ends = is_open unsettled_too h.total (h.ends unsettled_too);
    })

begins_then : (a b c : List (Entry Fact)) → Begins a b → Begins b c → Begins a c
begins_then a b c h g = (h.0 ++ g.0, g.1 ∙ ap (λ l. l ++ g.0) h.1 ∙ append_assoc a h.0 g.0)

module _ (plan : Plan) where
  -- the rounds of a run
  pub record CoreOk (bound : Option ℕ) (old new : State) : Type 0 where
    pub log : Begins old.log new.log
    pub funded : new.funded ≡ old.funded
    pub searches : EachPair (CoreTo bound new.log) old.searches new.searches

  core_ok : (params : Params) (bound : Option ℕ) (old new : State) → Core params bound old new → StateOk plan params.workers old → CoreOk bound old new
  core_ok params bound old new core ok =
      let allowed : State = record old { searches = map (allow bound) old.searches } in
      let rounds = core.rounds in
      let can = allow_ok plan params.workers bound old ok in
      let run = rounds_run params TakesPart allowed new rounds (record { numbered = can.numbered; stand = can.stand; legal = can.legal; passes = can.passes }) in
      let grows = runs_begins recording searching params.workers params.IsSize old.log rounds.first rounds.last rounds.runs in
      let begins : Begins old.log rounds.last.log = subst (λ (l : List (Entry Fact)). Begins l rounds.last.log) rounds.log grows in
      let ran : CoreOk bound old (record allowed { searches = after_rows allowed.searches rounds.last.rows; log = rounds.last.log }) = record {
        log = begins;
        funded = refl;
        searches = all_core_to bound allowed rounds.last.log old.searches rounds.last.rows run.ran run.stand rounds.finished begins;
      } in
      subst (CoreOk bound old) (sym rounds.new_is) ran

  -- further runs are rounds of the same run
  further_ok : (params : Params) (bound : Option ℕ) (first old : State) (states : List State) (new : State) → FurtherBy plan params old states new → StateOk plan params.workers old → CoreOk bound first old → CoreOk bound first new
  further_ok params bound first old [] new h ok core = subst (CoreOk bound first) (sym h.1) core
  further_ok params bound first old (next ∷ states) new h ok core =
      let mid = h.1 in
      let rounds : Rounds params Idles old mid = h.2 in
      let run = rounds_run params Idles old mid rounds (record { numbered = ok.numbered; stand = ok.stand; legal = ok.legal; passes = ok.passes }) in
      let grows = runs_begins recording searching params.workers params.IsSize old.log rounds.first rounds.last rounds.runs in
      let begins : Begins old.log rounds.last.log = subst (λ (l : List (Entry Fact)). Begins l rounds.last.log) rounds.log grows in
      let ran : CoreOk bound first (record old { searches = after_rows old.searches rounds.last.rows; log = rounds.last.log }) = record {
        log = begins_then first.log old.log rounds.last.log core.log begins;
        funded = core.funded;
        searches = all_further_to bound old rounds.last.log first.searches old.searches rounds.last.rows core.searches run.ran run.stand rounds.finished begins;
      } in
      let after : CoreOk bound first next = subst (CoreOk bound first) (sym h.3) (subst (CoreOk bound first) (sym rounds.new_is) ran) in
      further_ok params bound first next states new h.4 (subst (StateOk plan params.workers) (sym h.3) (rounds_ok plan params.workers params Idles old mid refl rounds ok)) after

  settle_ok : (bound : Option ℕ) (old mid new : State) → CoreOk bound old mid → Settle mid new → RunOk bound old new
  settle_ok bound old mid new h settle =
      let after : RunOk bound old (record mid { purse = new.purse; searches = new.searches }) = record {
        log = h.log;
        funded = h.funded;
        searches = pairs_then (CoreTo bound mid.log) (IsSettledTo mid) (IsRunTo bound mid.log) (settled_to bound mid) old.searches mid.searches new.searches h.searches settle.searches;
      } in
      subst (RunOk bound old) (sym settle.new_is) after

  -- what the rounds and the further runs of a run make of its searches
  pub run_comes : (params : Params) (bound : Option ℕ) (old new : State) (step : RunStep plan params bound old new) → StateOk plan params.workers old → CoreOk bound old step.ran_on
  run_comes params bound old new step ok =
      let inherited = subst (StateOk plan params.workers) (sym step.inherit) ok in
      let ran = core_ok params bound step.inherited step.ran step.core inherited in
      let from_old : CoreOk bound old step.ran = subst (λ (s : State). CoreOk bound s step.ran) step.inherit ran in
      let again_ok = subst (StateOk plan params.workers) (sym step.inherit_again) (ran_ok plan params.workers params bound old new refl step ok) in
      let again : CoreOk bound old step.inherited_again = subst (CoreOk bound old) (sym step.inherit_again) from_old in
      further_ok params bound old step.inherited_again step.further.0 step.ran_on step.further.1 again_ok again

  -- every run is in order
  pub run_is_ok : (params : Params) (bound : Option ℕ) (old new : State) → RunStep plan params bound old new → StateOk plan params.workers old → RunOk bound old new
  run_is_ok params bound old new step ok = subst (RunOk bound old) (sym step.sides) (settle_ok bound old step.ran_on step.settled (run_comes params bound old new step ok) step.settle)
