-- A session is one with more workers too, and one with a wider relation of sizes.
use Rattle.std.proofs.Common.{ℕ, ◌≤◌, List, [], ◌∷◌}
use Rattle.std.specs.Prelude.{Option}
use Rattle.mg_workers.proofs.Events.{runs_widen}
use Rattle.mg_names.specs.Plan.{Plan, Step, fund, grant, run, cancel, report, report_facts, report_log}
use Rattle.mg_certs.specs.Validity.{recording}
use Rattle.mg_search.specs.Search.{searching}
use Rattle.mg_session.specs.State.{State, SearchState, Params}
use Rattle.mg_session.specs.Run.{Rounds, Core, TakesPart, Idles, FurtherBy, RunStep}
use Rattle.mg_session.specs.Session.{After, Continues, Session}
use Rattle.mg_session.specs.Output.{TextOf, Texts, Prints}
use Rattle.mg_session.specs.Scripts.{IsOutput}

module _ (params wide : Params) (fewer : params.workers ≤ wide.workers) (wider : (turns spent allowed units : ℕ) → params.IsSize turns spent allowed units → wide.IsSize turns spent allowed units) where
  rounds_widen : (Takes : State → SearchState → Type 0) (old new : State) → Rounds params Takes old new → Rounds wide Takes old new
  rounds_widen Takes old new rounds = record {
    first = rounds.first;
    last = rounds.last;
    rows = rounds.rows;
    log = rounds.log;
    runs = runs_widen recording searching old.log params.workers wide.workers params.IsSize wide.IsSize fewer wider rounds.first rounds.last rounds.runs;
    finished = rounds.finished;
    new_is = rounds.new_is;
  }

  core_widens : (bound : Option ℕ) (old new : State) → Core params bound old new → Core wide bound old new
  core_widens bound old new core = record { rounds = rounds_widen TakesPart _ new core.rounds }

  further_widens : (plan : Plan) (old : State) (states : List State) (new : State) → FurtherBy plan params old states new → FurtherBy plan wide old states new
  further_widens plan old [] new h = h
  further_widens plan old (next ∷ states) new h = (h.0, h.1, rounds_widen Idles old h.1 h.2, h.3, further_widens plan next states new h.4)

  run_widens : (plan : Plan) (bound : Option ℕ) (old new : State) → RunStep plan params bound old new → RunStep plan wide bound old new
  run_widens plan bound old new step = record {
    inherited = step.inherited;
    inherit = step.inherit;
    ran = step.ran;
    core = core_widens bound step.inherited step.ran step.core;
    inherited_again = step.inherited_again;
    inherit_again = step.inherit_again;
    ran_on = step.ran_on;
    further = (step.further.0, further_widens plan step.inherited_again step.further.0 step.ran_on step.further.1);
    settled = step.settled;
    settle = step.settle;
    sides = step.sides;
  }

  after_widens : (plan : Plan) (step : Step) (old new : State) → After plan params step old new → After plan wide step old new
  after_widens plan (fund units) old new h = h
  after_widens plan (grant question procedure units) old new h = h
  after_widens plan (run bound) old new h = run_widens plan bound old new h
  after_widens plan (cancel question procedure) old new h = h
  after_widens plan (report questions) old new h = h
  after_widens plan report_facts old new h = h
  after_widens plan report_log old new h = h

  text_widens : (plan : Plan) (shown : List ℕ) (step : Step) (state : State) (text shown' : List ℕ) → TextOf plan params shown step state text shown' → TextOf plan wide shown step state text shown'
  text_widens plan shown (fund units) state text shown' h = h
  text_widens plan shown (grant question procedure units) state text shown' h = h
  text_widens plan shown (run bound) state text shown' h = h
  text_widens plan shown (cancel question procedure) state text shown' h = h
  text_widens plan shown (report questions) state text shown' h = h
  text_widens plan shown report_facts state text shown' h = h
  text_widens plan shown report_log state text shown' h = h

  continues_widen : (plan : Plan) (state : State) (steps : List Step) (later : List State) → Continues plan params state steps later → Continues plan wide state steps later
  continues_widen plan state [] later h = h
  continues_widen plan state (step ∷ steps) [] h = h
  continues_widen plan state (step ∷ steps) (next ∷ later) h = (after_widens plan step state next h.0, continues_widen plan next steps later h.1)

  session_widens : (plan : Plan) (states : List State) → Session plan params states → Session plan wide states
  session_widens plan [] h = h
  session_widens plan (state ∷ later) h = (h.0, continues_widen plan state plan.steps later h.1)

  texts_widen : (plan : Plan) (shown : List ℕ) (steps : List Step) (states : List State) (texts : List (List ℕ)) → Texts plan params shown steps states texts → Texts plan wide shown steps states texts
  texts_widen plan shown [] states texts h = h
  texts_widen plan shown (step ∷ steps) [] texts h = h
  texts_widen plan shown (step ∷ steps) (state ∷ states) [] h = h
  texts_widen plan shown (step ∷ steps) (state ∷ states) (text ∷ texts) h = (h.0, text_widens plan shown step state text h.0 h.1, texts_widen plan h.0 steps states texts h.2)

  pub prints_widen : (plan : Plan) (output : List ℕ) → Prints plan params output → Prints plan wide output
  prints_widen plan output prints = record {
    states = prints.states;
    session = session_widens plan prints.states prints.session;
    texts = prints.texts;
    texts_are = texts_widen plan [] plan.steps prints.states prints.texts prints.texts_are;
    output_is = prints.output_is;
  }

  pub output_widens : (bytes output : List ℕ) → IsOutput bytes params output → IsOutput bytes wide output
  output_widens bytes output is = record { scope = is.scope; resolves = is.resolves; prints = prints_widen is.scope.plan output is.prints }
