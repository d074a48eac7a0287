-- What is printed of facts and verdicts.
use Rattle.std.specs.Prelude.{◌≡◌, ℕ, Some, List, [], ◌∷◌, ◌++◌, length, take, slice_get, Contains}
use Rattle.mg_core.specs.declared.entries.Entry.{Entry}
use Rattle.mg_core.specs.Log.{facts_of}
use Rattle.mg_workers.specs.Rows.{EachPair}
use Rattle.mg_present.specs.Ask.{Inquiry}
use Rattle.mg_names.specs.Plan.{Plan, PlanQuestion, Step, report, report_facts}
use Rattle.mg_certs.specs.Claim.{Verdict, affirmed, refuted, Fact, settled}
use Rattle.mg_report.specs.Report.{QuestionBlock}
use Rattle.mg_report.specs.Log.{Fate, kept, dropped_by, EntryLine, SumLine, log_text}
use Rattle.mg_session.specs.State.{State}
use Rattle.mg_session.specs.Output.{IsBlock}

-- of the records of a turn, those that were kept
abbrev pub kept_by : Fate → List Fact → List Fact
kept_by (kept count) records = records
kept_by (dropped_by fact) records = []

-- how many records of a turn are printed as kept
abbrev pub kept_count : Fate → ℕ
kept_count (kept count) = count
kept_count (dropped_by fact) = 0

-- the records of the entries that these lines print as kept, in order
abbrev pub kept_in : List (Entry Fact) → List EntryLine → List Fact
kept_in (entry ∷ log) (line ∷ lines) = kept_by line.fate entry.records ++ kept_in log lines
kept_in log lines = []

-- each line prints how many records of its entry were kept
abbrev pub CountKept : List (Entry Fact) → List EntryLine → Type 0
CountKept log lines =
    EachPair (λ entry line. kept_count line.fate ≡ length (kept_by line.fate entry.records)) log lines

-- the text of the log of a state, which shows of which entries the facts are the records
pub record IsLogOf (state : State) (text : List ℕ) : Type 0 where
  pub lines : List EntryLine
  pub sums : List SumLine
  pub text_is : text ≡ log_text lines sums
  pub facts : facts_of state.log ≡ kept_in state.log lines
  pub counted : CountKept state.log lines

-- the step prints the verdict, behind the Ask: in the block of a question, or in that of a fact
pub data PrintsVerdict (plan : Plan) (step : Step) (state : State) (ask : Inquiry) (verdict : Verdict) : Type 0 where
  in_question : (questions place n : ℕ) (question : PlanQuestion) (block : QuestionBlock) → step ≡ report questions →
      slice_get (take questions plan.questions) place ≡ Some question → IsBlock plan state place question block →
      block.ask ≡ ask → block.verdict ≡ Some (n, verdict) → PrintsVerdict plan step state ask verdict
  in_fact : step ≡ report_facts → Contains (facts_of state.log) (settled ask verdict) →
      PrintsVerdict plan step state ask verdict

-- a session with these states prints the verdict, behind the Ask, at one of its steps
pub record IsPrinted (plan : Plan) (states : List State) (ask : Inquiry) (verdict : Verdict) : Type 0 where
  pub place : ℕ
  pub step : Step
  pub step_there : slice_get plan.steps place ≡ Some step
  pub state : State
  pub state_there : slice_get states place ≡ Some state
  pub printed : PrintsVerdict plan step state ask verdict

-- two verdicts are both YES or both NO
abbrev pub Agree : Verdict → Verdict → Type 0
Agree (affirmed one) (affirmed other) = Unit {0}
Agree (affirmed one) (refuted goal model) = ⊥
Agree (refuted goal model) (affirmed one) = ⊥
Agree (refuted goal model) (refuted other against) = Unit {0}
