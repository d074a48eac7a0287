-- What is printed from the states of a session.
use Rattle.std.specs.Prelude.{◌≡◌, ℕ, ◌+◌, ◌<◌, ◌≤◌, ◌⊎◌, ◌&&◌, ◌==◌, true, false, Option, Some, None, List, [], ◌∷◌, length, map, filter, take, slice_get}
use Rattle.std.specs.List.{flat_map}
use Rattle.mg_core.specs.declared.entries.Entry.{Entry}
use Rattle.mg_core.specs.Log.{facts_of, VerdictIn}
use Rattle.mg_ledger.specs.declared.ledger.TheConstants.{MOST_FUNDED}
use Rattle.mg_words.specs.declared.procedure.Procedure.{Procedure}
use Rattle.mg_words.specs.declared.procedure.Procedure.TheVariants.{Derive, Act, Residue, Rewrite, Cosets, Nielsen, Recall}
use Rattle.mg_workers.specs.Rows.{EachPair, units_of}
use Rattle.mg_present.specs.Ask.{Inquiry}
use Rattle.mg_names.specs.Plan.{Plan, PlanGroup, PlanQuestion, plain, Step, fund, grant, run, cancel, report, report_facts, report_log}
use Rattle.mg_certs.specs.Claim.{Verdict, Fact, settled}
use Rattle.mg_certs.specs.Validity.{key_of}
use Rattle.mg_search.specs.Search.{procedure_of}
use Rattle.mg_report.specs.Report.{SearchLine, QuestionBlock, report_text}
use Rattle.mg_report.specs.Log.{kept, dropped_by, EntryLine, entry_line, SumLine, facts_text, log_text}
use Rattle.mg_report.specs.Refusals.{fund_refused, grant_refused, cancel_refused}
use Rattle.mg_session.specs.State.{State, SearchState, Params, asks}
use Rattle.mg_session.specs.Session.{IsAbsent, Session}

-- what the log says of an Ask: nothing, or the number of a fact and its verdict
abbrev pub IsVerdict : State → Inquiry → Option (ℕ × Verdict) → Type 0
IsVerdict state ask None = (n : ℕ) (fact : Fact) → VerdictIn key_of state.log ask n fact → ⊥
IsVerdict state ask (Some verdict) = VerdictIn key_of state.log ask verdict.0 (settled ask verdict.1)

-- the places of the procedures in their order
abbrev pub procedure_place : Procedure → ℕ
procedure_place Derive = 0
procedure_place Act = 1
procedure_place Residue = 2
procedure_place Rewrite = 3
procedure_place Cosets = 4
procedure_place Nielsen = 5
procedure_place Recall = 6

abbrev pub line_of : SearchState → SearchLine
line_of search = record {
  procedure = procedure_of search.search;
  account = search.account;
  end = search.end;
}

-- the lines of a question's searches, in the order of the procedures
abbrev pub lines_of : ℕ → List SearchState → List SearchLine
lines_of question searches =
    flat_map (λ place. map line_of (filter (λ search. (search.question == question) && (procedure_place (procedure_of search.search) == place)) searches))
    (0 ∷ 1 ∷ 2 ∷ 3 ∷ 4 ∷ 5 ∷ 6 ∷ [])

-- what a report says of the question at a place
pub record IsBlock (plan : Plan) (state : State) (place : ℕ) (question : PlanQuestion) (block : QuestionBlock) : Type 0 where
  pub name : block.name ≡ question.name
  pub group : PlanGroup
  pub group_there : slice_get plan.groups question.group ≡ Some group
  pub names : block.names ≡ group.generators
  pub asked : question.asked ≡ plain block.ask
  pub verdict : IsVerdict state block.ask block.verdict
  pub searches : block.searches ≡ lines_of place state.searches

-- what a report says of questions from a place on
abbrev pub AreBlocks : Plan → State → ℕ → List PlanQuestion → List QuestionBlock → Type 0
AreBlocks plan state place [] blocks = blocks ≡ []
AreBlocks plan state place (question ∷ questions) [] = ⊥
AreBlocks plan state place (question ∷ questions) (block ∷ blocks) = IsBlock plan state place question block × AreBlocks plan state (place + 1) questions blocks

-- the entry is printed so: with the number of its records, or of the verdict that it came too late for
pub data IsEntryLine (state : State) (entry : Entry Fact) (line : EntryLine) : Type 0 where
  is_kept : entry.dropped ≡ false → line ≡ entry_line entry (kept (length entry.records)) → IsEntryLine state entry line
  is_dropped : entry.dropped ≡ true → (ask : Inquiry) (n : ℕ) (fact : Fact) → asks state.searches entry ≡ Some ask → VerdictIn key_of state.log ask n fact →
      line ≡ entry_line entry (dropped_by n) → IsEntryLine state entry line

-- the units of a search's entries are printed so, with the name of its question
pub record IsSumLine (plan : Plan) (state : State) (search : SearchState) (sum : SumLine) : Type 0 where
  pub question : PlanQuestion
  pub question_there : slice_get plan.questions search.question ≡ Some question
  pub sum_is : sum ≡ record { search = search.number; name = question.name; procedure = procedure_of search.search; units = units_of search.number state.log }

-- what a step prints from the state before it; which facts were printed in full is handed along
abbrev pub TextOf : Plan → Params → List ℕ → Step → State → List ℕ → List ℕ → Type 0
TextOf plan params shown (fund units) state text shown' =
    (shown' ≡ shown) × (((state.funded + units ≤ MOST_FUNDED) × (text ≡ []))
    ⊎ ((MOST_FUNDED < state.funded + units) × (text ≡ fund_refused state.funded)))
TextOf plan params shown (grant question procedure units) state text shown' =
    (shown' ≡ shown) × (((units ≤ state.purse) × (text ≡ []))
    ⊎ ((state.purse < units) × (text ≡ grant_refused state.purse)))
TextOf plan params shown (run bound) state text shown' = (shown' ≡ shown) × (text ≡ [])
TextOf plan params shown (cancel question procedure) state text shown' =
    (shown' ≡ shown) × (((IsAbsent state question procedure → ⊥) × (text ≡ []))
    ⊎ (IsAbsent state question procedure × (text ≡ cancel_refused)))
TextOf plan params shown (report questions) state text shown' =
    (shown' ≡ shown) × (blocks : List QuestionBlock) × AreBlocks plan state 0 (take questions plan.questions) blocks × (text ≡ report_text state.funded state.purse blocks)
TextOf plan params shown report_facts state text shown' = (shown' ≡ shown) × (text ≡ facts_text (facts_of state.log))
TextOf plan params shown report_log state text shown' =
    (shown' ≡ shown) × (entries : List EntryLine) × EachPair (IsEntryLine state) state.log entries
    × (sums : List SumLine) × EachPair (IsSumLine plan state) state.searches sums × (text ≡ log_text entries sums)

-- the texts of these steps, each from the state before its step
abbrev pub Texts : Plan → Params → List ℕ → List Step → List State → List (List ℕ) → Type 0
Texts plan params shown [] states texts = texts ≡ []
Texts plan params shown (step ∷ steps) [] texts = ⊥
Texts plan params shown (step ∷ steps) (state ∷ states) [] = ⊥
Texts plan params shown (step ∷ steps) (state ∷ states) (text ∷ texts) = (shown' : List ℕ) × TextOf plan params shown step state text shown' × Texts plan params shown' steps states texts

-- an output of a plan: the texts of the steps of a session of it, in order
pub record Prints (plan : Plan) (params : Params) (output : List ℕ) : Type 0 where
  pub states : List State
  pub session : Session plan params states
  pub texts : List (List ℕ)
  pub texts_are : Texts plan params [] plan.steps states texts
  pub output_is : output ≡ flat_map (λ text. text) texts
