-- What recalls have read of the models in a log.
use Rattle.std.specs.Prelude.{◌≡◌, ℕ, ◌≤◌, true, List, length, take, drop}
use Rattle.std.specs.List.{AllByRecursion}
use Rattle.mg_core.specs.declared.entries.Entry.{Entry}
use Rattle.mg_core.specs.Log.{ModelsAbove}
use Rattle.mg_present.specs.Ask.{Inquiry}
use Rattle.mg_certs.specs.Claim.{Model, Fact, model_of}
use Rattle.mg_certs.specs.Refuting.{RefutesNone}
use Rattle.mg_certs.specs.Validity.{recording}
use Rattle.mg_recall.specs.Recall.{Recall}
use Rattle.mg_search.specs.Search.{Search, plain, completing, enumerating, reducing, recalling}

-- a fact which is no model of the Ask's group that refutes a goal
abbrev pub RefutesNoGoal : Inquiry → Fact → Type 0
RefutesNoGoal ask fact = (model : Model) → fact ≡ model_of ask.group model → RefutesNone ask model

-- A recall has spent no more units than the log has models of its group. While it is open those with a number up to what
-- it has read are the first ones, as many as its units, and none of them refutes a goal.
pub record HasRead (log : List (Entry Fact)) (search : Recall) (read : ℕ) : Type 0 where
  pub models : List (ℕ × Fact)
  pub are_models : ModelsAbove recording.model_of log search.ask.group 0 models
  pub few : search.read ≤ length models
  pub others_unread : search.is_open ≡ true → ModelsAbove recording.model_of log search.ask.group read (drop search.read models)
  pub none_refutes : search.is_open ≡ true → AllByRecursion (λ found. RefutesNoGoal search.ask found.1) (take search.read models)

-- what a search has read of the models in the log, where it reads them
abbrev pub ReadsOf : List (Entry Fact) → Search → ℕ → Type 0
ReadsOf log (plain search) read = Unit {0}
ReadsOf log (completing search) read = Unit {0}
ReadsOf log (enumerating search) read = Unit {0}
ReadsOf log (reducing search) read = Unit {0}
ReadsOf log (recalling search) read = HasRead log search read
