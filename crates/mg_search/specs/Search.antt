-- Searches of all procedures.
use Rattle.std.specs.Prelude.{◌≡◌, ℕ, Bool, List, min}
use Rattle.mg_core.specs.declared.entries.Facts.{Facts}
use Rattle.mg_turn.specs.declared.outcome.Outcome.{Outcome}
use Rattle.mg_turn.specs.Turn.{Searching}
use Rattle.mg_words.specs.declared.procedure.Procedure.{Procedure}
use Rattle.mg_words.specs.declared.procedure.Procedure.TheVariants.{Rewrite, Cosets, Nielsen, Recall}
use Rattle.mg_numbers.specs.Perms.{PermTuple}
use Rattle.mg_present.specs.Presentation.{Group}
use Rattle.mg_present.specs.Ask.{Inquiry, IsAsked}
use Rattle.mg_present.specs.Applies.{Applies}
use Rattle.mg_certs.specs.Claim.{Fact, action}
use Rattle.mg_certs.specs.Refuting.{PublishesNo}
use Rattle.mg_complete.specs.Completion.{Completion, IsKept as IsCompleted, first_search as first_completion}
use Rattle.mg_complete.specs.Publishing.{Publishes as CompletionPublishes}
use Rattle.mg_complete.specs.Turn.{CompletionTurn}
use Rattle.mg_recall.specs.declared.recall.TheConstants.{MOST_MODELS}
use Rattle.mg_recall.specs.Recall.{Recall as Reading, RecallTurn, IsStarted as RecallStarted, HasPublished as ReadingPublished}
use Rattle.mg_plain.specs.Plain.{Plain, PlainTurn, IsStarted, IsSearched, HasPublished as PlainPublished}
use Rattle.mg_cosets.specs.Cosets.{Cosets as Enumeration, CosetsTurn, IsStarted as CosetsStarted, IsKept as IsEnumerated, ActsBy}
use Rattle.mg_nielsen.specs.Moves.{Nielsen as Reduction, IsKept}
use Rattle.mg_nielsen.specs.Turn.{NielsenTurn, NoRest, Publishes as ReductionPublishes, first_search}

-- any search: one that tests numbered objects, completion, an enumeration of cosets, Nielsen reduction, or one that reads
-- models
pub data Search : Type 0 where
  plain : Plain → Search
  completing : Completion → Search
  enumerating : Enumeration → Search
  reducing : Reduction → Search
  recalling : Reading → Search

abbrev pub ask_of : Search → Inquiry
ask_of (plain search) = search.ask
ask_of (completing search) = search.ask
ask_of (enumerating search) = search.ask
ask_of (reducing search) = search.ask
ask_of (recalling search) = search.ask

abbrev pub procedure_of : Search → Procedure
procedure_of (plain search) = search.procedure
procedure_of (completing search) = Rewrite
procedure_of (enumerating search) = Cosets
procedure_of (reducing search) = Nielsen
procedure_of (recalling search) = Recall

abbrev pub units_spent : Search → ℕ
units_spent (plain search) = search.cursor
units_spent (completing search) = search.spent
units_spent (enumerating search) = search.spent
units_spent (reducing search) = search.spent
units_spent (recalling search) = search.read

abbrev pub is_open : Search → Bool
is_open (plain search) = search.is_open
is_open (completing search) = search.is_open
is_open (enumerating search) = search.is_open
is_open (reducing search) = search.is_open
is_open (recalling search) = search.is_open

-- how many models it wants for so many units: recall one for each, and 64 at most, and the others none
abbrev pub models_wanted : Search → ℕ → ℕ
models_wanted (plain search) units = 0
models_wanted (completing search) units = 0
models_wanted (enumerating search) units = 0
models_wanted (reducing search) units = 0
models_wanted (recalling search) units = min units MOST_MODELS

-- whether a search reads models that others publish
abbrev pub Reads : Search → Type 0
Reads (plain search) = ⊥
Reads (completing search) = ⊥
Reads (enumerating search) = ⊥
Reads (reducing search) = ⊥
Reads (recalling search) = Unit {0}

-- a search of this kind which the turn leads to
abbrev pub LeadsTo : {S : Type 0} → (S → Search) → (S → Type 0) → Search → Type 0
LeadsTo {S} kind Turn after = (search : S) × (after ≡ kind search) × Turn search

-- the turns that a search may make; it stays of its kind
abbrev pub SearchTurn : Search → ℕ → Facts Fact → Outcome Fact → Search → Type 0
SearchTurn (plain search) units facts outcome after = LeadsTo plain (PlainTurn search units outcome) after
SearchTurn (completing search) units facts outcome after = LeadsTo completing (CompletionTurn search units outcome) after
SearchTurn (enumerating search) units facts outcome after = LeadsTo enumerating (CosetsTurn search units outcome) after
SearchTurn (reducing search) units facts outcome after = LeadsTo reducing (NielsenTurn search units outcome) after
SearchTurn (recalling search) units facts outcome after = LeadsTo recalling (RecallTurn search facts outcome) after

-- a search of this kind
abbrev pub IsKind : {S : Type 0} → (S → Search) → Search → Type 0
IsKind {S} kind other = (search : S) × (other ≡ kind search)

-- the other search is of the kind of the first
abbrev pub IsAlike : Search → Search → Type 0
IsAlike (plain search) other = IsKind plain other
IsAlike (completing search) other = IsKind completing other
IsAlike (enumerating search) other = IsKind enumerating other
IsAlike (reducing search) other = IsKind reducing other
IsAlike (recalling search) other = IsKind recalling other

-- a search of this kind by its one procedure, which may be used for the Ask, that has just been started
pub record StartsAs {S : Type 0} (own procedure : Procedure) (IsFirst : Inquiry → S → Type 0) (ask : Inquiry) (search : S) : Type 0 where
  pub by : procedure ≡ own
  pub asked : IsAsked ask
  pub applies : Applies own ask
  pub first : IsFirst ask search

-- a search of the procedure that has just been started for the Ask
abbrev pub Opens : Procedure → Inquiry → Search → Type 0
Opens procedure ask (plain search) = IsStarted procedure ask search
Opens procedure ask (completing search) = StartsAs Rewrite procedure (λ asked first. first ≡ first_completion asked) ask search
Opens procedure ask (enumerating search) = StartsAs Cosets procedure CosetsStarted ask search
Opens procedure ask (reducing search) = StartsAs Nielsen procedure (λ asked first. first ≡ first_search asked) ask search
Opens procedure ask (recalling search) = StartsAs Recall procedure RecallStarted ask search

-- what the states of a search keep from its start on; what recall has read is said of it beside a log
abbrev pub InRow : Search → Type 0
InRow (plain search) = IsSearched search
InRow (completing search) = IsCompleted search
InRow (enumerating search) = IsEnumerated search
InRow (reducing search) = IsKept search
InRow (recalling search) = Unit {0}

-- what a search has published that has found
abbrev pub HasPublished : Search → List Fact → Type 0
HasPublished (plain search) records = PlainPublished search records
HasPublished (completing search) records = CompletionPublishes search records
HasPublished (enumerating search) records = (perms : PermTuple) × ActsBy search perms × PublishesNo search.ask (action perms) records
HasPublished (reducing search) records = NoRest search × ReductionPublishes search records
HasPublished (recalling search) records = ReadingPublished search records

-- a search that tests numbered objects, one for each unit
abbrev pub TestsNumbered : Search → Type 0
TestsNumbered (plain search) = Unit {0}
TestsNumbered (completing search) = ⊥
TestsNumbered (enumerating search) = ⊥
TestsNumbered (reducing search) = ⊥
TestsNumbered (recalling search) = ⊥

-- what searches of all procedures mean to a run
abbrev pub searching : Searching Fact Inquiry Group Search
searching = record {
  key = ask_of;
  group = λ search. (ask_of search).group;
  spent = units_spent;
  is_open = is_open;
  wants = models_wanted;
  turns = SearchTurn;
}
