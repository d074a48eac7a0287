-- What holds of all that statements declare, and of statements that are within the limits of scripts.
use Rattle.std.specs.Prelude.{◌≡◌, ℕ, ℤ, ◌<◌, ◌≤◌, Some, None, IfSome, List, length, slice_get}
use Rattle.std.specs.List.{AllByRecursion, AllZip}
use Rattle.mg_lex.specs.declared.limits.TheConstants.{LINE_LIMIT, NUMBER_LIMIT}
use Rattle.mg_present.specs.declared.presentation.TheConstants.{MOST_GENERATORS, MOST_RELATORS}
use Rattle.mg_present.specs.declared.ask.TheConstants.{MOST_SUBGROUP_WORDS}
use Rattle.mg_present.specs.Presentation.{IsPresented}
use Rattle.mg_questions.specs.declared.question.Question as questions
use Rattle.mg_questions.specs.Goals.{group_of, goals_of}
use Rattle.mg_questions.specs.Asking.{IsGiven, AreGiven, IsFit, AreAllowed}
use Rattle.mg_script.specs.Count.{IsBoundedTerm}
use Rattle.mg_script.specs.declared.script.ScriptLine.{ScriptLine}
use Rattle.mg_names.specs.declared.limits.TheConstants.{ASK_LETTER_LIMIT}
use Rattle.mg_names.specs.declared.plan.TheConstants.{MOST_SEARCHES}
use Rattle.mg_names.specs.Plan.{Plan, PlanGroup, PlanQuestion, plain}
use Rattle.mg_names.specs.IsPlan.{IsStep, GrantsOneOf}
use Rattle.mg_names.specs.Named.{Word, Relation, relator, equation, Question, equal, member, vanishes, central, has, Statement, group, word, subgroup, mapping, ask, fund, grant, run, cancel, report, plain_word, IsNamed}
use Rattle.mg_names.specs.Scope.{Object, a_group, a_word, a_subgroup, a_map, a_question, Scope}
use Rattle.mg_names.specs.Meaning.{ask_for, relations_in}
use Rattle.mg_names.specs.Sign.{IsReadable}

-- a group of a plan, with a name for each generator
pub record IsPlanGroup (g : PlanGroup) : Type 0 where
  pub presented : IsPresented g.group
  pub named : length g.generators ≡ g.group.generators

-- the group is declared at this place
abbrev pub IsGroupAt : Plan → ℕ → PlanGroup → Type 0
IsGroupAt plan place g = slice_get plan.groups place ≡ Some g

-- words for the group at a place
pub record HasWord (plan : Plan) (place : ℕ) (w : List ℤ) : Type 0 where
  pub group : PlanGroup
  pub there : IsGroupAt plan place group
  pub given : IsGiven group.group.generators w

pub record HasWords (plan : Plan) (place : ℕ) (ws : List (List ℤ)) : Type 0 where
  pub group : PlanGroup
  pub there : IsGroupAt plan place group
  pub given : AreGiven group.group.generators ws

-- images in the target of each generator of the source
pub record HasImages (plan : Plan) (source target : ℕ) (images : List (List ℤ)) : Type 0 where
  pub from : PlanGroup
  pub from_there : IsGroupAt plan source from
  pub to : PlanGroup
  pub to_there : IsGroupAt plan target to
  pub given : AreGiven to.group.generators images
  pub each : length images ≡ from.group.generators

-- an object speaks of groups and questions that are there
abbrev pub IsObject : Plan → Object → Type 0
IsObject plan (a_group place) = (g : PlanGroup) × IsGroupAt plan place g
IsObject plan (a_word home w) = HasWord plan home w
IsObject plan (a_subgroup home ws) = HasWords plan home ws
IsObject plan (a_map source target images) = HasImages plan source target images
IsObject plan (a_question place) = (q : PlanQuestion) × (slice_get plan.questions place ≡ Some q)

-- the question of a plan asks what a question asks, which may be asked, in a group that is there
pub record AsksFor (plan : Plan) (q : PlanQuestion) (question : questions.Question) : Type 0 where
  pub asked : q.asked ≡ plain (ask_for question)
  pub fit : IsFit question
  pub allowed : AreAllowed (goals_of question)
  pub group : PlanGroup
  pub there : IsGroupAt plan q.group group
  pub same : group.group ≡ group_of question

-- what so many statements come to
pub record IsScope (lines : ℕ) (scope : Scope) : Type 0 where
  pub groups : AllByRecursion IsPlanGroup scope.plan.groups
  pub names : AllByRecursion (λ d. IsObject scope.plan d.object) scope.names
  pub questions : AllZip (AsksFor scope.plan) scope.plan.questions scope.questions
  pub steps : AllByRecursion (IsStep scope.plan) scope.plan.steps
  pub letters : scope.letters ≤ ASK_LETTER_LIMIT
  pub searches : length scope.searches ≤ MOST_SEARCHES
  pub granted : AllByRecursion (GrantsOneOf scope.searches) scope.plan.steps
  pub few_groups : length scope.plan.groups ≤ lines
  pub few_questions : length scope.plan.questions ≤ lines
  pub few_steps : length scope.plan.steps ≤ lines

-- a word, and statements, within the limits of scripts
abbrev pub IsSizedWord : Word → Type 0
IsSizedWord w = IsBoundedTerm None (plain_word w)

abbrev pub IsSizedRelation : Relation → Type 0
IsSizedRelation (relator w) = IsSizedWord w
IsSizedRelation (equation u v) = IsSizedWord u × IsBoundedTerm (Some (plain_word u)) (plain_word v)

abbrev pub IsSizedQuestion : Question → Type 0
IsSizedQuestion (equal u v g) = IsSizedWord u × IsSizedWord v
IsSizedQuestion (member w h) = IsSizedWord w
IsSizedQuestion (vanishes w f) = IsSizedWord w
IsSizedQuestion (central w g) = IsSizedWord w
IsSizedQuestion (has n p) = Unit {0}

pub record IsSizedGroup (generators relations : ℕ) (rs : List Relation) : Type 0 where
  pub few_generators : generators ≤ MOST_GENERATORS
  pub few_relations : relations ≤ MOST_RELATORS
  pub each : AllByRecursion IsSizedRelation rs

pub record AreSizedWords (ws : List Word) : Type 0 where
  pub few : length ws ≤ MOST_SUBGROUP_WORDS
  pub each : AllByRecursion IsSizedWord ws

abbrev pub IsSized : Statement → Type 0
IsSized (group n generators rs) = IsSizedGroup (length generators) (length (relations_in rs)) (relations_in rs)
IsSized (word n g w) = IsSizedWord w
IsSized (subgroup n g ws) = AreSizedWords ws
IsSized (mapping n source target arrows) = AllByRecursion (λ a. IsSizedWord a.image) arrows
IsSized (ask n q) = IsSizedQuestion q
IsSized (fund units) = units ≤ NUMBER_LIMIT
IsSized (grant n p units) = units ≤ NUMBER_LIMIT
IsSized (run bound) = IfSome bound (λ units. units ≤ NUMBER_LIMIT)
IsSized (cancel n p) = Unit {0}
IsSized (report what) = Unit {0}

-- a line that is a statement within the limits
pub record IsReadLine (line : ScriptLine) : Type 0 where
  pub statement : Statement
  pub is_named : IsNamed line statement
  pub readable : IsReadable line
  pub places : AllByRecursion (λ t. t.start < LINE_LIMIT) line.tokens
  pub sized : IsSized statement
