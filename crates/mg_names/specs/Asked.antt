-- What reading a question brings.
use Rattle.std.specs.Prelude.{◌≡◌, ℕ, Option, Some, None, List}
use Rattle.mg_questions.specs.Content.{content_of}
use Rattle.mg_names.specs.declared.home.Home.{Home}
use Rattle.mg_names.specs.declared.known.Known.{Known}
use Rattle.mg_names.specs.declared.asking.Asking as declared
use Rattle.mg_names.specs.declared.asking.Form.{Form}
use Rattle.mg_names.specs.declared.asking.Form.TheVariants.{Equality, Membership, InKernel, Centrality, Property}
use Rattle.mg_names.specs.Named.{Question, equal, member, vanishes, central, has}
use Rattle.mg_names.specs.Scope.{Scope}
use Rattle.mg_names.specs.Meaning.{group_at, Asking, question_named}
use Rattle.mg_names.specs.Cause.{Shown, in_question}
use Rattle.mg_names.specs.Sign.{Sign, question_signs}
use Rattle.mg_names.specs.Least.{Gets}
use Rattle.mg_names.specs.Within.{IsScope, IsSizedQuestion}

-- the names and the groups of a scope
pub record IsKnown (scope : Scope) (known : Known) : Type 0 where
  pub names : known.names.now ≡ scope.names
  pub groups : known.groups.now ≡ scope.plan.groups

-- they are those of a scope in which all is within bounds
pub record AreWithin (known : Known) : Type 0 where
  pub scope : Scope
  pub lines : ℕ
  pub is : IsKnown scope known
  pub within : IsScope lines scope

-- the group at a place, where words are read
pub record IsHome (scope : Scope) (place : ℕ) (home : Home) : Type 0 where
  pub names : home.names.now ≡ scope.names
  pub place_is : home.place ≡ place
  pub generators : home.generators.now ≡ (group_at scope place).generators

-- how a question is written
abbrev pub form_of : Question → Form
form_of (equal u v g) = Equality
form_of (member w h) = Membership
form_of (vanishes w f) = InKernel
form_of (central w g) = Centrality
form_of (has n p) = Property

-- a question within the limits stands here
pub record IsQuestionAhead (ss : List Sign) : Type 0 where
  pub question : Question
  pub written : ss ≡ question_signs question
  pub sized : IsSizedQuestion question

-- the same is asked, in the same group
pub record IsSameAsking (meant : Asking) (asking : declared.Asking) : Type 0 where
  pub group : asking.group ≡ meant.group
  pub content : content_of asking.question ≡ content_of meant.question

abbrev pub IsAnswer : Option Asking → Option declared.Asking → Type 0
IsAnswer (Some meant) (Some asking) = IsSameAsking meant asking
IsAnswer None None = Unit {0}
IsAnswer _ _ = ⊥

-- a question has been read
pub record IsQuestionRead (scope : Scope) (q : Question) (before after : Option Shown) (answer : Option declared.Asking) : Type 0 where
  pub causes : Gets (in_question scope q) before after
  pub same : IsAnswer (question_named scope q) answer
