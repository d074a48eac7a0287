-- What is kept of a scope while statements are read, and what a statement brings.
use Rattle.std.specs.Prelude.{◌≡◌, ℕ, ◌-◌, ◌^◌, ◌<◌, Option, None, length}
use Rattle.mg_script.specs.declared.script.ScriptLine.{ScriptLine}
use Rattle.mg_names.specs.declared.resolver.Resolver.{Resolver}
use Rattle.mg_names.specs.Named.{Statement}
use Rattle.mg_names.specs.Scope.{Scope}
use Rattle.mg_names.specs.Meaning.{after}
use Rattle.mg_names.specs.Cause.{Shown, shown}
use Rattle.mg_names.specs.Least.{IsLeastOf}
use Rattle.mg_names.specs.Searches.{Holds}
use Rattle.mg_names.specs.Within.{IsScope}

-- all of a scope but what its questions ask
pub record Keeps (scope : Scope) (r : Resolver) : Type 0 where
  pub names : r.names ≡ scope.names
  pub plan : r.plan ≡ scope.plan
  pub letters : r.letters ≡ scope.letters
  pub searches : Holds scope.searches (length scope.plan.questions) r.searches

-- what is kept is of a scope in which all is within bounds
pub record IsSound (r : Resolver) : Type 0 where
  pub scope : Scope
  pub lines : ℕ
  pub keeps : Keeps scope r
  pub within : IsScope lines scope
  pub few : lines < 2 ^ 32 - 1

-- the least of the causes that a statement shows, and where it shows none what is kept with it
pub record Resolved (scope : Scope) (line : ScriptLine) (s : Statement) (found : Option Shown) (new : Resolver) : Type 0 where
  pub shows : IsLeastOf (shown scope line s) found
  pub keeps : found ≡ None → Keeps (after scope s) new
