-- The plan that the statements of a script mean, and where a script is refused that has none.
use Rattle.std.specs.Prelude.{◌≡◌, ◌≤◌, List, [], ◌∷◌, ◌++◌}
use Rattle.mg_lex.specs.declared.refusal.Refused.{Refused}
use Rattle.mg_lex.specs.Refusal.{place_of}
use Rattle.mg_script.specs.declared.script.ScriptLine.{ScriptLine}
use Rattle.mg_names.specs.Plan.{Plan}
use Rattle.mg_names.specs.Named.{Statement, IsNamed}
use Rattle.mg_names.specs.Scope.{Scope, nothing}
use Rattle.mg_names.specs.Meaning.{after}
use Rattle.mg_names.specs.Cause.{shown, IsFirst}

-- the statements show no cause, one after another, and lead from one scope to another
abbrev pub Leads : Scope → List ScriptLine → Scope → Type 0
Leads scope [] end = end ≡ scope
Leads scope (line ∷ lines) end = (s : Statement) × IsNamed line s × (shown scope line s ≡ []) × Leads (after scope s) lines end

-- the script means this scope, and so its plan
abbrev pub Means : List ScriptLine → Scope → Type 0
Means script scope = Leads nothing script scope

abbrev pub IsPlanOf : List ScriptLine → Plan → Type 0
IsPlanOf script plan = (scope : Scope) × Means script scope × (plan ≡ scope.plan)

-- the refusal names the first line whose statement shows a cause, and the first cause that it shows
pub record IsRefused (script : List ScriptLine) (r : Refused) : Type 0 where
  pub front : List ScriptLine
  pub line : ScriptLine
  pub back : List ScriptLine
  pub split : script ≡ front ++ line ∷ back
  pub scope : Scope
  pub before : Leads nothing front scope
  pub statement : Statement
  pub is_named : IsNamed line statement
  pub numbered : r.line ≡ line.number
  pub column : 1 ≤ r.column
  pub first : IsFirst (shown scope line statement) (record { place = place_of r; cause = r.cause })
