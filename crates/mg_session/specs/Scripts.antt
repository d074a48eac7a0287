-- What bytes are to a session: a script with a meaning, or refused.
use Rattle.std.specs.Prelude.{ℕ, List}
use Rattle.mg_lex.specs.declared.refusal.Refused.{Refused}
use Rattle.mg_script.specs.declared.script.ScriptLine.{ScriptLine}
use Rattle.mg_script.specs.Script.{IsScript}
use Rattle.mg_script.specs.Script as reading
use Rattle.mg_names.specs.Scope.{Scope}
use Rattle.mg_names.specs.Resolve.{Means}
use Rattle.mg_names.specs.Resolve as resolving
use Rattle.mg_session.specs.State.{Params}
use Rattle.mg_session.specs.Output.{Prints}

-- the bytes are a script, which means this scope
pub record Resolves (bytes : List ℕ) (scope : Scope) : Type 0 where
  pub script : List ScriptLine
  pub read : IsScript bytes script
  pub means : Means script scope

-- reading refuses the bytes there, or resolving their names does
pub data IsRefused (bytes : List ℕ) (r : Refused) : Type 0 where
  in_reading : reading.IsRefused bytes r → IsRefused bytes r
  in_resolving : (script : List ScriptLine) → IsScript bytes script → resolving.IsRefused script r → IsRefused bytes r

-- a legal output of the bytes: an output of the plan that they mean
pub record IsOutput (bytes : List ℕ) (params : Params) (output : List ℕ) : Type 0 where
  pub scope : Scope
  pub resolves : Resolves bytes scope
  pub prints : Prints scope.plan params output
