-- What the program is asked to do.
use Rattle.std.specs.Prelude.{ℕ, Bool, List}
use Rattle.std.specs.Borrow.{Bor}
use Rattle.mg_command.specs.declared.command.Command.TheVariants.{Run, Check, Sample}
use Rattle.mg_command.specs.declared.command.PolicyName.{PolicyName}
use Rattle.mg_command.specs.declared.command.PolicyName.TheVariants.{Even, Doubling}
use Rattle.mg_command.specs.Words.{Says, texts}
use Rattle.mg_policy.specs.Sizes.{IsEven, IsDoubling}
use Rattle.mg_names.specs.Scope.{Scope}
use Rattle.mg_session.specs.State.{Params}
use Rattle.mg_session.specs.Scripts.{Resolves}
use Rattle.mg_top.specs.declared.status.Status.{Status}
use Rattle.mg_top.specs.declared.status.Status.TheVariants.{Done, ReadFault, WriteFault, ScriptRefused, NoMemory}

-- the sizes of turns by the policy of this name
abbrev pub sizes_of : PolicyName → ℕ → ℕ → ℕ → ℕ → Type 0
sizes_of Even turns spent allowed units = IsEven turns spent allowed units
sizes_of Doubling turns spent allowed units = IsDoubling turns spent allowed units

-- how a session runs with so many workers, by the policy of this name
abbrev pub params_of : ℕ → PolicyName → Params
params_of workers policy = record { workers = workers; IsSize = sizes_of policy }

-- the words are `run` with a number of workers and a policy of which this holds
abbrev pub AsRun : List (Bor (List ℕ)) → (ℕ → PolicyName → Type 0) → Type 0
AsRun words Holds = (workers : ℕ) × (policy : PolicyName) × Says (texts words) (Run workers policy) × Holds workers policy

-- the words are a form of `run`
abbrev pub IsRunCommand : List (Bor (List ℕ)) → Type 0
IsRunCommand words = (workers : ℕ) × (policy : PolicyName) × Says (texts words) (Run workers policy)

-- the words are a form of `check` or of `sample`, which aren't built
pub data IsOtherForm (words : List (Bor (List ℕ))) : Type 0 where
  is_check : Says (texts words) Check → IsOtherForm words
  is_sample : (number : ℕ) (runs : Bool) → Says (texts words) (Sample number runs) → IsOtherForm words

-- the script is accepted: it has a meaning
abbrev pub HasMeaning : List ℕ → Type 0
HasMeaning script = (scope : Scope) × Resolves script scope

-- the script was run
abbrev pub HasRun : Status → Type 0
HasRun Done = Unit {0}
HasRun WriteFault = Unit {0}
HasRun _ = ⊥

-- the script was read to its end
abbrev pub HasRead : Status → Type 0
HasRead (ScriptRefused r) = Unit {0}
HasRead status = HasRun status

-- the script was answered: run and written out, or stopped by a fault of the source or of the sink that was counted, or
-- by want of memory
abbrev pub IsAnswered : Status → (source_fault sink_fault : Type 0) → Type 0
IsAnswered Done source_fault sink_fault = Unit {0}
IsAnswered ReadFault source_fault sink_fault = source_fault
IsAnswered WriteFault source_fault sink_fault = sink_fault
IsAnswered NoMemory source_fault sink_fault = Unit {0}
IsAnswered _ source_fault sink_fault = ⊥
