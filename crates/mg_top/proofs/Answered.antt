-- What an answer of the program says of the bytes that the source gave.
use Rattle.std.proofs.Common.{ℕ, ◌<◌, ◌≤◌, List, length, subst, arith}
use Rattle.std.specs.Prelude.{Option, Some, None, IfSome, Result, Ok, Err, IfOk}
use Rattle.mg_io.specs.Bytes.{ReadsWhole}
use Rattle.mg_session.specs.State.{Params}
use Rattle.mg_session.specs.Scripts.{IsOutput}
use Rattle.mg_session.specs.declared.script.SessionRefused.{SessionRefused}
use Rattle.mg_session.proofs.Widening.{output_widens}
use Rattle.mg_top.specs.Command.{HasMeaning}

-- what holds of bytes that were read to their end holds of those that the source had
pub whole_then : (P : List ℕ → Type 0) (left new : Option (List ℕ)) (bytes : List ℕ) → ReadsWhole left new bytes → P bytes → IfSome left P
whole_then P None new bytes whole h = tt
whole_then P (Some all) new bytes whole h = subst P whole.0 h

pub has_meaning : (params : Params) (script output : List ℕ) → IsOutput script params output → HasMeaning script
has_meaning params script output legal = (legal.scope, legal.resolves)

-- bytes that are too long aren't short enough
pub long_not_short : (Q R : List ℕ → Type 0) (left : Option (List ℕ)) (limit : ℕ) → IfSome left (λ bytes. (limit < length bytes) × Q bytes) → IfSome left (λ bytes. length bytes ≤ limit → R bytes → ⊥)
long_not_short Q R None limit h = tt
long_not_short Q R (Some bytes) limit h = λ short r. let long = h.0 in absurd (omega arith)

-- an output with some params is one with wider ones
pub if_output : (params wide : Params) (bytes : List ℕ) (result : Result (List ℕ) SessionRefused) → params.workers ≤ wide.workers → ((turns spent allowed units : ℕ) → params.IsSize turns spent allowed units → wide.IsSize turns spent allowed units) →
    IfOk result (IsOutput bytes params) → IfOk result (IsOutput bytes wide)
if_output params wide bytes (Ok output) fewer wider h = output_widens params wide fewer wider bytes output h
if_output params wide bytes (Err e) fewer wider h = tt
