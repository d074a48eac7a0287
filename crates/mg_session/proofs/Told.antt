-- What is told of a script that is refused.
use Rattle.std.proofs.Common.{◌≡◌, ℕ, List}
use Rattle.std.specs.Prelude.{Result, Err}
use Rattle.mg_lex.specs.declared.refusal.Refused.{Refused}
use Rattle.mg_script.specs.declared.script.ScriptLine.{ScriptLine}
use Rattle.mg_script.specs.Script.{IsScript}
use Rattle.mg_names.specs.declared.resolving.ResolveRefused.{ResolveRefused}
use Rattle.mg_names.specs.declared.resolving.ResolveRefused.TheVariants as resolve
use Rattle.mg_names.specs.Resolve as resolving
use Rattle.mg_session.specs.Refusing.{of_resolving}
use Rattle.mg_session.specs.declared.script.SessionRefused.TheVariants.{Script}
use Rattle.mg_session.specs.Scripts as scripts

-- where resolving refuses a script, that is told
pub told_by_names : {T : Type 0} (bytes : List ℕ) (script : List ScriptLine) (e : ResolveRefused) → IsScript bytes script →
    ((r : Refused) → ◌≡◌ {A = Result T ResolveRefused} (Err e) (Err (resolve.Refused r)) → resolving.IsRefused script r) → (r : Refused) → of_resolving e ≡ Script r → scripts.IsRefused bytes r
told_by_names {T} bytes script (resolve.Refused q) read refused r told =
    let same : q ≡ r = cc told in scripts.in_resolving script read (refused r (cc same))
told_by_names {T} bytes script resolve.NoMemory read refused r told = absurd (cc told)
