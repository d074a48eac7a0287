-- Bytes have one meaning, or are refused at one place, and never both.
use Rattle.std.proofs.Common.{◌≡◌, ℕ, List, ◌⊎◌, inl, inr, refl, subst}
use Rattle.mg_lex.specs.declared.refusal.Refused.{Refused}
use Rattle.mg_script.specs.declared.script.ScriptLine.{ScriptLine}
use Rattle.mg_script.proofs.Scripts.{one_script}
use Rattle.mg_script.proofs.Scripts as reading
use Rattle.mg_script.proofs.Total.{script_or_refusal}
use Rattle.mg_names.specs.Scope.{Scope, nothing}
use Rattle.mg_names.specs.Resolve.{Means, IsPlanOf}
use Rattle.mg_names.specs.Resolve as names
use Rattle.mg_names.proofs.Lines.{all_read}
use Rattle.mg_names.proofs.Refusals as resolving
use Rattle.mg_session.specs.Scripts.{Resolves, IsRefused, in_reading, in_resolving}

pub one_scope : (bytes : List ℕ) (scope other : Scope) → Resolves bytes scope → Resolves bytes other → scope ≡ other
one_scope bytes scope other a b =
    resolving.one_end nothing b.script scope other (subst (λ (script : List ScriptLine). Means script scope) (one_script bytes a.script b.script a.read b.read) a.means) b.means

resolved_not_refused : (script : List ScriptLine) (scope : Scope) (r : Refused) → Means script scope → names.IsRefused script r → ⊥
resolved_not_refused script scope r means refused = resolving.never_both script scope.plan r (scope, means, refl) refused

pub never_both : (bytes : List ℕ) (scope : Scope) (r : Refused) → Resolves bytes scope → IsRefused bytes r → ⊥
never_both bytes scope r a (in_reading refused) = reading.never_both bytes a.script r a.read refused
never_both bytes scope r a (in_resolving script read refused) =
    resolved_not_refused script scope r (subst (λ (s : List ScriptLine). Means s scope) (one_script bytes a.script script a.read read) a.means) refused

pub one_refusal : (bytes : List ℕ) (r s : Refused) → IsRefused bytes r → IsRefused bytes s → r ≡ s
one_refusal bytes r s (in_reading a) (in_reading b) = reading.one_refusal bytes r s a b
one_refusal bytes r s (in_reading a) (in_resolving script read b) = absurd (reading.never_both bytes script r read a)
one_refusal bytes r s (in_resolving script read a) (in_reading b) = absurd (reading.never_both bytes script s read b)
one_refusal bytes r s (in_resolving script read a) (in_resolving other read_too b) =
    resolving.one_refusal other r s (subst (λ (t : List ScriptLine). names.IsRefused t r) (one_script bytes script other read read_too) a) b

-- bytes have a meaning or are refused
pub meaning_or_refusal : (bytes : List ℕ) → ((scope : Scope) × Resolves bytes scope) ⊎ ((r : Refused) × IsRefused bytes r)
meaning_or_refusal bytes = elim (script_or_refusal bytes) [
  | inl read ↦ elim (resolving.plan_or_refusal read.0 (all_read bytes read.0 read.1)) [
    | inl planned ↦ inl (planned.1.0, record { script = read.0; read = read.1; means = planned.1.1 })
    | inr refused ↦ inr (refused.0, in_resolving read.0 read.1 refused.1)
  ]
  | inr refused ↦ inr (refused.0, in_reading refused.1)
]
