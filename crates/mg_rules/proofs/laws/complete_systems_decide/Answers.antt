use Rattle.std.proofs.Common.{List, ℤ, subst}
use Rattle.mg_rules.specs.Rule.{Descends}
use Rattle.mg_rules.proofs.Groups.{same_normal, normal_same}
use Rattle.mg_rules.proofs.laws.complete_systems_decide.Goals as goal

pub returns-clause-same : goal.returns-clause-same
returns-clause-same c group rules u v u' v' complete = same_normal group rules complete u v u' v'

pub returns-clause-exactly : goal.returns-clause-exactly
returns-clause-exactly c group rules u v u' v' complete sides h k normal normal' = (
  λ same. same_normal group rules complete u v u' v' same h k normal normal',
  λ equal. normal_same group rules sides u v v' (subst (λ (t : List ℤ). Descends rules u t) equal h) k,
)
