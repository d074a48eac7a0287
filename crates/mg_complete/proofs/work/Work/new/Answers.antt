use Rattle.std.proofs.Common.{refl, ap, ◌∙◌}
use Rattle.mg_complete.proofs.Starting.{first_works}
use Rattle.mg_complete.proofs.work.Work.new.Goals as goal

pub returns-clause-works : goal.returns-clause-works
returns-clause-works c = first_works _ (ap (λ a. a.subgroup) c.in_ok-copy.ensures ∙ c.requires) c.in_ok-new.ensures.rules c.in_ok-new.ensures.reasons c.in_ok-new.ensures.counted c.before_all.ensures.value refl
