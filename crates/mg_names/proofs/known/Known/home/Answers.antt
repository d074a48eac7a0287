use Rattle.std.proofs.Common.{ap, ◌∙◌}
use Rattle.mg_names.specs.Plan.{PlanGroup}
use Rattle.mg_names.specs.Scope.{Scope}
use Rattle.mg_names.proofs.Askings.{few_generators}
use Rattle.mg_names.proofs.known.Known.home.Goals as goal

pub invariant_of-result : goal.invariant_of-result
invariant_of-result c = record {
  few = few_generators c.args.self.now c.args.place c.requires.within c.requires.place c.behind-self.inside.generators
      (λ (scope : Scope) is. ap (λ (g : PlanGroup). g.generators) c.behind-self.view_is ∙ ap (λ (g : PlanGroup). g.generators) (c.group.ensures scope is));
}
