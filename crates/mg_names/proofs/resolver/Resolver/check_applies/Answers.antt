use Rattle.std.proofs.Common.{◌≡◌, Some, subst}
use Rattle.std.specs.Prelude.{slice_get}
use Rattle.mg_names.specs.Plan.{Plan}
use Rattle.mg_names.proofs.Causes.{not_applying_gets}
use Rattle.mg_names.proofs.resolver.Resolver.check_applies.Goals as goal

pub returns-then-not-applies : goal.returns-then-not-applies
returns-then-not-applies c scope keeps =
    let there : slice_get scope.plan.questions c.args.question ≡ Some c.requires.0 = subst (λ (p : Plan). slice_get p.questions c.args.question ≡ Some c.requires.0) keeps.plan c.requires.1 in
    not_applying_gets c.args.procedure c.args.place (slice_get scope.plan.questions c.args.question) c.requires.0 c.applies.result there
    (λ ask e. c.applies.ensures c.requires.0 ask c.requires.1 e) c.if-not-applies.true c.args.found.now c.offer.new.self c.offer.ensures
