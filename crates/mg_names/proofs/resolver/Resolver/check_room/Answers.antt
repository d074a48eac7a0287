use Rattle.std.proofs.Common.{◌<◌, ◌∙◌, sym, subst, length}
use Rattle.mg_lex.specs.declared.refusal.Cause.TheVariants as cause
use Rattle.mg_names.specs.Plan.{Plan}
use Rattle.mg_names.specs.Cause.{at}
use Rattle.mg_names.proofs.Causes.{room_gets}
use Rattle.mg_names.proofs.resolver.Resolver.check_room.Goals as goal

pub returns-then-is_full : goal.returns-then-is_full
returns-then-is_full c scope keeps =
    let less : c.args.question < length scope.plan.questions = subst (λ (p : Plan). c.args.question < length p.questions) keeps.plan c.requires.there in
    room_gets _ _ (at cause.TooMany c.args.place) c.args.found.now c.offer.new.self
    (sym (c.has.ensures scope.searches (length scope.plan.questions) keeps.searches less) ∙ c.if-not-has.true)
    (sym (c.is_full.ensures scope.searches (length scope.plan.questions) keeps.searches) ∙ c.if-is_full.true) c.offer.ensures
