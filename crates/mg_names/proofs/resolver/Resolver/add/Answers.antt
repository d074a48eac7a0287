use Rattle.std.proofs.Common.{OnOk, length, ap, subst, ◌∙◌}
use Rattle.mg_names.specs.declared.resolver.Resolver.{Resolver}
use Rattle.mg_names.specs.Keeping.{Keeps}
use Rattle.mg_names.specs.Name.{named_of}
use Rattle.mg_names.specs.Plan.{Plan}
use Rattle.mg_names.specs.Scope.{Scope}
use Rattle.mg_names.proofs.Adds.{some_question, names_kept, adds}
use Rattle.mg_names.proofs.resolver.Resolver.add.Goals as goal

pub declare-requires : goal.declare-requires
declare-requires c =
    names_kept c.requires.sound.scope c.args.self.now c.add_question.new.self _ some_question c.args.addition.counted.letters c.args.name.text.now c.requires.sound.keeps
    (c.in_ok-add_question.ensures c.requires.sound.scope some_question c.requires.sound.keeps) c.requires.new

pub returns : goal.returns
returns c scope a keeps to_add =
    subst (λ (s : Scope). OnOk c.declare.result (Keeps s c.declare.new.self))
    (adds scope (named_of c.args.name) a c.args.addition c.in_ok-text_of.field-0 (length c.as_slice.result.now) to_add c.in_ok-text_of.ensures
    (ap length c.as_slice.ensures ∙ ap (λ (r : Resolver). length r.plan.questions) c.self.view_is ∙ ap (λ (p : Plan). length p.questions) keeps.plan))
    (c.declare.ensures _ (c.in_ok-add_question.ensures scope a.question keeps))
