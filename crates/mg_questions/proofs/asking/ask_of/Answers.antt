use Rattle.std.proofs.Common.{◌∙◌}
use Rattle.mg_questions.proofs.Asked.{can_ask}
use Rattle.mg_questions.proofs.asking.ask_of.Goals as goal

pub new-requires : goal.new-requires
new-requires c =
    can_ask c.args.question.now c.in_ok-group.group c.in_ok-subgroup.subgroup c.in_ok-goals.goals c.requires
    c.in_default.ensures (c.in_ok-group.ensures ∙ c.asked_group.ensures) c.in_ok-subgroup.ensures c.in_ok-goals.ensures
