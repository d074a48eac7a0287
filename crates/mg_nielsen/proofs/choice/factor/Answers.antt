use Rattle.std.proofs.Common.{◌∙◌}
use Rattle.mg_nielsen.proofs.Cancelling.{factor_second}
use Rattle.mg_nielsen.proofs.choice.factor.Goals as goal

pub returns-else-number-members : goal.returns-else-number-members
returns-else-number-members c =
    c.letters-else-number-members.ensures ∙ factor_second c.args.members.now c.args.number c.args.inverse c.index-members-number-else-number-members.result c.if-number-members.false c.requires c.index-members-number-else-number-members.is
