use Rattle.std.proofs.Common.{replicate, ◌∷◌, []}
use Rattle.mg_action.proofs.Rows.{one_point}
use Rattle.mg_action.proofs.action.Action.of_one_point.Goals as goal

pub from_images-requires-clause-perms : goal.from_images-requires-clause-perms
from_images-requires-clause-perms c = (replicate c.args.generators (0 ∷ []), one_point c.args.generators 64 c.requires)

pub returns : goal.returns
returns c = c.from_images.ensures (replicate c.args.generators (0 ∷ [])) (one_point c.args.generators 64 c.requires)
