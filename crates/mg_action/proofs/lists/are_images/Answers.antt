use Rattle.mg_action.proofs.Rows.{whole_divides}
use Rattle.mg_action.proofs.lists.are_images.Goals as goal

pub returns-then-images-degree-ne0 : goal.returns-then-images-degree-ne0
returns-then-images-degree-ne0 c = ((λ t. cc), λ whole. absurd (c.if-images-degree-ne0.true (whole_divides c.args.degree c.args.images.now whole)))
