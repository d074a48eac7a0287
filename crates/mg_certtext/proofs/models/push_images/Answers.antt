use Rattle.mg_certtext.proofs.Images.{behind_first, images_listed}
use Rattle.mg_certtext.proofs.models.push_images.Goals as goal

pub push_more_images-requires-clause-perms : goal.push_more_images-requires-clause-perms
push_more_images-requires-clause-perms c =
    let behind = behind_first c.args.degree c.requires.perms.0 c.args.images.now c.split_at.result.0.now c.split_at.result.1.now c.requires.points c.requires.perms.1 c.split_at.ensures.by_index.0 c.split_at.ensures.front_len in
    (behind.0, behind.2)

pub returns-clause-pushed : goal.returns-clause-pushed
returns-clause-pushed c perms are =
    images_listed c.push_more_images.result c.args.degree c.args.out.now.items c.push_numbers.new.out.items c.push_more_images.new.out.items perms c.args.images.now c.split_at.result.0.now c.split_at.result.1.now c.requires.points are
    c.split_at.ensures.by_index.0 c.split_at.ensures.front_len c.in_ok-push_numbers.ensures.pushed c.push_more_images.ensures.pushed
