use Rattle.std.proofs.Common.{◌≡◌, ◌*◌, length, sym, ap, ◌∙◌, arith}
use Rattle.mg_action.proofs.Rows.{length-rows, long_perms}
use Rattle.mg_action.proofs.Reading.{none_whole}
use Rattle.mg_action.proofs.depths.refused_depth.Goals as goal

whole : (c : goal.After-images-whole) → length c.images-whole.result.now ≡ length c.args.action.now.images * c.args.action.now.degree
whole c =
    let action = c.args.action.now in
    sym (ap length c.images-whole.ensures.joined) ∙ length-rows action.degree action.images (long_perms action.degree action.images c.degree-points.ensures.perms.perms)

pub relators_depth-by_relators-requires-clause-none : goal.relators_depth-by_relators-requires-clause-none
relators_depth-by_relators-requires-clause-none c = none_whole c.args.ask.now c.args.action.now _ c.degree-points.ensures.perms (whole c) c.requires.refused

pub returns-clause-whole : goal.returns-clause-whole
returns-clause-whole c =
    let action = c.args.action.now in
    let size : length c.images-whole.result.now ≡ length action.images * action.degree =
    sym (ap length c.images-whole.ensures.joined) ∙ length-rows action.degree action.images (long_perms action.degree action.images c.degree-points.ensures.perms.perms) in
    omega (arith, size, c.goals_depth.ensures.most, c.subgroup_depth-by_subgroup.ensures.most, c.relators_depth-by_relators.ensures.most)
