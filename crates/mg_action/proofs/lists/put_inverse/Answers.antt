use Rattle.std.proofs.Common.{◌∙◌, length}
use Rattle.mg_action.proofs.Permutations.{places_inverse}
use Rattle.mg_action.proofs.lists.put_inverse.Goals as goal

pub returns : goal.returns
returns c = places_inverse (length c.args.perm.now) c.args.perm.now c.put_places.new.out c.requires.perm (c.put_places.auto.out ∙ c.requires.fits) c.put_places.ensures
