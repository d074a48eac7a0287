use Rattle.std.proofs.Common.{◌≡◌, ◌∙◌, subst, length, arith}
use Rattle.std.proofs.lemmas.List.{length-set}
use Rattle.mg_action.specs.Layout.{PlacesUpTo}
use Rattle.mg_action.proofs.Permutations.{places_more}
use Rattle.mg_action.proofs.lists.put_places.Goals as goal

pub loop-place-preserved : goal.loop-place-preserved
loop-place-preserved c = record {
  count = length-set c.loop-place.out _ c.loop-place.place ∙ c.loop-place.invariant.count;
  places = places_more c.args.list.now c.loop-place.out c.loop-place.place c.requires.below c.loop-place.invariant.count c.loop-place-test.true c.loop-place.invariant.places;
}

pub returns : goal.returns
returns c =
    let all : c.loop-place.place ≡ length c.args.list.now = omega (arith, c.loop-place-test.false, c.loop-place.auto.place-end) in
    subst (λ n. PlacesUpTo n c.args.list.now c.loop-place.out) all c.loop-place.invariant.places
