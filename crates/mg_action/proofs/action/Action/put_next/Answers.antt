use Rattle.std.proofs.Common.{◌≡◌, ◌∙◌, ◌++◌, ℕ, List, length, take, drop, map, ap, sym, subst}
use Rattle.std.specs.Simd.{first_chunks}
use Rattle.mg_numbers.specs.Perms.{PermTuple}
use Rattle.std.specs.List.{concat}
use Rattle.mg_action.specs.Permutation.{inverse_of}
use Rattle.mg_action.specs.Layout.{AreImages}
use Rattle.mg_action.specs.Next.{AreImagesAt}
use Rattle.mg_action.specs.Number.{IsNumbered}
use Rattle.mg_action.specs.Walk.{IsBehind}
use Rattle.mg_action.proofs.Beginnings.{place_in}
use Rattle.mg_action.proofs.Rows.{cut_images, kept_images, seen_as, tuple}
use Rattle.mg_action.proofs.NextTuples.{kept_at, images_after, numbered_behind, written}
use Rattle.mg_action.proofs.action.Action.put_next.Goals as goal

pub put_next_lists-requires-clause-lists : goal.put_next_lists-requires-clause-lists
put_next_lists-requires-clause-lists c =
    let d : ℕ = c.self.inside.degree in
    let g : ℕ = c.self.inside.generators in
    let xs : List ℕ = c.self.inside.images.items in
    let v : PermTuple = tuple d (first_chunks d g xs) in
    let at : AreImagesAt d g (place_in d v.images) c.as_mut_slice.result.now = subst (AreImagesAt d g (place_in d v.images)) (sym c.as_mut_slice.ensures.value) (kept_at v g xs c.self.inside.inverses.items _ _ c.self.invariant) in
    (place_in d v.images, at)

pub invariant_of-self : goal.invariant_of-self
invariant_of-self c =
    let d : ℕ = c.self.inside.degree in
    let g : ℕ = c.self.inside.generators in
    let xs : List ℕ = c.self.inside.images.items in
    let v : PermTuple = tuple d (first_chunks d g xs) in
    let at : AreImagesAt d g (place_in d v.images) c.as_mut_slice.result.now = subst (AreImagesAt d g (place_in d v.images)) (sym c.as_mut_slice.ensures.value) (kept_at v g xs c.self.inside.inverses.items _ _ c.self.invariant) in
    let ys : List ℕ = c.put_next_lists.new.lists in
    let whole : take c.self.inside.images.len (ys ++ drop (length ys) xs) ≡ ys = written c.self.inside.images.len ys xs c.as_mut_slice.result.now c.as_mut_slice.ensures.value c.put_next_lists.auto.lists c.self.inside.images.ok.0 in
    let us : List ℕ = c.self.inside.inverses.items in
    let zs : List ℕ = c.put_next_lists.new.inverses in
    let back : take c.self.inside.inverses.len (zs ++ drop (length zs) us) ≡ zs = written c.self.inside.inverses.len zs us c.as_mut_slice-2.result.now c.as_mut_slice-2.ensures.value c.put_next_lists.auto.inverses c.self.inside.inverses.ok.0 in
    let after = images_after d g c.args.depth (place_in d v.images) c.as_mut_slice.result.now ys c.put_next_lists.result at c.put_next_lists.ensures.next c.put_next_lists.ensures.first in
    let are : AreImages d after.0 (take c.self.inside.images.len (ys ++ drop (length ys) xs)) = subst (AreImages d after.0) (sym whole) after.1.0 in
    let inverses : take c.self.inside.inverses.len (zs ++ drop (length zs) us) ≡ concat (map inverse_of after.0) = back ∙ sym c.put_next_lists.ensures.inverses ∙ ap (λ t. concat (map inverse_of t)) (cut_images d g after.0 ys after.1.0 after.1.1) in
    kept_images d g after.0 (take c.self.inside.images.len (ys ++ drop (length ys) xs)) (take c.self.inside.inverses.len (zs ++ drop (length zs) us)) _ _ c.self.invariant.perms.points are after.1.1 inverses c.self.invariant.room c.self.invariant.back_room

pub returns-clause-count : goal.returns-clause-count
returns-clause-count c =
    let d : ℕ = c.self.inside.degree in
    let g : ℕ = c.self.inside.generators in
    let xs : List ℕ = c.self.inside.images.items in
    let v : PermTuple = tuple d (first_chunks d g xs) in
    let at : AreImagesAt d g (place_in d v.images) c.as_mut_slice.result.now = subst (AreImagesAt d g (place_in d v.images)) (sym c.as_mut_slice.ensures.value) (kept_at v g xs c.self.inside.inverses.items _ _ c.self.invariant) in
    let ys : List ℕ = c.put_next_lists.new.lists in
    let whole : take c.self.inside.images.len (ys ++ drop (length ys) xs) ≡ ys = written c.self.inside.images.len ys xs c.as_mut_slice.result.now c.as_mut_slice.ensures.value c.put_next_lists.auto.lists c.self.inside.images.ok.0 in
    let after = images_after d g c.args.depth (place_in d v.images) c.as_mut_slice.result.now ys c.put_next_lists.result at c.put_next_lists.ensures.next c.put_next_lists.ensures.first in
    let are : AreImages d after.0 (take c.self.inside.images.len (ys ++ drop (length ys) xs)) = subst (AreImages d after.0) (sym whole) after.1.0 in
    ap (λ (a : PermTuple). length a.images) (seen_as d g after.0 (take c.self.inside.images.len (ys ++ drop (length ys) xs)) are after.1.1) ∙ after.1.1 ∙ sym c.self.invariant.perms.count ∙ ap (λ (a : PermTuple). length a.images) c.self.view_is

pub returns-clause-next : goal.returns-clause-next
returns-clause-next c = λ yes.
    let d : ℕ = c.self.inside.degree in
    let g : ℕ = c.self.inside.generators in
    let xs : List ℕ = c.self.inside.images.items in
    let v : PermTuple = tuple d (first_chunks d g xs) in
    let ys : List ℕ = c.put_next_lists.new.lists in
    let whole : take c.self.inside.images.len (ys ++ drop (length ys) xs) ≡ ys = written c.self.inside.images.len ys xs c.as_mut_slice.result.now c.as_mut_slice.ensures.value c.put_next_lists.auto.lists c.self.inside.images.ok.0 in
    let new : PermTuple = tuple d (first_chunks d g (take c.self.inside.images.len (ys ++ drop (length ys) xs))) in
    subst (λ (a : PermTuple). (number after : ℕ) → IsNumbered (length a.images) a number → IsBehind a.degree (length a.images) c.args.depth number after → IsNumbered (length a.images) new after) c.self.view_is
    (subst (λ zs. (number after : ℕ) → IsNumbered (length v.images) v number → IsBehind d (length v.images) c.args.depth number after → IsNumbered (length v.images) (tuple d (first_chunks d g zs)) after) (sym whole)
    (numbered_behind v g c.args.depth xs c.self.inside.inverses.items ys _ _ c.self.invariant (λ place at. c.put_next_lists.ensures.next yes place (subst (AreImagesAt d g place) (sym c.as_mut_slice.ensures.value) at))))
