use Rattle.std.proofs.Common.{◌≡◌, ◌∙◌, ◌+◌, ◌*◌, ◌≤◌, ℕ, List, length, replicate, ap, sym, subst, arith}
use Rattle.std.proofs.Math.Nat.{mul-le-mul}
use Rattle.std.proofs.lemmas.List.{length-take-le}
use Rattle.mg_numbers.specs.Perms.{PermTuple, perm_tuples_below}
use Rattle.mg_numbers.proofs.PermsLaws.{perm_tuple_of_block}
use Rattle.mg_action.specs.Layout.{AreImages}
use Rattle.mg_action.specs.Number.{IsNumbered}
use Rattle.mg_action.proofs.Rows.{placed_perms, placed_count, kept_images, seen_as, length-rows, long_perms}
use Rattle.mg_action.proofs.action.Action.put_number.Goals as goal

-- there are as many permutations as before
generators : (c : goal.After-put_inverses-arg-1) → length c.args.self.now.images ≡ c.self.inside.generators
generators c = sym (ap (λ (a : PermTuple). length a.images) c.self.view_is) ∙ c.self.invariant.perms.count

-- and as many places
places : (c : goal.After-put_inverses-arg-1) → length c.perm_places.new.out ≡ c.self.inside.generators
places c = c.perm_places.auto.out ∙ length-take-le c.self.inside.generators (replicate 64 0) (omega (arith, generators c, c.requires.few))

count : (c : goal.After-put_inverses-arg-1) → length c.put_perms.ensures.perms.0 ≡ c.self.inside.generators
count c = let new = c.put_perms.ensures.perms in placed_count c.action_block-block.result.size c.perm_places.new.out new.0 new.2 ∙ places c

are : (c : goal.After-put_inverses-arg-1) → AreImages c.action_block-block.result.size c.put_perms.ensures.perms.0 c.put_perms.new.list.items
are c =
    let new = c.put_perms.ensures.perms in
    record { each = placed_perms c.action_block-block.result.size c.perm_places.new.out new.0 new.2; joined = new.1 }

lent : (c : goal.After-put_inverses-arg-1) → AreImages c.action_block-block.result.size c.put_perms.ensures.perms.0 c.deref.result.now
lent c = subst (AreImages c.action_block-block.result.size c.put_perms.ensures.perms.0) (sym c.deref.ensures.value) (are c)

pub put_inverses-requires-clause-perms : goal.put_inverses-requires-clause-perms
put_inverses-requires-clause-perms c = (c.put_perms.ensures.perms.0, lent c)

pub put_inverses-requires-clause-room : goal.put_inverses-requires-clause-room
put_inverses-requires-clause-room c =
    let new = c.put_perms.ensures.perms in
    let size = c.action_block-block.result.size in
    let most : length new.0 * size ≤ c.self.inside.generators * 21 = mul-le-mul (omega (arith, count c)) c.action_block-block.ensures.small in
    omega (arith, ap length c.deref.ensures.value, ap length new.1, length-rows size new.0 (long_perms size new.0 (are c).each), most, c.self.invariant.back_room)

pub invariant_of-self : goal.invariant_of-self
invariant_of-self c =
    let perms : List (List ℕ) = c.put_perms.ensures.perms.0 in
    kept_images c.action_block-block.result.size c.self.inside.generators perms c.put_perms.new.list.items c.put_inverses.new.list.items _ _ c.action_block-block.ensures.points (are c.before) (count c.before)
    (c.put_inverses.ensures.inverses perms (lent c.before))
    (omega (arith, c.self.invariant.room, c.put_perms.ensures.capacity)) (omega (arith, c.self.invariant.back_room, c.put_inverses.ensures.capacity))

pub returns : goal.returns
returns c =
    let m = length c.args.self.now.images in
    let size = c.action_block-block.result.size in
    let new = c.put_perms.ensures.perms in
    let same : c.self.inside.generators ≡ m = sym (generators c.before) in
    let place : perm_tuples_below m size + c.action_block-block.result.index + 1 ≡ c.args.number = ap (λ k. perm_tuples_below k size + c.action_block-block.result.index + 1) (generators c.before) ∙ c.action_block-block.ensures.place in
    subst (λ (a : PermTuple). IsNumbered m a c.args.number) (sym (seen_as size c.self.inside.generators new.0 c.put_perms.new.list.items (are c.before) (count c.before)))
    (perm_tuple_of_block m c.args.number size c.action_block-block.result.index c.perm_places.new.out new.0 c.action_block-block.ensures.points place (places c.before ∙ same) c.perm_places.ensures.digits new.2)
