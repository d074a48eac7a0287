use Rattle.std.proofs.Common.{◌++◌, ◌∷◌, [], ◌∙◌, ap, sym, arith}
use Rattle.mg_action.proofs.Rows.{perm_more, joined_more, length_more}
use Rattle.mg_action.proofs.lists.put_perms.Goals as goal

pub loop-place-preserved : goal.loop-place-preserved
loop-place-preserved c =
    let before = c.loop-place.invariant in
    let new = c.push_perm.ensures.perm in
    record {
      perms = before.perms ++ new.0 ∷ [];
      joined = joined_more before.perms new.0 ∙ ap (λ t. t ++ new.0) before.joined ∙ sym new.1;
      each = perm_more c.args.degree c.args.places.now c.loop-place.place-index before.perms new.0 c.loop-place-test.true before.each new.2;
      count = length_more c.loop-place.list.items new.0 c.push_perm.new.list.items c.loop-place.place-index c.args.degree new.1 before.count new.2.is.count;
      capacity = omega (arith, before.capacity, c.push_perm.ensures.capacity);
    }
