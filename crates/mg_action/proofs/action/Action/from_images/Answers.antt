use Rattle.std.proofs.Common.{◌≡◌, ◌++◌, List, ℕ, ◌∙◌, ap, sym, subst, arith}
use Rattle.mg_action.specs.Layout.{AreImages}
use Rattle.mg_action.proofs.Rows.{count_images, kept_images, seen_as}
use Rattle.mg_action.proofs.action.Action.from_images.Goals as goal

-- the own list has the images
own : (c : goal.After-put_inverses) → c.extend_from_slice.new.self.items ≡ c.args.images.now
own c = c.in_ok-extend_from_slice.ensures.items ∙ ap (λ t. t ++ c.args.images.now) c.in_ok-own.ensures.empty

pub invariant_of-result : goal.invariant_of-result
invariant_of-result c =
    let perms : List (List ℕ) = c.requires.perms.0 in
    let are : AreImages c.args.degree perms c.args.images.now = c.requires.perms.1 in
    kept_images c.args.degree _ perms c.extend_from_slice.new.self.items _ _ _ c.requires.points (subst (AreImages c.args.degree perms) (sym (own c)) are) (count_images c.args.degree perms c.args.images.now c.requires.points are)
    (c.put_inverses.ensures.inverses perms are) (omega (arith, c.in_ok-own.ensures.perms, c.extend_from_slice.ensures.capacity)) (omega (arith, c.in_ok-inverses.ensures.perms, c.put_inverses.ensures.capacity))

pub returns : goal.returns
returns c perms are =
    seen_as c.args.degree _ perms c.extend_from_slice.new.self.items (subst (AreImages c.args.degree perms) (sym (own c)) are) (count_images c.args.degree perms c.args.images.now c.requires.points are)
