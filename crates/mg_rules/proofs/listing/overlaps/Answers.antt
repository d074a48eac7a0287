use Rattle.std.proofs.Common.{◌∙◌, ◌++◌, ◌∷◌, [], ap, subst, sym, List}
use Rattle.mg_rules.specs.declared.meeting.Meeting.{Meeting}
use Rattle.mg_rules.proofs.Orders.{Listed, listed_none, listed_next, listed_all, next_nearer}
use Rattle.mg_rules.proofs.listing.overlaps.Goals as goal

pub loop-next-init : goal.loop-next-init
loop-next-init c =
    subst (λ (t : List Meeting). Listed c.args.rules.now t c.before_all-at.result) (sym c.new-list.ensures)
    (listed_none c.args.rules.now c.before_all-at.result c.before_all-at.ensures.value c.before_all-at.ensures.before)

pub loop-next-smaller : goal.loop-next-smaller
loop-next-smaller c = next_nearer c.args.rules.now c.loop-next.at c.in-Some.next c.loop-next.invariant.below c.in-Some.ensures.some

pub loop-next-preserved : goal.loop-next-preserved
loop-next-preserved c =
    listed_next c.args.rules.now c.loop-next.list c.push.new.self c.loop-next.at c.in-Some.next c.loop-next.invariant c.in-Some.ensures.some
    (c.in_ok-push.ensures.ok ∙ ap (λ m. c.loop-next.list ++ m ∷ []) c.in_ok-noted.ensures)

pub returns : goal.returns
returns c = listed_all c.args.rules.now c.loop-next.list c.loop-next.at c.loop-next.invariant c.in_default.ensures.none
