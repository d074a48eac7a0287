use Rattle.mg_session.proofs.Shown.{blocks_pushed}
use Rattle.mg_session.proofs.blocks.first_blocks.Goals as goal

pub loop-place-preserved : goal.loop-place-preserved
loop-place-preserved c =
    let at = c.loop-place in
    let plan = c.args.plan.now in
    blocks_pushed plan c.args.session.now plan.questions at.place at.blocks.items c.push.new.self.items c.in_ok-block_at.field-0 c.in_ok-push.ensures.items at.invariant c.in_ok-block_at.ensures
