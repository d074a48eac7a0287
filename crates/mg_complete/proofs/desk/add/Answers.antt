use Rattle.mg_complete.proofs.Settling.{added}
use Rattle.mg_complete.proofs.desk.add.Goals as goal

pub returns : goal.returns
returns c =
    added c.args._group.now c.args.system.now c.args.given.pair c.args.given.moves c.push.new.self c.requires.system c.requires.given
    c.in_ok-push.ensures.rules c.in_ok-push.ensures.reasons c.in_ok-push.ensures.counted
