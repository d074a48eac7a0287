use Rattle.mg_script.proofs.LinesRead.{whole_read}
use Rattle.mg_script.proofs.line.LineRead.of.Goals as goal

pub returns-in-None : goal.returns-in-None
returns-in-None c = whole_read c.args.line.now c.args.number c.whole.result c.whole.ensures.whole c.whole.ensures.fault
