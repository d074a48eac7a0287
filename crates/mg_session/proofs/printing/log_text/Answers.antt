use Rattle.mg_session.proofs.Logged.{causes}
use Rattle.mg_session.proofs.printing.log_text.Goals as goal

pub entry_lines-requires : goal.entry_lines-requires
entry_lines-requires c = causes c.args.plan.now 1 c.args.session.now c.requires
