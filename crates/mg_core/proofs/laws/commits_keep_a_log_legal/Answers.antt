use Rattle.mg_core.proofs.Logs.{legal-committed}
use Rattle.mg_core.proofs.laws.commits_keep_a_log_legal.Goals as goal

pub returns : goal.returns
returns g c asks = legal-committed g.R.Record.recording.valid g.R.Record.recording.settles asks
