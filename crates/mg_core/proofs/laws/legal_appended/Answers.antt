use Rattle.mg_core.proofs.Logs.{legal-split, legal-join}
use Rattle.mg_core.proofs.laws.legal_appended.Goals as goal

pub returns : goal.returns
returns g c asks before log more =
    (legal-split g.R.Record.recording.valid g.R.Record.recording.settles asks before log more, λ h. legal-join g.R.Record.recording.valid g.R.Record.recording.settles asks before log more h.0 h.1)
