use Rattle.mg_rulelog.proofs.Soundness.{follow_same, accepted_vanish, accepted_holds}
use Rattle.mg_rulelog.proofs.laws.accepted_logs_hold.Goals as goal

pub returns : goal.returns
returns c = record { rules = λ ask log h. follow_same ask.group log.rules h.rules; goals = accepted_vanish; holds = accepted_holds }
