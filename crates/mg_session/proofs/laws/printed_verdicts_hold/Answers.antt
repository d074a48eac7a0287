use Rattle.mg_session.proofs.Verdicts.{printed_holds}
use Rattle.mg_session.proofs.laws.printed_verdicts_hold.Goals as goal

pub returns : goal.returns
returns c = λ plan workers step state ask verdict ok printed. printed_holds plan workers state ok step ask verdict printed
