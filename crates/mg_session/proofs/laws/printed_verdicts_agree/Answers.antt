use Rattle.mg_session.proofs.Verdicts.{printed_holds, agree}
use Rattle.mg_session.proofs.laws.printed_verdicts_agree.Goals as goal

pub returns : goal.returns
returns c = λ ask one other plan workers step state ok printed plan' workers' step' state' ok' printed'.
    agree ask one other (printed_holds plan workers state ok step ask one printed).1
    (printed_holds plan' workers' state' ok' step' ask other printed').1
