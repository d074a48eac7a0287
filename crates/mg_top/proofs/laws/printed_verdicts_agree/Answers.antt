use Rattle.mg_session.proofs.Verdicts.{printed_holds, agree}
use Rattle.mg_top.proofs.Answers.{ok_at}
use Rattle.mg_top.proofs.laws.printed_verdicts_agree.Goals as goal

pub returns : goal.returns
returns c = λ ask one other workers policy script output legal p workers' policy' script' output' legal' q.
    agree ask one other
    (printed_holds legal.scope.plan workers p.state (ok_at workers policy script output legal p.place p.state p.state_there) p.step ask one p.printed).1
    (printed_holds legal'.scope.plan workers' q.state (ok_at workers' policy' script' output' legal' q.place q.state q.state_there) q.step ask other q.printed).1
