use Rattle.mg_session.proofs.Verdicts.{printed_holds}
use Rattle.mg_top.proofs.Answers.{ok_at}
use Rattle.mg_top.proofs.laws.printed_verdicts_hold.Goals as goal

pub returns : goal.returns
returns c = λ workers policy script output legal ask verdict p.
    printed_holds legal.scope.plan workers p.state (ok_at workers policy script output legal p.place p.state p.state_there) p.step ask verdict p.printed
