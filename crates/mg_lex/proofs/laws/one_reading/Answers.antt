use Rattle.mg_lex.proofs.Cuts.{one_cut, one_whole}
use Rattle.mg_lex.proofs.laws.one_reading.Goals as goal

pub returns-clause-cut : goal.returns-clause-cut
returns-clause-cut c = λ line ts us place. one_cut line 0 ts us place

pub returns-clause-whole : goal.returns-clause-whole
returns-clause-whole c = one_whole
