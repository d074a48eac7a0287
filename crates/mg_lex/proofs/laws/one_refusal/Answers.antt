use Rattle.mg_lex.proofs.Firsts.{one_first}
use Rattle.mg_lex.proofs.laws.one_refusal.Goals as goal

pub returns : goal.returns
returns c = one_first
