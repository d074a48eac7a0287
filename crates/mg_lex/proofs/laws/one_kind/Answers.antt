use Rattle.mg_lex.proofs.Words as words
use Rattle.mg_lex.proofs.laws.one_kind.Goals as goal

pub returns : goal.returns
returns c = words.one_kind
