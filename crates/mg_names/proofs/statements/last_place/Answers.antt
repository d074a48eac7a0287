use Rattle.mg_names.proofs.Tokens.{last_is}
use Rattle.mg_names.proofs.statements.last_place.Goals as goal

pub returns-in-len1-up : goal.returns-in-len1-up
returns-in-len1-up c = last_is c.args.tokens.now _ c.in-len1-up.len_at_least
