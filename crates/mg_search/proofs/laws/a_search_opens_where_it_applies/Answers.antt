use Rattle.mg_search.proofs.Starts.{opens_applies}
use Rattle.mg_search.proofs.laws.a_search_opens_where_it_applies.Goals as goal

pub returns : goal.returns
returns c = opens_applies
