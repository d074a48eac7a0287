use Rattle.mg_search.proofs.Opening.{some_opens}
use Rattle.mg_search.proofs.laws.some_search_opens_where_it_applies.Goals as goal

pub returns : goal.returns
returns c = some_opens
