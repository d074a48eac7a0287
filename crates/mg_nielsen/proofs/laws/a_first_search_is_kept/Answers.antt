use Rattle.mg_nielsen.proofs.Ends.{first_kept}
use Rattle.mg_nielsen.proofs.laws.a_first_search_is_kept.Goals as goal

pub returns : goal.returns
returns c = first_kept
