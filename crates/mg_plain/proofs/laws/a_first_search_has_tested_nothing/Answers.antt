use Rattle.mg_plain.proofs.Turns.{started_searched}
use Rattle.mg_plain.proofs.laws.a_first_search_has_tested_nothing.Goals as goal

pub returns : goal.returns
returns c = started_searched
