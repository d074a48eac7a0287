use Rattle.mg_nielsen.proofs.Ends.{enough_units}
use Rattle.mg_nielsen.proofs.laws.a_turn_of_enough_units_ends_the_search.Goals as goal

pub returns : goal.returns
returns c = enough_units
