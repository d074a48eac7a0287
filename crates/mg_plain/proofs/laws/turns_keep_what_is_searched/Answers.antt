use Rattle.mg_plain.proofs.Turns.{turn_searched}
use Rattle.mg_plain.proofs.laws.turns_keep_what_is_searched.Goals as goal

pub returns : goal.returns
returns c = turn_searched
