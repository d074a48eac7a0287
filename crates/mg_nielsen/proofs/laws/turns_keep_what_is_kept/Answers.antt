use Rattle.mg_nielsen.proofs.Keeping.{turn_kept}
use Rattle.mg_nielsen.proofs.laws.turns_keep_what_is_kept.Goals as goal

pub returns : goal.returns
returns c = turn_kept
