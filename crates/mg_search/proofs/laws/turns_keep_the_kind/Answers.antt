use Rattle.mg_search.proofs.Turns.{keeps_kind}
use Rattle.mg_search.proofs.laws.turns_keep_the_kind.Goals as goal

pub returns : goal.returns
returns c search after units facts outcome turn = keeps_kind search units facts outcome after turn
