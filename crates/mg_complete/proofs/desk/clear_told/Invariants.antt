use Rattle.std.proofs.Common.{length}
use Rattle.mg_complete.proofs.desk.clear_told.Given as goal

abbrev pub decreases-loop : goal.decreases-loop
decreases-loop l = length l.told
