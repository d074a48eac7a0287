use Rattle.mg_script.proofs.Cuts.{one_cut}
use Rattle.mg_script.proofs.laws.one_cut.Goals as goal

pub returns : goal.returns
returns c = one_cut
