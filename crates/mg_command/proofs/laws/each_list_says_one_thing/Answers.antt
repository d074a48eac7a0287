use Rattle.mg_command.proofs.Told.{reads}
use Rattle.mg_command.proofs.laws.each_list_says_one_thing.Goals as goal

pub returns : goal.returns
returns c = reads
