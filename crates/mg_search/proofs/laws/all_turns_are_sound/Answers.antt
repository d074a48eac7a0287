use Rattle.mg_search.specs.Sounds.{sound}
use Rattle.mg_search.proofs.laws.all_turns_are_sound.Goals as goal

pub returns : goal.returns
returns c = sound
