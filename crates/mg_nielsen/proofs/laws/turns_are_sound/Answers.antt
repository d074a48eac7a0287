use Rattle.mg_nielsen.specs.Sounds.{nielsen_sound}
use Rattle.mg_nielsen.proofs.laws.turns_are_sound.Goals as goal

pub returns : goal.returns
returns c = nielsen_sound
