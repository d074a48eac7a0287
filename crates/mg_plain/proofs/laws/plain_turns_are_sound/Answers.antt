use Rattle.mg_plain.proofs.Turns.{plain_sound}
use Rattle.mg_plain.proofs.laws.plain_turns_are_sound.Goals as goal

pub returns : goal.returns
returns c = plain_sound
