use Rattle.mg_cosets.specs.Sounds.{cosets_sound}
use Rattle.mg_cosets.proofs.laws.coset_turns_are_sound.Goals as goal

pub returns : goal.returns
returns c = cosets_sound
