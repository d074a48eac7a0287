use Rattle.mg_words.proofs.Free.{reduced_is_unique}
use Rattle.mg_words.proofs.reduction.reduced_forms_are_unique.Goals as goal

pub returns : goal.returns
returns c = reduced_is_unique
