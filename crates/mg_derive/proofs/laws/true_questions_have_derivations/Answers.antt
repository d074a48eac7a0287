use Rattle.mg_derive.proofs.Complete.{some_text, some_number}
use Rattle.mg_derive.proofs.Decided.{first_of_true}
use Rattle.mg_derive.proofs.Soundness.{accepted_holds}
use Rattle.mg_derive.proofs.laws.true_questions_have_derivations.Goals as goal

pub returns-clause-text : goal.returns-clause-text
returns-clause-text c = some_text

pub returns-clause-exactly : goal.returns-clause-exactly
returns-clause-exactly c ask over = (some_number ask over, λ found. accepted_holds ask found.1.text found.1.accepted)

pub returns-clause-first : goal.returns-clause-first
returns-clause-first c = first_of_true
