use Rattle.mg_words.proofs.Chains.{Same-from_free, Same-relator, Same-times_inverse}
use Rattle.mg_present.proofs.Sameness.{quotient_is_one, quotient_of_same}
use Rattle.mg_present.proofs.laws.words_are_the_same.Goals as goal

pub returns-clause-freely : goal.returns-clause-freely
returns-clause-freely c group = Same-from_free group.generators group.relators

pub returns-clause-relator : goal.returns-clause-relator
returns-clause-relator c group = Same-relator group.generators group.relators

pub returns-clause-inverse : goal.returns-clause-inverse
returns-clause-inverse c group = Same-times_inverse group.generators group.relators

pub returns-clause-quotient : goal.returns-clause-quotient
returns-clause-quotient c group u v over = (quotient_is_one group u v over, quotient_of_same group u v over)
