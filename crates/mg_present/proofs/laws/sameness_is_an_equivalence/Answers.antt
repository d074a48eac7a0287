use Rattle.mg_words.proofs.Chains.{Same-refl, Same-sym, Same-trans}
use Rattle.mg_present.proofs.laws.sameness_is_an_equivalence.Goals as goal

pub returns-clause-reflexive : goal.returns-clause-reflexive
returns-clause-reflexive c group = Same-refl group.generators group.relators

pub returns-clause-symmetric : goal.returns-clause-symmetric
returns-clause-symmetric c group = Same-sym group.generators group.relators

pub returns-clause-transitive : goal.returns-clause-transitive
returns-clause-transitive c group = Same-trans group.generators group.relators
