use Rattle.mg_words.proofs.Chains.{Same-before, Same-after, Same-inv}
use Rattle.mg_present.proofs.laws.sameness_is_kept.Goals as goal

pub returns-clause-left : goal.returns-clause-left
returns-clause-left c group = Same-before group.generators group.relators

pub returns-clause-right : goal.returns-clause-right
returns-clause-right c group = Same-after group.generators group.relators

pub returns-clause-inverses : goal.returns-clause-inverses
returns-clause-inverses c group = Same-inv group.generators group.relators
