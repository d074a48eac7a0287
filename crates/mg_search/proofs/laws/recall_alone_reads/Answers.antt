use Rattle.mg_search.proofs.Readers.{readers_recall, wants_none}
use Rattle.mg_search.proofs.laws.recall_alone_reads.Goals as goal

pub returns-clause-recall : goal.returns-clause-recall
returns-clause-recall c = readers_recall

pub returns-clause-others : goal.returns-clause-others
returns-clause-others c = wants_none
