use Rattle.mg_present.proofs.Exact.{group_exact, ask_exact, group_itself, ask_itself}
use Rattle.mg_present.proofs.laws.equal_asks_are_one.Goals as goal

pub returns-clause-presentations : goal.returns-clause-presentations
returns-clause-presentations c a b = (group_exact a b, group_itself a b)

pub returns-clause-asks : goal.returns-clause-asks
returns-clause-asks c a b = (ask_exact a b, ask_itself a b)
