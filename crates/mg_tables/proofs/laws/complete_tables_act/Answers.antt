use Rattle.std.proofs.Common.{refl}
use Rattle.mg_tables.specs.Force.{a_relator, a_member}
use Rattle.mg_tables.proofs.Complete.{leads_on, rows_apart, word_fixes, relator_over}
use Rattle.mg_tables.proofs.laws.complete_tables_act.Goals as goal

pub returns-clause-there : goal.returns-clause-there
returns-clause-there c group table h row x below l = leads_on group.generators table h row x below l

pub returns-clause-apart : goal.returns-clause-apart
returns-clause-apart c group table h a b d x l p q = rows_apart group.generators table h a b d x l p q

pub returns-clause-relators : goal.returns-clause-relators
returns-clause-relators c group subgroup table fits ht hs h k row w read below =
    word_fixes group subgroup table ht hs h (a_relator k) row w below (relator_over group fits k w read) (read, below)

pub returns-clause-members : goal.returns-clause-members
returns-clause-members c group subgroup table ht hs h k w over read below =
    word_fixes group subgroup table ht hs h (a_member k) 0 w below over (read, refl)
