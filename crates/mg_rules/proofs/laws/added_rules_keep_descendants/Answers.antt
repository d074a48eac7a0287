use Rattle.mg_rules.proofs.Adding.{descends_still, common_still}
use Rattle.mg_rules.proofs.Behind.{lists_begin}
use Rattle.mg_rules.proofs.laws.added_rules_keep_descendants.Goals as goal

pub returns-clause-descendants : goal.returns-clause-descendants
returns-clause-descendants c = descends_still

pub returns-clause-common : goal.returns-clause-common
returns-clause-common c = common_still

pub returns-clause-overlaps : goal.returns-clause-overlaps
returns-clause-overlaps c = lists_begin
