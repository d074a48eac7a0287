use Rattle.mg_command.proofs.Rule.{one_command, one_cause, not_both}
use Rattle.mg_command.proofs.laws.no_list_says_two.Goals as goal

pub returns-clause-commands : goal.returns-clause-commands
returns-clause-commands c = one_command

pub returns-clause-causes : goal.returns-clause-causes
returns-clause-causes c = one_cause

pub returns-clause-both : goal.returns-clause-both
returns-clause-both c = not_both
