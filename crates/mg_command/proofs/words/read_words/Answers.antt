use Rattle.mg_command.specs.declared.command.Command.TheVariants.{Run}
use Rattle.mg_command.proofs.Rule.{command_said, said_answered, lacking_answered, few_workers}
use Rattle.mg_command.proofs.words.read_words.Goals as goal

pub returns-clause-says : goal.returns-clause-says
returns-clause-says c = command_said _ c.read.result c.read.ensures.says c.read.ensures.lacks

pub returns-clause-said : goal.returns-clause-said
returns-clause-said c = said_answered _ c.read.result c.read.ensures.says c.read.ensures.lacks

pub returns-clause-lacking : goal.returns-clause-lacking
returns-clause-lacking c = lacking_answered _ c.read.result c.read.ensures.says c.read.ensures.lacks

pub returns-clause-workers : goal.returns-clause-workers
returns-clause-workers c = λ n p is. few_workers _ n p (command_said _ c.read.result c.read.ensures.says c.read.ensures.lacks (Run n p) is)
