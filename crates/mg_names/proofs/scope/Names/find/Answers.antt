use Rattle.mg_names.proofs.Lookups.{found_some, found_none}
use Rattle.mg_names.proofs.scope.Names.find.Goals as goal

pub returns-clause-found : goal.returns-clause-found
returns-clause-found c = found_some c.self.inside.objects.entries c.args.self.now c.args.text.now c.get.result c.self.view_is c.get.ensures.value

pub returns-clause-none : goal.returns-clause-none
returns-clause-none c = found_none c.self.inside.objects.entries c.args.self.now c.args.text.now c.get.result c.self.view_is c.get.ensures.value
