use Rattle.mg_names.specs.Meaning.{named_too}
use Rattle.mg_names.proofs.resolver.Resolver.add_grant.Goals as goal

pub returns : goal.returns
returns c scope keeps less =
    c.add_step.ensures (record scope { searches = named_too scope.searches c.args.question c.args.procedure }) (c.name_search.ensures scope keeps less)
