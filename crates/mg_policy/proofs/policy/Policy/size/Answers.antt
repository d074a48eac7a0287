use Rattle.mg_policy.proofs.policy.Policy.size.Goals as goal

pub returns-clause-least : goal.returns-clause-least
returns-clause-least g c = ((c.requires.within c.args.turn c.args.held c.ranges.turn.fits c.requires.some c.ranges.held.fits).1 c.size.result c.size.ensures).0

pub returns-clause-most : goal.returns-clause-most
returns-clause-most g c = ((c.requires.within c.args.turn c.args.held c.ranges.turn.fits c.requires.some c.ranges.held.fits).1 c.size.result c.size.ensures).1
