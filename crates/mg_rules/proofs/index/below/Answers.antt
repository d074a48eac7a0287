use Rattle.std.proofs.Common.{[]}
use Rattle.mg_rules.proofs.Trees.{read_below}
use Rattle.mg_rules.proofs.index.below.Goals as goal

pub returns : goal.returns
returns c = read_below c.args.nodes.now c.args.node c.args.letter c.code.result (record { least = 0; below = [] }) c.requires c.code.ensures.code c.code.ensures.within
