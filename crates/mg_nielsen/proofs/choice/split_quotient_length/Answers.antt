use Rattle.std.proofs.Common.{◌∙◌}
use Rattle.mg_words.proofs.Free.{IsReduced-right}
use Rattle.mg_nielsen.proofs.Choosing.{rest_reduced, split_all, split_part}
use Rattle.mg_nielsen.proofs.choice.split_quotient_length.Goals as goal

pub quotient_length-requires-clause-first : goal.quotient_length-requires-clause-first
quotient_length-requires-clause-first c = rest_reduced c.args.u.now c.common-n.result c.requires.first

pub quotient_length-requires-clause-second : goal.quotient_length-requires-clause-second
quotient_length-requires-clause-second c = IsReduced-right c.args.head.now c.args.tail.now c.requires.second

pub returns-then-n-head : goal.returns-then-n-head
returns-then-n-head c =
    c.quotient_length.ensures ∙ split_all c.args.u.now c.args.head.now c.args.tail.now c.common-n.result c.common-n.ensures.common c.if-n-head.true c.requires.first c.requires.second

pub returns-else-n-head : goal.returns-else-n-head
returns-else-n-head c = split_part c.args.u.now c.args.head.now c.args.tail.now c.common-n.result c.common-n.ensures.common c.if-n-head.false c.requires.first c.requires.second
