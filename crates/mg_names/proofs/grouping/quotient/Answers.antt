use Rattle.mg_names.proofs.Groups.{quotient_is}
use Rattle.mg_names.proofs.grouping.quotient.Goals as goal

pub returns : goal.returns
returns c =
    quotient_is c.requires.0 c.args.left.now.letters c.args.right.now.letters c.in_ok-inverse.inverse.letters c.in_ok-product.product.letters c.reduce.result c.in_ok-inverse.ensures c.in_ok-product.ensures
    c.requires.1 c.requires.2 c.reduce.ensures.equal c.reduce.ensures.reduced
