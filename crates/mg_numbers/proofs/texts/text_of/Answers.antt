use Rattle.std.proofs.Common.{arith}
use Rattle.mg_numbers.proofs.TextsSteps.{written_more, written_room}
use Rattle.mg_numbers.proofs.texts.text_of.Goals as goal

pub push-requires : goal.push-requires
push-requires c =
    written_room c.args.base c.args.n c.loop-rest.rest c.loop-rest.out c.requires.least_base (omega arith) c.requires.greatest c.requires.one_digit c.loop-rest.invariant

pub loop-rest-preserved : goal.loop-rest-preserved
loop-rest-preserved c =
    rw (c.push.ensures, c.from.ensures, c.from-in-loop-rest.ensures) (written_more c.args.base c.args.n c.loop-rest.rest c.loop-rest.out c.requires.least_base (omega arith) c.loop-rest.invariant)
