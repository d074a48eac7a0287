use Rattle.std.proofs.Common.{arith}
use Rattle.mg_derive.proofs.Steps.{room_for_length, both_ok}
use Rattle.mg_derive.proofs.buffers.Buffers.for_length.Goals as goal

pub returns : goal.returns
returns c =
    both_ok _ _ _ _ c.with_room.ensures.letters c.with_room.ensures.written
    (λ room l w. room_for_length c.args.ask.now c.most_written.result c.args.symbols room c.most_written.ensures.most l (omega (arith, c.in-Some.ensures.1)))
