use Rattle.std.proofs.Common.{arith}
use Rattle.std.proofs.lemmas.List.{take_rest}
use Rattle.mg_script.proofs.Cuts.{only_line, next_line}
use Rattle.mg_script.proofs.lines.first_line.Goals as goal

pub returns-then-place-bytes : goal.returns-then-place-bytes
returns-then-place-bytes c =
    only_line c.args.bytes.now c.feed_place-place.result c.feed_place-place.ensures.count c.if-place-bytes.true c.requires

pub returns : goal.returns
returns c =
    let within = c.feed_place-place.ensures.within in
    let short = c.if-place-bytes.false in
    rw take_rest (next_line c.args.bytes.now c.feed_place-place.result c.feed_place-place.ensures.count (omega arith) c.without_return.result.now c.without_return.ensures)
