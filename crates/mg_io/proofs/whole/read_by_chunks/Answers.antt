use Rattle.std.proofs.Common.{◌≡◌, ◌+◌, ◌++◌, length, take, arith, ℕ, length-append, length-take}
use Rattle.std.proofs.KnownBytes.{Consumes-trans}
use Rattle.mg_io.proofs.Known.{Consumes-beyond}
use Rattle.mg_io.proofs.whole.read_by_chunks.Goals as goal

-- at the limit one byte more is read
pub returns-then-len-limit-clause-too_long : goal.returns-then-len-limit-clause-too_long
returns-then-len-limit-clause-too_long g c = λ _.
    let read = Consumes-trans _ _ _ _ _ c.loop-count.invariant.consumed c.in-Ok.ensures.bytes.0 in
    let long : length (c.loop-count.bytes.items ++ take c.in-Ok.count c.read_step.new.buf) ≡ c.args.limit + 1 = omega (arith, length-append c.loop-count.bytes.items (take c.in-Ok.count c.read_step.new.buf), c.in-Ok.ensures.bound.1, c.in-Ok.ensures.bound.0, c.loop-count.bytes.ok.0, c.read_step.auto.buf, length-take {A = ℕ}) in
    Consumes-beyond _ _ _ c.args.limit read long

pub returns-then-len-limit-clause-lost : goal.returns-then-len-limit-clause-lost
returns-then-len-limit-clause-lost g c =
    let read = Consumes-trans _ _ _ _ _ c.loop-count.invariant.consumed c.in-Ok.ensures.bytes.0 in
    (_, read, omega (arith, length-append c.loop-count.bytes.items (take c.in-Ok.count c.read_step.new.buf), c.in-Ok.ensures.bound.1, c.in-Ok.ensures.bound.0, c.loop-count.bytes.ok.0, c.read_step.auto.buf, length-take {A = ℕ}))

pub returns-then-is_err-clause-lost : goal.returns-then-is_err-clause-lost
returns-then-is_err-clause-lost g c =
    let read = Consumes-trans _ _ _ _ _ c.loop-count.invariant.consumed c.in-Ok.ensures.bytes.0 in
    (_, read, omega (arith, length-append c.loop-count.bytes.items (take c.in-Ok.count c.read_step.new.buf), c.in-Ok.ensures.bound.1, c.in-Ok.ensures.bound.0, c.loop-count.bytes.ok.0, c.read_step.auto.buf, length-take {A = ℕ}))
