use Rattle.std.proofs.Common.{arith}
use Rattle.std.proofs.lemmas.List.{take_rest}
use Rattle.mg_io.proofs.Known.{front_of, none_behind}
use Rattle.mg_io.proofs.firm.FirmSourceSource.read.Goals as goal

pub returns-clause-bytes : goal.returns-clause-bytes
returns-clause-bytes c =
    let front = front_of c.self.inside.bytes.items _ _ c.self.inside.at c.copy_front-count.result c.self.view_is (rw (take_rest, c.deref.ensures.value) at c.copy_front-count.ensures.front) in
    (front, λ none room. none_behind c.self.inside.bytes.items _ _ (rw (take_rest, c.deref.ensures.value) at (c.copy_front-count.ensures.none (omega arith) (omega arith) none)))
