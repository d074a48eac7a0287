use Rattle.std.proofs.Common.{refl}
use Rattle.mg_session.specs.Output.{is_dropped}
use Rattle.mg_session.proofs.entries.fate_of_turn.Goals as goal

pub returns-then-entry : goal.returns-then-entry
returns-then-entry c =
    let cause = c.cause_of-fact.ensures in is_dropped c.if-entry.true cause.ask c.cause_of-fact.result cause.fact cause.asked cause.verdict refl
