use Rattle.mg_derive.proofs.Soundness.{accepted_holds, accepted_vanish}
use Rattle.mg_derive.proofs.laws.accepted_derivations_hold.Goals as goal

pub returns-clause-lies : goal.returns-clause-lies
returns-clause-lies c = accepted_holds

pub returns-clause-vanish : goal.returns-clause-vanish
returns-clause-vanish c = accepted_vanish
