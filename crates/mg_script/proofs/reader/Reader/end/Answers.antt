use Rattle.mg_script.proofs.Steps.{end_refused, end_reached}
use Rattle.mg_script.proofs.reader.Reader.end.Goals as goal

pub returns-in-Some : goal.returns-in-Some
returns-in-Some c = λ s knows.
    let next = c.in-Some.ensures.some in
    rw c.fault.ensures (end_refused s c.args.self.now knows c.in-Some.field-0 next.0 next.1)

pub returns-in-None : goal.returns-in-None
returns-in-None c = λ s knows. end_reached s c.args.self.now knows c.in-None.ensures.none
