use Rattle.mg_script.proofs.Steps.{is_so, property_tells, property_missing}
use Rattle.mg_script.proofs.reader.Reader.is_property_next.Goals as goal

pub returns-in-Some-clause-next : goal.returns-in-Some-clause-next
returns-in-Some-clause-next c =
    let next = is_so c.is_next.result c.if-not-is_next.false c.is_next.ensures.next in
    let behind = c.in-Some.ensures.some in
    property_tells c.args.self.now.place c.args.self.now.lexemes.now c.has.result next.0 next.1 next.2 next.3 c.in-Some.behind behind.0 behind.1 c.has.ensures

pub returns-in-None-clause-next : goal.returns-in-None-clause-next
returns-in-None-clause-next c =
    let next = is_so c.is_next.result c.if-not-is_next.false c.is_next.ensures.next in
    property_missing c.args.self.now.place c.args.self.now.lexemes.now next.0 next.1 next.2 c.in-None.ensures.none
