use Rattle.mg_script.proofs.LinesRead.{grammar_refuses, first_refuses}
use Rattle.mg_script.proofs.line.LineRead.first_of.Goals as goal

pub returns-in-Some : goal.returns-in-Some
returns-in-Some c = λ counts first.
    first_refuses counts c.args.line.now c.args.number c.args.self.now c.requires.read c.args.fault.place c.args.fault.cause first
    c.refusal_of-refused.result c.refusal_of-refused.ensures.line c.refusal_of-refused.ensures.cause c.refusal_of-refused.ensures.column
    c.in-Some.earlier c.first.result c.in-Some.is c.first.ensures

pub returns-in-None : goal.returns-in-None
returns-in-None c = λ counts first.
    grammar_refuses counts c.args.line.now c.args.number c.args.self.now c.requires.read c.args.fault.place c.args.fault.cause first
    c.refusal_of-refused.result c.refusal_of-refused.ensures.line c.refusal_of-refused.ensures.cause c.refusal_of-refused.ensures.column
    c.requires.some c.in-None.is
