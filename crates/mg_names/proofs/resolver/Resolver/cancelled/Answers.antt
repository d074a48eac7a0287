use Rattle.mg_names.specs.Name.{named_of}
use Rattle.mg_names.proofs.Grants.{question_sound, cancel_refused, cancel_gets}
use Rattle.mg_names.proofs.resolver.Resolver.cancelled.Goals as goal

pub returns-in_err-question-clause-causes : goal.returns-in_err-question-clause-causes
returns-in_err-question-clause-causes c scope keeps =
    cancel_refused scope c.args.self.now.names (named_of c.args.name) c.args.procedure c.args.place c.args.found.now c.question.new.found keeps.names c.question.ensures.causes c.in_err-question.ensures.none

pub check_applies-requires : goal.check_applies-requires
check_applies-requires c = question_sound c.args.self.now c.requires c.args.name.text.now c.in_ok-question.question c.in_ok-question.ensures.some

pub returns-clause-causes : goal.returns-clause-causes
returns-clause-causes c scope keeps =
    cancel_gets scope c.args.self.now.names (named_of c.args.name) c.args.procedure c.args.place c.in_ok-question.question c.args.found.now c.question.new.found c.check_applies.new.found keeps.names
    c.in_ok-question.ensures.some c.question.ensures.causes (c.check_applies.ensures scope keeps)
