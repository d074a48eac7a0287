use Rattle.mg_session.proofs.Logged.{question_within, sum_is_so}
use Rattle.mg_session.proofs.entries.sum_at.Goals as goal

pub name_of-requires : goal.name_of-requires
name_of-requires c = question_within c.args.plan.now 1 c.args.session.now c.args.place c.question.result c.requires.ok c.question.ensures

pub returns : goal.returns
returns c =
    sum_is_so c.args.plan.now 1 c.args.session.now c.args.place c.question.result c.number.result c.line-line.result c.name_of.result.now c.requires.ok c.question.ensures c.number.ensures c.line-line.ensures c.name_of.ensures
