use Rattle.mg_rulelog.proofs.Numbers.{sides_read}
use Rattle.mg_rulelog.proofs.checker.Ground.rule_at.Goals as goal

pub returns-clause-some : goal.returns-clause-some
returns-clause-some c = sides_read c.args.self.now.rules.now c.args.number _ c.if-number-eq0.false c.if-self-number.false
