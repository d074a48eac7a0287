use Rattle.mg_script.proofs.LinesRead.{reads_pushed}
use Rattle.mg_script.proofs.line.LineRead.with.Goals as goal

pub returns-clause-lexemes : goal.returns-clause-lexemes
returns-clause-lexemes c =
    reads_pushed c.args.line.now c.args.self.tokens c.push.new.self c.args.self.lexemes c.push-2.new.self c.args.token c.read_as.result
    c.in_ok-push.ensures.ok c.in_ok-push-2.ensures.ok c.read_as.ensures
