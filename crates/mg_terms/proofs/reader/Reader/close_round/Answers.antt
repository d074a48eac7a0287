use Rattle.mg_terms.proofs.Taking.{round_taken}
use Rattle.mg_terms.proofs.reader.Reader.close_round.Goals as goal

pub returns-in-Round : goal.returns-in-Round
returns-in-Round c = λ fs w has within. round_taken fs w c.args.self.now c.close.new.self has c.in-Round.is c.close.ensures within
