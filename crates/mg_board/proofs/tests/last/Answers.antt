use Rattle.std.proofs.Common.{sym, ◌∙◌}
use Rattle.mg_board.proofs.Deals.{last_dealt}
use Rattle.mg_board.proofs.tests.last.Goals as goal

pub returns-clause-alone : goal.returns-clause-alone
returns-clause-alone c = (last_dealt c.args._board.now c.args.n c.pop.new.self c.in-Some.last (sym c.requires ∙ c.in-Some.ensures.some)).1

pub returns-clause-rest : goal.returns-clause-rest
returns-clause-rest c = (last_dealt c.args._board.now c.args.n c.pop.new.self c.in-Some.last (sym c.requires ∙ c.in-Some.ensures.some)).0
