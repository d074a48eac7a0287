use Rattle.mg_session.specs.declared.parts.Place.TheVariants.{Runs, Rests}
use Rattle.mg_session.proofs.Joining.{rests_back, runs_back, put_at}
use Rattle.mg_session.proofs.parts.put_back.Goals as goal

pub returns-in-Rests : goal.returns-in-Rests
returns-in-Rests c = put_at c.args.cell c.args.ran.now.items c.args.ledger.now c.args.place (Rests c.in-Rests.kept) _ _ _ c.in-Rests.is (rests_back c.args.cell c.args.ran.now.items c.args.ledger.now c.in-Rests.kept)

pub returns-in-Some : goal.returns-in-Some
returns-in-Some c = put_at c.args.cell c.args.ran.now.items c.args.ledger.now c.args.place (Runs c.in-Runs.question) _ _ _ c.in-Runs.is
    (runs_back c.args.cell c.args.ran.now.items c.args.ledger.now c.in-Runs.question c.pop.new.self.items c.in-Some.held c.keep.result c.take_spent.new.ledger c.in-Some.ensures.items c.keep.ensures c.take_spent.ensures)
