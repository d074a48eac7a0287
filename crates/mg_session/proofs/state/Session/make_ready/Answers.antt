use Rattle.std.proofs.Common.{subst}
use Rattle.mg_present.specs.Applies.{Applies}
use Rattle.mg_names.proofs.Asks.{asks_once}
use Rattle.mg_session.proofs.Moving.{made_ready}
use Rattle.mg_session.proofs.state.Session.make_ready.Goals as goal

pub ask_at-requires : goal.ask_at-requires
ask_at-requires c = (c.requires.asked.ask, c.requires.asked.asked)

pub start-requires : goal.start-requires
start-requires c =
    let asked = c.requires.asked in
    subst (Applies c.args.procedure) (asks_once c.args.plan.now c.args.question asked.ask c.ask_at.result.now asked.asked c.ask_at.ensures) asked.applies

pub returns-in_ok-search-in-None : goal.returns-in_ok-search-in-None
returns-in_ok-search-in-None c = made_ready c.args.plan.now c.args.question c.args.procedure c.args.self.now c.add.new.self c.ask_at.result.now c.in_ok-search-in-None.search c.add.result c.in-None.ensures.none c.ask_at.ensures c.in_ok-search-in-None.ensures c.add.ensures.added c.add.ensures.place
