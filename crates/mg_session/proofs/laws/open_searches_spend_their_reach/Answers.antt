use Rattle.mg_session.proofs.Reaching.{spends_reach}
use Rattle.mg_session.proofs.laws.open_searches_spend_their_reach.Goals as goal

pub returns : goal.returns
returns g c plan policy workers bound old new place search ok step there built unsettled =
    spends_reach plan (record { workers = workers; IsSize = g.P.Sizes.is_size policy }) bound old new step ok place search there built unsettled
