use Rattle.mg_session.proofs.Reaching.{reaches}
use Rattle.mg_session.proofs.laws.the_first_number_settles.Goals as goal

pub returns : goal.returns
returns g c plan policy workers bound old new place search n ok step there first within =
    reaches plan (record { workers = workers; IsSize = g.P.Sizes.is_size policy }) bound old new step ok place search there n first within
