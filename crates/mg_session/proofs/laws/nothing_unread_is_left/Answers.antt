use Rattle.mg_session.proofs.Recalls.{nothing_unread_is_left}
use Rattle.mg_session.proofs.laws.nothing_unread_is_left.Goals as goal

pub returns : goal.returns
returns g c plan policy workers bound old new place search after ok step there here reads unsettled less =
    nothing_unread_is_left plan (record { workers = workers; IsSize = g.P.Sizes.is_size policy }) bound old new ok step place search after there here reads unsettled less
