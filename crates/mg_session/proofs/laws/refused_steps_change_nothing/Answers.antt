use Rattle.mg_session.proofs.Refused.{refused_fund, refused_grant, refused_cancel}
use Rattle.mg_session.proofs.laws.refused_steps_change_nothing.Goals as goal

pub returns-clause-fund : goal.returns-clause-fund
returns-clause-fund g c plan policy workers units old new shown shown' text over after said =
    refused_fund plan (record { workers = workers; IsSize = g.P.Sizes.is_size policy }) units old new shown shown' text over after said

pub returns-clause-grant : goal.returns-clause-grant
returns-clause-grant g c plan policy workers question units procedure old new shown shown' text few after said =
    refused_grant plan (record { workers = workers; IsSize = g.P.Sizes.is_size policy }) question procedure units old new shown shown' text few after said

pub returns-clause-cancel : goal.returns-clause-cancel
returns-clause-cancel g c plan policy workers question procedure old new shown shown' text absent after said =
    refused_cancel plan (record { workers = workers; IsSize = g.P.Sizes.is_size policy }) question procedure old new shown shown' text absent after said
