use Rattle.mg_session.proofs.Reaching.{settled_over, tested_none}
use Rattle.mg_session.proofs.laws.searches_are_over_with_a_verdict.Goals as goal

pub returns-clause-over : goal.returns-clause-over
returns-clause-over c plan workers state place search ok there built over = settled_over plan workers state place search ok there built over

pub returns-clause-tested : goal.returns-clause-tested
returns-clause-tested c plan workers state place search ok there on = tested_none plan workers state place search ok there on
