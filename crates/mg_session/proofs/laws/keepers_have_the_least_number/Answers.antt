use Rattle.mg_session.proofs.Reaching.{keeps_first}
use Rattle.mg_session.proofs.laws.keepers_have_the_least_number.Goals as goal

pub returns : goal.returns
returns c plan workers state place search entry ok there tests keeper same = keeps_first plan workers state place search entry ok there tests keeper same
