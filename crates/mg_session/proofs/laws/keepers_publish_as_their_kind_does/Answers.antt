use Rattle.mg_session.proofs.Reaching.{keeps_published}
use Rattle.mg_session.proofs.laws.keepers_publish_as_their_kind_does.Goals as goal

pub returns : goal.returns
returns c plan workers state place search entry ok there keeper same = keeps_published plan workers state place search entry ok there keeper same
