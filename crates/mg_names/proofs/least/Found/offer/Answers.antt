use Rattle.mg_names.proofs.Leasts.{offered_less}
use Rattle.mg_names.proofs.least.Found.offer.Goals as goal

pub returns-then-not-is_least : goal.returns-then-not-is_least
returns-then-not-is_least c all h =
    offered_less all c.self.inside.least c.args.self.now c.in-Some.least _ c.self.view_is c.in-Some.is h (λ k. let e = c.is_least.ensures.1 k in cc)
