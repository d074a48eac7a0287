use Rattle.mg_certtext.proofs.Extended.{extends_by, extends_on, extends_trans, on_err}
use Rattle.mg_certtext.proofs.models.push_more_pairs.Goals as goal

pub returns-in_err-push_pair-clause-part : goal.returns-in_err-push_pair-clause-part
returns-in_err-push_pair-clause-part c = on_err _ (extends_trans _ _ _ (extends_on _ _ _ _ (extends_by _ _ _ c.loop-pair.invariant) c.in_ok-push_comma.ensures.pushed) c.in_err-push_pair.ensures.part)
