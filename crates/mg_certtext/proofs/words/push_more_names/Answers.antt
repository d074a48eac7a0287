use Rattle.std.proofs.Common.{◌∙◌}
use Rattle.mg_certtext.proofs.Extended.{extends_by, extends_on, on_err}
use Rattle.mg_certtext.proofs.words.push_more_names.Goals as goal

pub returns-in_err-push_piece-clause-part : goal.returns-in_err-push_piece-clause-part
returns-in_err-push_piece-clause-part c = on_err _ (extends_on _ _ _ _ (extends_by _ _ _ c.loop-name.invariant) (c.in_err-push_piece.ensures.kept ∙ c.in_ok-push_comma.ensures.pushed))
