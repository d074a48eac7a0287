use Rattle.mg_certtext.proofs.Extended.{extends_by, extends_on, extends_trans, on_err}
use Rattle.mg_certtext.proofs.words.push_more_words.Goals as goal

pub returns-in_err-push_word-clause-part : goal.returns-in_err-push_word-clause-part
returns-in_err-push_word-clause-part c = on_err _ (extends_trans _ _ _ (extends_on _ _ _ _ (extends_by _ _ _ c.loop-word.invariant) c.in_ok-push_comma.ensures.pushed) c.in_err-push_word.ensures.part)
