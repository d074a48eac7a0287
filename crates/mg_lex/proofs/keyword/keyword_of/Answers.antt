use Rattle.std.proofs.Common.{◌≡◌, ◌≢◌, ap, ◌∙◌, arith, below_more}
use Rattle.mg_lex.specs.Keyword.{keyword_text}
use Rattle.mg_lex.proofs.Keywords.{entry, place_in_table, same_bytes}
use Rattle.mg_lex.proofs.keyword.keyword_of.Goals as goal

pub loop-keyword-preserved : goal.loop-keyword-preserved
loop-keyword-preserved c =
    below_more (λ i. keyword_text (entry i) ≢ c.args.word.now) _ c.loop-keyword.invariant
    (λ same. let text : c.text.result.now ≡ keyword_text (entry c.loop-keyword.keyword-index) = c.text.ensures in let equal = same_bytes (text ∙ same) in cc)

pub returns-clause-none : goal.returns-clause-none
returns-clause-none c = λ k. let at = place_in_table k.0 in c.loop-keyword.invariant at.0 (omega (arith, at.1)) (ap keyword_text at.2 ∙ k.1)
