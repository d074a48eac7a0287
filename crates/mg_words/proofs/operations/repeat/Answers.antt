use Rattle.std.proofs.Common.{◌++◌, length, sym, ap, ◌∙◌}
use Rattle.std.proofs.lemmas.List.{nil_from_length}
use Rattle.std.proofs.lemmas.Bool.Decides.{Decides-eqb}
use Rattle.mg_words.specs.Word.{times}
use Rattle.mg_words.proofs.Chains.{times-empty, times-push}
use Rattle.mg_words.proofs.operations.repeat.Goals as goal

pub returns-then-is_empty : goal.returns-then-is_empty
returns-then-is_empty c =
    let e = nil_from_length c.letters.result.now ((Decides-eqb (length c.letters.result.now) 0).0 (sym c.is_empty.ensures ∙ c.if-is_empty.true)) in
    c.new-word.ensures ∙ times-empty c.args.count c.args.w.now.letters (sym c.letters.ensures ∙ e)

pub loop-i-preserved : goal.loop-i-preserved
loop-i-preserved c =
    c.in_ok-push_all.ensures.ok ∙ (ap (λ t. t ++ c.letters-in-loop-i.result.now) c.loop-i.invariant ∙ (ap (λ t. times c.loop-i._i c.args.w.now.letters ++ t) c.letters-in-loop-i.ensures ∙ sym (times-push c.loop-i._i c.args.w.now.letters)))
