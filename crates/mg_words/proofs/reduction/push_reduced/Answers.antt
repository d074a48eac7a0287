use Rattle.std.proofs.Common.{List, ℤ, sym, subst}
use Rattle.mg_words.specs.Word.{IsReduced}
use Rattle.mg_words.proofs.Free.{IsReduced-push}
use Rattle.mg_words.proofs.reduction.push_reduced.Goals as goal

pub returns-else-ends_with_inverse_of-clause-reduced :
    goal.returns-else-ends_with_inverse_of-clause-reduced
returns-else-ends_with_inverse_of-clause-reduced c =
    subst (λ (t : List ℤ). IsReduced t) (sym c.append.ensures.letters)
    (IsReduced-push c.args.w.now.letters c.args.x c.requires.reduced (λ rest e. let h = c.ends_with_inverse_of.ensures.1 (rest, e) in cc))
