use Rattle.std.proofs.Common.{IfOk, List, ℤ, subst, rules}
use Rattle.mg_words.specs.Reduction.{IsFormOf}
use Rattle.mg_present.proofs.gen_map.image.Goals as goal

pub returns : goal.returns
returns c =
    let form : IfOk c.reduce.result (λ v. IsFormOf c.in_ok-written.written.letters v.letters) = search rules in
    subst (λ (w : List ℤ). IfOk c.reduce.result (λ v. IsFormOf w v.letters)) c.in_ok-written.ensures form
