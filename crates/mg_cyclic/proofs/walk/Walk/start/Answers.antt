use Rattle.std.proofs.Common.{◌≡◌, ℕ, refl, ap, subst, ◌∙◌}
use Rattle.std.specs.List.{AllByRecursion}
use Rattle.mg_words.specs.Word.{letters_of}
use Rattle.mg_cyclic.specs.Exponents.{VanishesWith}
use Rattle.mg_cyclic.specs.Kept.{Keep}
use Rattle.mg_cyclic.proofs.Stretches.{started}
use Rattle.mg_cyclic.proofs.Sums.{tuple}
use Rattle.std.proofs.Common.{replicate}
use Rattle.mg_cyclic.proofs.walk.Walk.start.Goals as goal

pub returns-clause-walk : goal.returns-clause-walk
returns-clause-walk c =
    let ask = c.args.ask.now in
    let g : ℕ = c.generators-generators.result in
    let m : g ≡ ask.group.generators = c.generators-generators.ensures.value ∙ ap (λ q. q.generators) c.group.ensures.value in
    let relators : letters_of c.as_slice-2.result.now ≡ ask.group.relators = c.as_slice-2.ensures ∙ c.relators.ensures.value ∙ ap (λ q. q.relators) c.group-2.ensures.value in
    let members : letters_of c.as_slice-3.result.now ≡ ask.subgroup = c.as_slice-3.ensures ∙ c.subgroup.ensures.value in
    let goals : letters_of c.as_slice.result.now ≡ ask.goals = c.as_slice.ensures ∙ c.goals.ensures.value in
    started ask _
    (record {
      asked = c.group.ensures.fits;
      some = c.requires;
      content = subst (λ k. AllByRecursion (VanishesWith k c.content_of-content.result) ask.goals) m (subst (λ ws. AllByRecursion (VanishesWith g c.content_of-content.result) ws) goals c.content_of-content.ensures);
    })
    (c.in_ok-all_zero.ensures ∙ ap (λ k. tuple 2 (replicate k 0)) m) refl
    (subst (λ k. Keep ask.group.relators (tuple 2 (replicate k 0)) c.in_ok-kept_of.field-0.items) m (subst (λ ws. Keep ws (tuple 2 (replicate g 0)) c.in_ok-kept_of.field-0.items) relators c.in_ok-kept_of.ensures))
    (subst (λ k. Keep ask.subgroup (tuple 2 (replicate k 0)) c.in_ok-kept_of-2.field-0.items) m (subst (λ ws. Keep ws (tuple 2 (replicate g 0)) c.in_ok-kept_of-2.field-0.items) members c.in_ok-kept_of-2.ensures))
    c.first_number.ensures.none c.first_number.ensures.some
