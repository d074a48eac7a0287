use Rattle.std.proofs.Common.{◌≡◌, ◌∙◌, ◌++◌, ◌∷◌, [], sym, subst, ℤ, List, ◌+◌, ◌<◌, length, arith}
use Rattle.std.proofs.lemmas.Grind.{common_steps}
use Rattle.mg_nielsen.specs.Expressed.{Expressed}
use Rattle.mg_nielsen.specs.Turn.{first_members}
use Rattle.std.proofs.Common.{drop}
use Rattle.mg_nielsen.proofs.Running.{first_next}
use Rattle.mg_nielsen.proofs.nielsen.first_members.Goals as goal

joined : (w t x : List ℤ) (e : Expressed) (s : List ℤ) → e.word ≡ w → e.signs ≡ s → w ≡ x → s ≡ t → e ≡ record { word = x; signs = t }
joined w t x e s a b c d i = record { word = (a ∙ c) i; signs = (b ∙ d) i }

pub loop-place-preserved : goal.loop-place-preserved
loop-place-preserved c =
    let there : c.loop-place.place < length c.args.words.now = omega arith in
    let pushed : c.push.new.self.items ≡ c.loop-place.members.items ++ c.in_ok-new.field-0 ∷ [] = grind (arith, common_steps) in
    subst (λ (l : List Expressed). l ++ first_members (c.loop-place.place + 1 + 1) (drop (c.loop-place.place + 1) c.args.words.now) ≡ first_members 1 c.args.words.now) (sym pushed)
    (first_next c.args.words.now c.loop-place.place c.loop-place.members.items c.in_ok-new.field-0 c.at.result.now.letters (first_members 1 c.args.words.now) there c.at.ensures
    (joined c.in_ok-copy.field-0.letters _ c.at.result.now.letters c.in_ok-new.field-0 c.in_ok-signs.signs.letters c.in_ok-new.ensures.word c.in_ok-new.ensures.signs c.in_ok-copy.ensures c.in_ok-signs.ensures) c.loop-place.invariant)
