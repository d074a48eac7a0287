use Rattle.std.proofs.Common.{◌≡◌, List, ℤ, sym, subst, ap, ◌∙◌, arith}
use Rattle.mg_words.specs.Word.{IsOver}
use Rattle.mg_words.specs.Chain.{FreelyEqual}
use Rattle.mg_words.specs.Reduction.{free_form}
use Rattle.mg_words.proofs.Free.{reduced_as_form, pushed_next, pushed_room, pushed_all, free_form-freely, IsOver-free_form}
use Rattle.std.proofs.Common.{take}
use Rattle.mg_words.proofs.reduction.reduce.Goals as goal

pub push_reduced-requires-clause-reduced : goal.push_reduced-requires-clause-reduced
push_reduced-requires-clause-reduced c = reduced_as_form (take c.loop-x.x-index c.letters-letters.result.now) _ c.loop-x.invariant.done

pub push_reduced-requires-clause-room : goal.push_reduced-requires-clause-room
push_reduced-requires-clause-room c =
    omega (arith, pushed_room c.letters-letters.result.now c.loop-x.reduced.letters c.loop-x.x-index (omega arith) c.loop-x.invariant.done)

pub loop-x-preserved : goal.loop-x-preserved
loop-x-preserved c = record {
  done = pushed_next c.letters-letters.result.now _ _ c.loop-x.x-index c.x-item.result (omega arith) c.x-item.is c.loop-x.invariant.done c.push_reduced.ensures.pushed;
  room = omega arith;
}

pub returns-clause-form : goal.returns-clause-form
returns-clause-form c =
    pushed_all c.letters-letters.result.now _ _ (omega arith) c.loop-x.invariant.done ∙ ap free_form c.letters-letters.ensures

pub returns-clause-equal : goal.returns-clause-equal
returns-clause-equal c =
    let w = c.args.w.now.letters in
    let e : c.loop-x.reduced.letters ≡ free_form w = pushed_all c.letters-letters.result.now _ _ (omega arith) c.loop-x.invariant.done ∙ ap free_form c.letters-letters.ensures in
    λ m h. subst (λ (t : List ℤ). FreelyEqual m w t) (sym e) (free_form-freely m w h)

pub returns-clause-over : goal.returns-clause-over
returns-clause-over c =
    let w = c.args.w.now.letters in
    let e : c.loop-x.reduced.letters ≡ free_form w = pushed_all c.letters-letters.result.now _ _ (omega arith) c.loop-x.invariant.done ∙ ap free_form c.letters-letters.ensures in
    λ m h. subst (λ (t : List ℤ). IsOver m t) (sym e) (IsOver-free_form m w h)

pub returns-clause-reduced : goal.returns-clause-reduced
returns-clause-reduced c = reduced_as_form (take c.loop-x.x-index c.letters-letters.result.now) _ c.loop-x.invariant.done
