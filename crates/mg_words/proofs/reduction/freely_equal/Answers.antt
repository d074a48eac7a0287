use Rattle.std.proofs.Common.{◌≡◌, ◌<◌, ◌++◌, neg_ℤ, length, map, reverse, take, sym, ap, ◌∙◌, arith}
use Rattle.std.proofs.lemmas.List.{length-reverse, length-map, map_push}
use Rattle.std.proofs.lemmas.Iterator.Adapters.{YieldsList-from_rev_slice}
use Rattle.std.proofs.lemmas.Iterator.Consumers.{YieldsList-turn, YieldsList-end}
use Rattle.mg_words.specs.Word.{inv}
use Rattle.mg_words.specs.Reduction.{free_form}
use Rattle.mg_words.proofs.Free.{reduced_as_form, pushed_next, pushed_room, pushed_back, back_room, quotient_decides}
use Rattle.mg_words.proofs.reduction.freely_equal.Goals as goal

pub push_reduced-requires-clause-reduced : goal.push_reduced-requires-clause-reduced
push_reduced-requires-clause-reduced c = reduced_as_form (take c.loop-x.x-index c.args.u.now.letters) _ c.loop-x.invariant.done

pub push_reduced-requires-clause-room : goal.push_reduced-requires-clause-room
push_reduced-requires-clause-room c =
    let l : c.loop-x.x-index < length c.args.u.now.letters = omega (arith, ap length c.letters-x-items.ensures) in
    omega (arith, pushed_room c.args.u.now.letters c.loop-x.scratch.letters c.loop-x.x-index l c.loop-x.invariant.done)

pub loop-x-preserved : goal.loop-x-preserved
loop-x-preserved c =
    let l : c.loop-x.x-index < length c.args.u.now.letters = omega (arith, ap length c.letters-x-items.ensures) in
    record {
      done = pushed_next c.args.u.now.letters _ _ c.loop-x.x-index c.x-item.result l (rw (← c.letters-x-items.ensures) c.x-item.is) c.loop-x.invariant.done c.push_reduced.ensures.pushed;
      room = omega arith;
      kept = omega arith;
    }

pub push_reduced-requires-in-loop-y-clause-reduced :
    goal.push_reduced-requires-in-loop-y-clause-reduced
push_reduced-requires-in-loop-y-clause-reduced c =
    reduced_as_form (c.args.u.now.letters ++ map neg_ℤ (map (λ y. y.now) c.loop-y.yielded)) _ c.loop-y.invariant.done

pub push_reduced-requires-in-loop-y-clause-room : goal.push_reduced-requires-in-loop-y-clause-room
push_reduced-requires-in-loop-y-clause-room c =
    let v = c.letters.result.now in
    let t = YieldsList-turn (YieldsList-from_rev_slice v cc) c.loop-y.yielded _ c.loop-y.yielded_by _ _ c.in-Some.y c.in-Some.is c.next.ensures.steps in
    let r = back_room c.args.u.now.letters (map (λ y. y.now) c.loop-y.yielded) c.loop-y.scratch.letters c.loop-y.invariant.done in
    let l = length-map c.loop-y.yielded (λ y. y.now) in
    omega (arith, t.0, r, l, length-reverse v, ap length c.letters.ensures)

pub loop-y-preserved : goal.loop-y-preserved
loop-y-preserved c = record {
  can = tt;
  finite = tt;
  done =
      pushed_back c.args.u.now.letters (map (λ y. y.now) c.loop-y.yielded) _ _ c.in-Some.y.now _ c.inverted.ensures c.loop-y.invariant.done c.push_reduced-in-loop-y.ensures.pushed
      ∙ ap (λ t. free_form (c.args.u.now.letters ++ map neg_ℤ t)) (sym (map_push (λ y. y.now) c.loop-y.yielded c.in-Some.y));
  room = omega arith;
  kept = omega arith;
}

pub returns-clause-equal : goal.returns-clause-equal
returns-clause-equal c =
    let v = c.letters.result.now in
    let t = YieldsList-end (YieldsList-from_rev_slice v cc) c.loop-y.yielded _ c.loop-y.yielded_by _ _ c.in-None.is c.next.ensures.steps in
    let e : c.loop-y.scratch.letters ≡ free_form (c.args.u.now.letters ++ inv c.args.v.now.letters) =
    c.loop-y.invariant.done ∙ ap (λ s. free_form (c.args.u.now.letters ++ map neg_ℤ s)) (t.0 ∙ ap reverse c.letters.ensures) in
    λ m h k. quotient_decides m c.args.u.now.letters c.args.v.now.letters c.letters-2.result.now c.is_empty-equal.result c.is_empty-equal.ensures (c.letters-2.ensures ∙ e) h k
