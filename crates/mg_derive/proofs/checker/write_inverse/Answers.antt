use Rattle.std.proofs.Common.{◌++◌, map, neg_ℤ, sym, ap, ◌∙◌, arith}
use Rattle.std.proofs.lemmas.List.{length-reverse, length-map, map_push}
use Rattle.std.proofs.lemmas.Iterator.Adapters.{YieldsList-from_rev_slice}
use Rattle.std.proofs.lemmas.Iterator.Consumers.{YieldsList-turn, YieldsList-end}
use Rattle.mg_words.specs.Word.{inv}
use Rattle.mg_words.specs.Reduction.{free_form}
use Rattle.mg_words.proofs.Free.{reduced_as_form, pushed_back, back_room}
use Rattle.mg_derive.proofs.Steps.{word_start, product_length}
use Rattle.mg_derive.proofs.checker.write_inverse.Goals as goal

pub loop-letter-init : goal.loop-letter-init
loop-letter-init c = record { can = tt; finite = tt; done = word_start _ c.requires.reduced; room = omega arith }

pub push_reduced-requires-clause-reduced : goal.push_reduced-requires-clause-reduced
push_reduced-requires-clause-reduced c =
    reduced_as_form (c.args.written.now.letters ++ map neg_ℤ (map (λ y. y.now) c.loop-letter.yielded)) _ c.loop-letter.invariant.done

pub push_reduced-requires-clause-room : goal.push_reduced-requires-clause-room
push_reduced-requires-clause-room c =
    let v = c.args.word.now in
    let t = YieldsList-turn (YieldsList-from_rev_slice v cc) c.loop-letter.yielded _ c.loop-letter.yielded_by _ _ c.in-Some.letter c.in-Some.is c.next.ensures.steps in
    let r = back_room c.args.written.now.letters (map (λ y. y.now) c.loop-letter.yielded) c.loop-letter.written.letters c.loop-letter.invariant.done in
    let l = length-map c.loop-letter.yielded (λ y. y.now) in
    omega (arith, t.0, r, l, length-reverse v)

pub loop-letter-preserved : goal.loop-letter-preserved
loop-letter-preserved c = record {
  can = tt;
  finite = tt;
  done =
      pushed_back c.args.written.now.letters (map (λ y. y.now) c.loop-letter.yielded) _ _ c.in-Some.letter.now _ c.inverted.ensures c.loop-letter.invariant.done c.push_reduced.ensures.pushed
      ∙ ap (λ t. free_form (c.args.written.now.letters ++ map neg_ℤ t)) (sym (map_push (λ y. y.now) c.loop-letter.yielded c.in-Some.letter));
  room = omega arith;
}

pub returns-clause-reduced : goal.returns-clause-reduced
returns-clause-reduced c =
    reduced_as_form (c.args.written.now.letters ++ map neg_ℤ (map (λ y. y.now) c.loop-letter.yielded)) _ c.loop-letter.invariant.done

pub returns-clause-length : goal.returns-clause-length
returns-clause-length c =
    let v = c.args.word.now in
    let t = YieldsList-end (YieldsList-from_rev_slice v cc) c.loop-letter.yielded _ c.loop-letter.yielded_by _ _ c.in-None.is c.next.ensures.steps in
    product_length c.args.written.now.letters (inv v) _ (c.loop-letter.invariant.done ∙ ap (λ s. free_form (c.args.written.now.letters ++ map neg_ℤ s)) t.0)
