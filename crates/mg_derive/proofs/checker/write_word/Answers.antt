use Rattle.std.proofs.Common.{◌≡◌, ◌++◌, take, ap, ◌∙◌, arith}
use Rattle.std.proofs.lemmas.List.{take_all}
use Rattle.mg_words.specs.Reduction.{free_form}
use Rattle.mg_words.proofs.Free.{reduced_as_form}
use Rattle.mg_derive.proofs.Steps.{word_start, word_next, word_room, product_length}
use Rattle.mg_derive.proofs.checker.write_word.Goals as goal

pub loop-letter-init : goal.loop-letter-init
loop-letter-init c = record { done = word_start _ c.requires.reduced; room = omega arith }

pub push_reduced-requires-clause-reduced : goal.push_reduced-requires-clause-reduced
push_reduced-requires-clause-reduced c = reduced_as_form (c.args.written.now.letters ++ take c.loop-letter.letter-index c.args.word.now) _ c.loop-letter.invariant.done

pub push_reduced-requires-clause-room : goal.push_reduced-requires-clause-room
push_reduced-requires-clause-room c =
    omega (arith, word_room c.args.written.now.letters c.args.word.now c.loop-letter.written.letters c.loop-letter.letter-index (omega arith) c.loop-letter.invariant.done)

pub loop-letter-preserved : goal.loop-letter-preserved
loop-letter-preserved c = record {
  done = word_next c.args.written.now.letters c.args.word.now _ _ c.loop-letter.letter-index c.letter-item.result (omega arith) c.letter-item.is c.loop-letter.invariant.done c.push_reduced.ensures.pushed;
  room = omega arith;
}

pub returns-clause-reduced : goal.returns-clause-reduced
returns-clause-reduced c = reduced_as_form (c.args.written.now.letters ++ take c.loop-letter.letter-index c.args.word.now) _ c.loop-letter.invariant.done

pub returns-clause-length : goal.returns-clause-length
returns-clause-length c =
    let e : take c.loop-letter.letter-index c.args.word.now ≡ c.args.word.now = take_all _ _ (omega arith) in
    product_length c.args.written.now.letters c.args.word.now _ (c.loop-letter.invariant.done ∙ ap (λ t. free_form (c.args.written.now.letters ++ t)) e)
