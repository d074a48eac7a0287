use Rattle.std.proofs.Common.{◌≡◌, ◌-◌, get_or, arith}
use Rattle.std.proofs.lemmas.List.{get_or_read, length-set}
use Rattle.mg_numbers.proofs.TextsSteps.{carry_on, carry_lands, carry_out}
use Rattle.mg_numbers.proofs.texts.Digits.advance.Goals as goal

pub returns-then-index-base-clause-value : goal.returns-then-index-base-clause-value
returns-then-index-base-clause-value c =
    let now = c.loop-place.self-inside.digits.items in
    let carrying = c.loop-place.invariant.carrying in
    let i = c.loop-place.place - 1 in
    let read : c.index.result.now ≡ get_or now i 0 = get_or_read now i _ (omega (arith, carrying.within)) c.index.ensures 0 in
    let write : c.index_mut.result.now ≡ get_or now i 0 = get_or_read now i _ (omega (arith, carrying.within)) c.index_mut.ensures.value 0 in
    rw write (carry_lands c.args.base c.args.self.now now c.loop-place.place (omega arith) carrying (omega arith)).1

pub loop-place-preserved : goal.loop-place-preserved
loop-place-preserved c =
    let now = c.loop-place.self-inside.digits.items in
    let carrying = c.loop-place.invariant.carrying in
    let i = c.loop-place.place - 1 in
    let read : c.index.result.now ≡ get_or now i 0 = get_or_read now i _ (omega (arith, carrying.within)) c.index.ensures 0 in record {
      carrying = carry_on c.args.base c.args.self.now now c.loop-place.place c.requires.base (omega arith) carrying (omega arith);
      room = rw (length-set now i 1) c.loop-place.invariant.room;
      capacity = c.loop-place.invariant.capacity;
    }

pub returns-clause-value : goal.returns-clause-value
returns-clause-value c =
    let now = c.loop-place.self-inside.digits.items in
    let first : c.loop-place.place ≡ 0 = omega arith in
    rw c.push_reserved.ensures.items (carry_out c.args.base c.args.self.now now c.requires.base (rw first at c.loop-place.invariant.carrying)).1
