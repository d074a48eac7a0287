use Rattle.std.proofs.Common.{◌≡◌, ℕ, ◌+◌, ◌++◌, ◌<◌, cond, map, take, drop, set, get_or, length, List, arith, sym, ap, ◌∙◌}
use Rattle.std.proofs.lemmas.Bool.{lt-ltb, le-ltb}
use Rattle.std.proofs.lemmas.List.{get_or_default}
use Rattle.std.proofs.lemmas.List.Edits.{map_over_more}
use Rattle.mg_numbers.proofs.PermsRank.{bump}
use Rattle.mg_numbers.proofs.blocks.make_room.Goals.{then-x-image, else-x-image}
use Rattle.mg_numbers.proofs.blocks.make_room.Goals as goal

-- the image at one more place is written
written : (q i v : ℕ) (old now next : List ℕ) → i < length old → length now ≡ length old → now ≡ map (bump q) (take i old) ++ drop i old → next ≡ set now i v → v ≡ bump q (get_or now i 0) → next ≡ map (bump q) (take (i + 1) old) ++ drop (i + 1) old
written q i v old now next there long before e f =
    let x = get_or now i 0 in
    e ∙ ap (set now i) f ∙ map_over_more (bump q) old now i x there before (get_or_default now i 0 x (omega arith))

pub loop-x-preserved : goal.loop-x-preserved
loop-x-preserved c =
    let q = c.args.image in
    let i = c.loop-x.x-index in
    let x = get_or c.loop-x.images i 0 in
    elim c.if-x-image.branch [
      | then-x-image w ↦ written q i (x + 1) c.args.images.now c.loop-x.images c.if-x-image.images c.loop-x-test.true c.loop-x.auto.images c.loop-x.invariant w.images-is (sym (ap (λ b. cond b x (x + 1)) (le-ltb x q w.if-x-image.true)))
      | else-x-image w ↦ written q i x c.args.images.now c.loop-x.images c.if-x-image.images c.loop-x-test.true c.loop-x.auto.images c.loop-x.invariant w.images-is (sym (ap (λ b. cond b x (x + 1)) (lt-ltb x q w.if-x-image.false)))
    ]
