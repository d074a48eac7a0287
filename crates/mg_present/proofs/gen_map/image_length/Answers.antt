use Rattle.std.proofs.Common.{◌≡◌, ◌+◌, length, take, ap, ◌∙◌, arith}
use Rattle.std.proofs.lemmas.List.{take_all, length-take}
use Rattle.mg_present.specs.Image.{image_of}
use Rattle.mg_present.specs.declared.gen_map.TheConstants.{MOST_MAPPED_LETTERS}
use Rattle.mg_present.proofs.Images.{count_next, image-most}
use Rattle.mg_present.proofs.gen_map.image_length.Goals as goal

-- the sum after one more letter
next : (c : goal.After-letters) → c.loop-x.sum + length c.letters.result.now ≡ length (image_of c.args.map.now (take (c.loop-x.x-index + 1) c.args.w.now.letters))
next c =
    ap (λ t. c.loop-x.sum + length t) c.letters.ensures
    ∙ count_next c.args.map.now c.args.w.now.letters c.loop-x.x-index c.loop-x.sum c.x-item.result c.generator_image.result.now.letters
    (record { within = rw (← c.letters-x-items.ensures) c.loop-x-test.true; sum_is = c.loop-x.invariant }) c.requires.there (rw (← c.letters-x-items.ensures) c.x-item.is) c.generator_image.ensures

pub overflow_add-sum : goal.overflow_add-sum
overflow_add-sum c =
    let w = c.args.w.now.letters in
    omega (arith, next c, image-most MOST_MAPPED_LETTERS c.args.map.now (take (c.loop-x.x-index + 1) w) c.requires.images, length-take (c.loop-x.x-index + 1) w, c.requires.short)

pub loop-x-preserved : goal.loop-x-preserved
loop-x-preserved c = next c

pub returns : goal.returns
returns c =
    c.loop-x.invariant ∙ ap (λ t. length (image_of c.args.map.now t)) (take_all c.loop-x.x-index c.args.w.now.letters (omega (arith, ap length c.letters-x-items.ensures)))
