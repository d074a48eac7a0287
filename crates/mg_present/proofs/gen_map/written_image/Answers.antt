use Rattle.std.proofs.Common.{◌++◌, length, sym, ap, ◌∙◌, arith}
use Rattle.std.proofs.lemmas.List.{take_all}
use Rattle.mg_present.specs.Image.{letter_image, image_of}
use Rattle.mg_present.proofs.Images.{image_next}
use Rattle.mg_present.proofs.gen_map.written_image.Goals as goal

pub loop-x-preserved : goal.loop-x-preserved
loop-x-preserved c =
    c.in_ok-push_image.ensures ∙ (ap (λ t. t ++ letter_image c.args.map.now c.x-item.result) c.loop-x.invariant
    ∙ sym (image_next c.args.map.now c.args.w.now.letters c.loop-x.x-index c.x-item.result (rw (← c.letters-x-items.ensures) c.loop-x-test.true) (rw (← c.letters-x-items.ensures) c.x-item.is)))

pub returns : goal.returns
returns c = c.loop-x.invariant ∙ ap (image_of c.args.map.now) (take_all c.loop-x.x-index c.args.w.now.letters (omega (arith, ap length c.letters-x-items.ensures)))
