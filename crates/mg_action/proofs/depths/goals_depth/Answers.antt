use Rattle.std.proofs.Common.{◌≡◌, [], get_or, ap, sym, ◌∙◌, arith}
use Rattle.std.specs.Prelude.{slice_get}
use Rattle.std.proofs.lemmas.Option.{get_or_from_slice_get}
use Rattle.mg_action.proofs.Reading.{fixed_more}
use Rattle.mg_action.proofs.depths.goals_depth.Goals as goal

pub loop-place-preserved : goal.loop-place-preserved
loop-place-preserved c =
    let image : c.in-Some.reading.image ≡ 0 = omega (arith, c.if-reading-ne0.false) in
    let goal : c.letters.result.now ≡ get_or c.args.ask.now.goals c.loop-place.place [] =
    c.letters.ensures ∙ sym (get_or_from_slice_get c.args.ask.now.goals c.loop-place.place c.at.result.now.letters [] (ap (λ t. slice_get t c.loop-place.place) (sym c.goals-goals.ensures.value) ∙ c.at.ensures)) in
    record {
      some = omega (arith, c.loop-place.invariant.some, c.max-depth.ensures);
      most = omega (arith, c.loop-place.invariant.most, c.max-depth.ensures, c.read.ensures.most c.in-Some.reading c.in-Some.is);
      fixed = fixed_more c.args.ask.now c.args.action.now c.letters.result.now c.loop-place.place c.loop-place.depth c.max-depth.result c.in-Some.reading.depth goal (omega (arith, c.max-depth.ensures)) (omega (arith, c.max-depth.ensures)) (λ t b. c.read.ensures.image c.in-Some.reading c.in-Some.is t b ∙ image) c.loop-place.invariant.fixed;
    }
