use Rattle.std.proofs.Common.{◌+◌, ◌*◌, pos, ap, ◌∙◌, arith}
use Rattle.mg_present.specs.Presentation.{Group}
use Rattle.mg_complete.specs.Beginning.{PairsVanish, LetterVanishes}
use Rattle.mg_complete.proofs.Begun.{begins_none, no_pairs, pairs_more, full_next, none_next}
use Rattle.mg_complete.proofs.work.Work.deal_pairs.Goals as goal

pub loop-alloc-init : goal.loop-alloc-init
loop-alloc-init c = record {
  begins = begins_none c.args.self.now (PairsVanish 0) (no_pairs c.args.self.now.system.rules);
  count = c.generators-count.ensures.value ∙ ap (λ (g : Group). g.generators) c.group.ensures.value;
  within = omega arith;
  few = grind (arith, c.generators-count.ensures.value, c.generators-count.ensures.fits.generators);
}

pub deal_generator-requires-clause-works : goal.deal_generator-requires-clause-works
deal_generator-requires-clause-works c = (c.requires.0 + 2 * c.loop-alloc.generator, c.loop-alloc.invariant.begins.works c.requires.0 c.requires.1)

pub returns-in-Some : goal.returns-in-Some
returns-in-Some c =
    let n = c.loop-alloc.generator in
    let all = c.args.self.now.ask.group.generators in
    full_next c.args.self.now c.loop-alloc.self c.deal_generator.new.self (2 * n) 2 (2 * all) (PairsVanish n) (LetterVanishes (pos (n + 1))) (PairsVanish all) c.in_ok-passed.field-0 c.in-Some.passed c.in-Some.is
    c.loop-alloc.invariant.begins c.in_ok-passed.ensures (grind (arith, c.loop-alloc-test.true, c.from.ensures, c.loop-alloc.invariant.count))

pub loop-alloc-preserved : goal.loop-alloc-preserved
loop-alloc-preserved c =
    let n = c.loop-alloc.generator in
    record {
      begins = pairs_more c.args.self.now c.loop-alloc.self c.deal_generator.new.self n c.loop-alloc.invariant.begins
          (none_next c.loop-alloc.self c.deal_generator.new.self 2 (LetterVanishes (pos (n + 1))) c.in_ok-passed.field-0 c.in_default.not-Some c.in_ok-passed.ensures);
      count = c.loop-alloc.invariant.count;
      within = grind (arith, c.loop-alloc-test.true, c.from.ensures);
      few = c.loop-alloc.invariant.few;
    }
