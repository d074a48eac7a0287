use Rattle.std.proofs.Common.{◌+◌, ◌<◌, List, ℤ, ap, ◌∙◌, length, arith}
use Rattle.mg_present.specs.Presentation.{Group}
use Rattle.mg_complete.specs.Beginning.{RelatorsVanish, Vanishes}
use Rattle.mg_complete.proofs.Begun.{begins_none, no_relators, relators_more, relator_dealt, full_next, none_next}
use Rattle.mg_complete.proofs.work.Work.deal_relators.Goals as goal

pub loop-place-init : goal.loop-place-init
loop-place-init c = record {
  begins = begins_none c.args.self.now (RelatorsVanish c.args.self.now.ask.group.relators 0) (no_relators c.args.self.now.ask.group.relators c.args.self.now.system.rules);
  count = c.len-count.ensures ∙ (ap (λ (w : List (List ℤ)). length w) c.relators.ensures.value ∙ ap (λ (g : Group). length g.relators) c.group.ensures.value);
}

pub deal_relator-requires-clause-works : goal.deal_relator-requires-clause-works
deal_relator-requires-clause-works c = (c.requires.0 + c.loop-place.place, c.loop-place.invariant.begins.works c.requires.0 c.requires.1)

pub returns-in-Some : goal.returns-in-Some
returns-in-Some c =
    let relators = c.args.self.now.ask.group.relators in
    let n = c.loop-place.place in
    let less : n < length relators = grind (arith, c.loop-place-test.true, c.loop-place.invariant.count) in
    let w = relator_dealt c.args.self.now c.loop-place.self c.deal_relator.new.self n c.in_ok-passed.field-0 c.loop-place.invariant.begins.grows.ask less c.in_ok-passed.ensures in
    full_next c.args.self.now c.loop-place.self c.deal_relator.new.self n 1 (length relators) (RelatorsVanish relators n) (Vanishes w.0) (RelatorsVanish relators (length relators)) c.in_ok-passed.field-0 c.in-Some.passed c.in-Some.is
    c.loop-place.invariant.begins w.2 (omega (arith, less))

pub loop-place-preserved : goal.loop-place-preserved
loop-place-preserved c =
    let relators = c.args.self.now.ask.group.relators in
    let n = c.loop-place.place in
    let less : n < length relators = grind (arith, c.loop-place-test.true, c.loop-place.invariant.count) in
    let w = relator_dealt c.args.self.now c.loop-place.self c.deal_relator.new.self n c.in_ok-passed.field-0 c.loop-place.invariant.begins.grows.ask less c.in_ok-passed.ensures in
    record {
      begins = relators_more c.args.self.now c.loop-place.self c.deal_relator.new.self relators n w.0 w.1 c.loop-place.invariant.begins
          (none_next c.loop-place.self c.deal_relator.new.self 1 (Vanishes w.0) c.in_ok-passed.field-0 c.in_default.not-Some w.2);
      count = c.loop-place.invariant.count;
    }
