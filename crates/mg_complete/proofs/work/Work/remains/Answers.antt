use Rattle.std.proofs.Common.{rules, arith, ◌∙◌, ap, length}
use Rattle.mg_complete.proofs.Vanishing.{all_vanish, same_on, count_on, system_on, vanish_on}
use Rattle.mg_complete.proofs.work.Work.remains.Goals as goal

pub loop-place-preserved : goal.loop-place-preserved
loop-place-preserved c =
    let inv = c.loop-place.invariant in
    let h = c.in_ok-vanishes-2.ensures in
    record {
      same = same_on c.args.self.now c.loop-place.self c.vanishes-in-loop-place.new.self inv.same h.same;
      count = count_on c.loop-place.self c.vanishes-in-loop-place.new.self c.len-count.result h.same inv.count;
      system = system_on c.loop-place.self c.vanishes-in-loop-place.new.self h.same inv.system;
      vanish = vanish_on c.args.self.now c.loop-place.self c.loop-place.place inv.same inv.vanish (h.vanish (search rules));
    }

pub returns-clause-vanish : goal.returns-clause-vanish
returns-clause-vanish c none =
    all_vanish c.args.self.now c.len-count.result c.loop-place.place (c.loop-place.invariant.count ∙ ap (λ a. length a.goals) c.loop-place.invariant.same.ask)
    (grind (arith, c.loop-place-test.false)) c.loop-place.invariant.vanish
