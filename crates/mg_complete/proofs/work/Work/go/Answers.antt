use Rattle.mg_complete.proofs.Advancing.{goes_at, goes_so, advances_same, remains_same, still_goes}
use Rattle.mg_complete.proofs.work.Work.go.Goals as goal

pub returns-then-not-branch : goal.returns-then-not-branch
returns-then-not-branch c =
    goes_at c.args.self.now c.remains.new.self c.args.until c.in_ok-remains.ensures.same c.requires.until (c.in_ok-remains.ensures.vanish c.if-not-branch.true)

pub loop-pause-init : goal.loop-pause-init
loop-pause-init c = record {
  advances = advances_same c.args.self.now c.remains.new.self c.args.until c.in_ok-remains.ensures.same c.requires.until;
  remains = remains_same c.args.self.now c.remains.new.self c.in_ok-remains.ensures.same (c.in_ok-remains.ensures.remains c.if-not-branch.false);
}

pub step-requires-clause-works : goal.step-requires-clause-works
step-requires-clause-works c = (c.requires.works.0, c.loop-pause.invariant.advances.works c.requires.works.0 c.requires.works.1)

pub returns-in-Some : goal.returns-in-Some
returns-in-Some c =
    goes_so c.args.self.now c.loop-pause.self c.step.new.self c.args.until c.in_ok-pause.field-0 c.in-Some.pause c.in-Some.is c.loop-pause.invariant.advances c.in_ok-pause.ensures

pub loop-pause-preserved : goal.loop-pause-preserved
loop-pause-preserved c =
    let h = still_goes c.args.self.now c.loop-pause.self c.step.new.self c.args.until c.in_ok-pause.field-0 c.in_default.not-Some c.loop-pause.invariant.advances c.in_ok-pause.ensures in
    record { advances = h.0; remains = h.1 }
