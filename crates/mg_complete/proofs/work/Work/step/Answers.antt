use Rattle.std.proofs.Common.{arith}
use Rattle.mg_rules.specs.declared.meeting.Meeting.{Meeting}
use Rattle.mg_rules.specs.Meeting.{Meets}
use Rattle.mg_rules.specs.Listing.{ComesBefore}
use Rattle.mg_complete.proofs.Advancing.{nothing_left, none_of, units_spent, one_added, goals_vanish}
use Rattle.mg_complete.proofs.work.Work.step.Goals as goal

pub returns-in_default : goal.returns-in_default
returns-in_default c =
    nothing_left c.args.self.now c.args.until c.requires.until c.requires.remains
    (none_of c.next_overlap.result ((m : Meeting) → Meets c.args.self.now.system.rules m → ComesBefore c.args.self.now.last m → ⊥) c.in_default.not-Some c.next_overlap.ensures.none)

pub returns-then-self-until : goal.returns-then-self-until
returns-then-self-until c = units_spent c.args.self.now c.args.until c.requires.until (grind (arith, c.if-self-until.true)) c.requires.remains

pub remains-requires : goal.remains-requires
remains-requires c = (c.in_ok-take.ensures.works c.requires.works.0 c.requires.works.1).system

pub returns-then-branch : goal.returns-then-branch
returns-then-branch c =
    one_added c.args.self.now c.take.new.self c.remains.new.self c.in_ok-take.field-0 c.args.until c.in-Added.is c.in_ok-take.ensures (grind (arith, c.if-self-until.false)) c.in_ok-remains-in-Added.ensures.same
    (c.in_ok-remains-in-Added.ensures.remains c.if-branch.true)

pub returns-else-branch : goal.returns-else-branch
returns-else-branch c =
    goals_vanish c.args.self.now c.take.new.self c.remains.new.self c.in_ok-take.field-0 c.args.until c.in-Added.is c.in_ok-take.ensures (grind (arith, c.if-self-until.false)) c.in_ok-remains-in-Added.ensures.same
    (c.in_ok-remains-in-Added.ensures.vanish c.if-branch.false)
