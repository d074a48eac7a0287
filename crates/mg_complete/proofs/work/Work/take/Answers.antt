use Rattle.mg_complete.specs.Working.{on_desk}
use Rattle.mg_complete.proofs.Taking.{meeting_is, full_taken, unit_taken}
use Rattle.mg_complete.proofs.work.Work.take.Goals as goal

pub settle-requires-clause-equation : goal.settle-requires-clause-equation
settle-requires-clause-equation c =
    meeting_is c.args.self.now.ask.group c.group.result.now c.args.self.now.system.rules c.args.next.now (on_desk c.put_meeting.new.self) c.group.ensures.value c.in_ok-put_meeting.ensures

pub returns-in-Full : goal.returns-in-Full
returns-in-Full c =
    full_taken c.args.self.now c.group.result.now (on_desk c.put_meeting.new.self) c.settle.new.system c.settle.new.self c.in_ok-settled.settled _ c.group.ensures.value
    c.in-Full.is c.in_ok-settled.ensures

pub returns : goal.returns
returns c =
    unit_taken c.args.self.now c.group.result.now (on_desk c.put_meeting.new.self) c.settle.new.system c.settle.new.self c.args.next.now c.in_ok-settled.settled c.group.ensures.value
    c.in_default.not-Full c.requires.next c.in_ok-put_meeting.ensures c.in_ok-settled.ensures
