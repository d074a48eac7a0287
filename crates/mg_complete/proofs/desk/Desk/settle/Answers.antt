use Rattle.mg_complete.specs.Working.{on_desk}
use Rattle.mg_complete.proofs.Settling.{given_by, settles_so}
use Rattle.mg_complete.proofs.desk.Desk.settle.Goals as goal

pub add-requires-clause-given : goal.add-requires-clause-given
add-requires-clause-given c =
    given_by c.args.group.now c.args.system.now.rules (on_desk c.args.self.now) (on_desk c.rewrite.new.self) c.in_ok-given.field-0 c.in-Some.given c.requires.equation
    c.rewrite.ensures.same c.in_ok-given.ensures c.in-Some.is

pub returns : goal.returns
returns c =
    settles_so c.add.result c.args.group.now c.args.system.now (on_desk c.args.self.now) (on_desk c.rewrite.new.self) c.in_ok-given.field-0 c.in-Some.given _
    c.rewrite.ensures.same c.in_ok-given.ensures c.in-Some.is c.add.ensures
