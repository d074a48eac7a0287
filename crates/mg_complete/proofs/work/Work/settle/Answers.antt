use Rattle.std.proofs.Common.{sym, subst}
use Rattle.mg_present.specs.Presentation.{Group}
use Rattle.mg_complete.specs.Equations.{IsEquation}
use Rattle.mg_complete.specs.Working.{on_desk}
use Rattle.mg_complete.proofs.Taking.{deals_so}
use Rattle.mg_complete.proofs.work.Work.settle.Goals as goal

pub settle-requires-clause-equation : goal.settle-requires-clause-equation
settle-requires-clause-equation c =
    subst (λ (g : Group). IsEquation g c.args.self.now.system.rules (on_desk c.args.self.now.desk)) (sym c.group.ensures.value) c.requires.equation

pub returns : goal.returns
returns c =
    deals_so c.settle.result c.args.self.now c.group.result.now (on_desk c.args.self.now.desk) c.settle.new.system c.settle.new.self c.group.ensures.value c.settle.ensures
