use Rattle.std.proofs.Common.{subst}
use Rattle.std.specs.Prelude.{IfOk}
use Rattle.mg_complete.specs.declared.work.Work.{Work}
use Rattle.mg_complete.specs.Going.{Goes}
use Rattle.mg_complete.proofs.Advancing.{run_full_by, run_first_by, run_on_by}
use Rattle.mg_complete.proofs.work.Work.run.Goals.{then-not-begun+in_ok-passed+in_default, else-not-begun}
use Rattle.mg_complete.proofs.work.Work.run.Goals as goal

pub returns-in-Some : goal.returns-in-Some
returns-in-Some c =
    run_full_by c.args.self.now c.begin.new.self c.args.until c.in_ok-passed.field-0 c.in-Some.passed c.in-Some.is (c.requires.fresh c.if-not-begun.true) c.requires.until c.requires.works c.in_ok-passed.ensures

pub returns : goal.returns
returns c =
    elim c.if-not-begun.branch [
      | then-not-begun+in_ok-passed+in_default w ↦
          run_first_by c.go.result c.args.self.now w.begin.new.self c.go.new.self c.args.until w.in_ok-passed.field-0 w.in_default.not-Some (c.requires.fresh w.if-not-begun.true) c.requires.until c.requires.works
          w.in_ok-passed.ensures (subst (λ (v : Work). IfOk c.go.result (λ pause. Goes v c.args.until pause c.go.new.self)) w.self-is c.go.ensures)
      | else-not-begun w ↦
          run_on_by c.go.result c.args.self.now c.go.new.self c.args.until c.requires.works (c.requires.vanish w.if-not-begun.false)
          (subst (λ (v : Work). IfOk c.go.result (λ pause. Goes v c.args.until pause c.go.new.self)) w.self-is c.go.ensures)
    ]
