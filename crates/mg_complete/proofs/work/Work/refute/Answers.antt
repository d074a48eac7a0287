use Rattle.std.proofs.Common.{sym, subst, List}
use Rattle.std.proofs.lemmas.Result.{IfOk-weaker}
use Rattle.mg_rules.specs.Rule.{Rule}
use Rattle.mg_rules.specs.Complete.{IsComplete}
use Rattle.mg_certs.specs.Claim.{complete}
use Rattle.mg_certs.specs.Refuting.{IsFirstRefuted, RefutesNone}
use Rattle.mg_complete.proofs.Refuting.{work_complete, some_refuted, no_published}
use Rattle.mg_complete.proofs.work.Work.refute.Goals as goal

pub first_refuted-requires : goal.first_refuted-requires
first_refuted-requires c = record {
  of_group =
      subst (IsComplete c.args.self.now.ask.group) (sym c.in_ok-copy.ensures)
      (work_complete c.args.self.now c.requires.works.0 c.group.ensures.fits.group c.requires.works.1 c.requires.vanish c.requires.done);
}

pub unreachable-requires : goal.unreachable-requires
unreachable-requires c =
    let w = c.args.self.now in
    let none = subst (IsFirstRefuted w.ask (complete c.in_ok-copy.field-0)) c.in-None.is c.in_ok-goal.ensures.exact in
    some_refuted w.ask w.system.rules (work_complete w c.requires.works.0 c.group.ensures.fits.group c.requires.works.1 c.requires.vanish c.requires.done) c.requires.works.1.alone c.requires.remains
    (subst (λ (t : List Rule). RefutesNone w.ask (complete t)) c.in_ok-copy.ensures none)

pub returns : goal.returns
returns c =
    IfOk-weaker c.refuted.result _ _
    (λ records are. no_published c.args.self.now.ask c.args.self.now.system.rules c.in_ok-copy.field-0 c.in_ok-goal.field-0 c.in-Some.goal records c.in_ok-copy.ensures c.in_ok-goal.ensures.exact c.in-Some.is are)
    c.refuted.ensures
