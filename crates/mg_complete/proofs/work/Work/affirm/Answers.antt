use Rattle.std.proofs.Common.{ap, subst, ◌∙◌}
use Rattle.std.specs.Prelude.{Option, List}
use Rattle.mg_present.specs.Ask.{Inquiry}
use Rattle.mg_present.specs.Presentation.{IsPresented}
use Rattle.mg_rulelog.specs.declared.moves.Move.{Move}
use Rattle.mg_complete.specs.declared.system.System.{System}
use Rattle.mg_complete.specs.Publishing.{logged}
use Rattle.mg_complete.specs.Ending.{ErasesAll}
use Rattle.mg_complete.proofs.Affirming.{affirmed_so}
use Rattle.mg_complete.proofs.work.Work.affirm.Goals as goal

pub of_verdict-claim-requires : goal.of_verdict-claim-requires
of_verdict-claim-requires c = record {
  accepted =
      let w = c.args.self.now in
      let same = c.in_ok-goals.ensures.same in
      let erases = subst (λ (o : Option (List (List Move))). ErasesAll w o) c.in-Some.is c.in_ok-goals.ensures.erases in
      affirmed_so w c.requires.works.0 c.in_ok-copy.field-0 c.in_ok-rules.rules c.in-Some.goals
      (subst (λ (q : Inquiry). IsPresented q.group) same.ask c.group.ensures.fits.group)
      c.requires.works.1 (c.in_ok-copy.ensures ∙ same.ask) (c.in_ok-rules.ensures ∙ ap (λ (s : System). logged s.rules s.reasons) same.system) erases.0;
}
