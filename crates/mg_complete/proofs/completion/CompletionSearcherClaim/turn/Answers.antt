use Rattle.std.proofs.Common.{◌+◌, ◌-◌, refl, sym, ap, subst, ◌∙◌}
use Rattle.std.specs.Prelude.{Option, Some}
use Rattle.mg_turn.specs.declared.outcome.Outcome.{Outcome}
use Rattle.mg_certs.specs.Claim.{Fact}
use Rattle.mg_complete.specs.declared.work.Work.{Work}
use Rattle.mg_complete.specs.Completion.{Completion}
use Rattle.mg_complete.specs.Turn.{CompletionTurn}
use Rattle.mg_complete.specs.Holding.{IsHeld, search_of}
use Rattle.mg_complete.proofs.Turning.{turn_held, turn_made, ends_unstopped}
use Rattle.mg_complete.proofs.completion.CompletionSearcherClaim.turn.Goals as goal

pub invariant_of-self-2 : goal.invariant_of-self-2
invariant_of-self-2 g c =
    let until = c.in-Some.work.spent + c.args.units in
    let work = sym c.take.ensures.value ∙ c.in-Some.is in
    turn_held c.self.inside.ask c.in-Some.work c.run.new.self c.end.new.self until c.self.inside.is_open c.self.inside.begun c.goes_on-self-inside.result c.has_begun-self-inside.result c.in_ok-pause.pause c.in_ok-end.end
    (subst (λ (o : Option Work). IsHeld c.self.inside.ask o c.self.inside.is_open c.self.inside.begun) work c.self.invariant)
    c.in_ok-pause.ensures c.in_ok-end.ensures.same (c.in_ok-end.ensures.end until c.in_ok-pause.ensures.why) c.goes_on-self-inside.ensures c.has_begun-self-inside.ensures

pub returns-clause-turns : goal.returns-clause-turns
returns-clause-turns g c =
    let until = c.in-Some.work.spent + c.args.units in
    let work = sym c.take.ensures.value ∙ c.in-Some.is in
    let outcome : Outcome Fact = record { spent = c.end.new.self.spent - c.in-Some.work.spent; end = c.in_ok-end.end } in
    subst (λ (s : Completion). CompletionTurn s c.args.units outcome (search_of c.self.inside.ask (Some c.end.new.self) c.goes_on-self-inside.result c.has_begun-self-inside.result))
    (ap (λ (o : Option Work). search_of c.self.inside.ask o c.self.inside.is_open c.self.inside.begun) (sym work) ∙ c.self.view_is)
    (turn_made c.self.inside.ask c.in-Some.work c.run.new.self c.end.new.self c.args.units c.self.inside.is_open c.self.inside.begun c.goes_on-self-inside.result c.has_begun-self-inside.result c.in_ok-pause.pause outcome c.group.ensures.fits
    (subst (λ (o : Option Work). IsHeld c.self.inside.ask o c.self.inside.is_open c.self.inside.begun) work c.self.invariant)
    c.in_ok-pause.ensures c.in_ok-end.ensures.same (c.in_ok-end.ensures.end until c.in_ok-pause.ensures.why) refl c.goes_on-self-inside.ensures c.has_begun-self-inside.ensures)

pub returns-clause-stopped : goal.returns-clause-stopped
returns-clause-stopped g c =
    let until = c.in-Some.work.spent + c.args.units in ends_unstopped c.end.new.self until c.in_ok-end.end (g.T.Stop.known c.args._stop.now) (c.in_ok-end.ensures.end until c.in_ok-pause.ensures.why)
