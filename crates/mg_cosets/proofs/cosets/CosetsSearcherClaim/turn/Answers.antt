use Rattle.std.proofs.Common.{refl, sym, ◌∙◌, subst}
use Rattle.std.specs.Prelude.{Option}
use Rattle.mg_turn.specs.declared.outcome.Outcome.{Outcome}
use Rattle.mg_certs.specs.Claim.{Fact}
use Rattle.mg_tables.specs.Enumerating.{Enumeration}
use Rattle.mg_cosets.specs.Cosets.{Cosets, CosetsTurn, IsHeld}
use Rattle.mg_cosets.proofs.Turns.{turn_made}
use Rattle.mg_cosets.proofs.cosets.CosetsSearcherClaim.turn.Goals as goal

pub returns-clause-turns : goal.returns-clause-turns
returns-clause-turns g c =
    let outcome : Outcome Fact = record { spent = c.in_ok-grown.grown.spent; end = c.in_ok-end.end } in
    let after : Cosets = record {
      ask = c.self.inside.ask;
      table = c.in_ok-grown.grown.enumeration.table;
      spent = c.units-self-inside.result;
      is_open = c.goes_on-self-inside.result;
    } in
    subst (λ (s : Cosets). CosetsTurn s c.args.units outcome after) c.self.view_is
    (turn_made _ after c.args.units outcome c.in-Some.enumeration c.in_ok-grown.grown.enumeration
    (subst (λ (e : Option Enumeration). IsHeld c.self.inside.ask c.self.inside.spent e) (sym c.take.ensures.value ∙ c.in-Some.is) c.self.invariant)
    c.in_ok-grown.ensures.group c.in_ok-grown.ensures.subgroup c.in_ok-grown.ensures.units c.in_ok-grown.ensures.within
    c.units-self-inside.ensures.enumerated refl refl c.units-self-inside.ensures.value c.goes_on-self-inside.ensures (c.in_ok-end.ensures.end after refl refl))
