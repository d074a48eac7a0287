use Rattle.std.proofs.Common.{◌≡◌, true, subst, arith}
use Rattle.mg_numbers.specs.Plain.{NoneAmong}
use Rattle.mg_action.specs.Number.{RefutedAt}
use Rattle.mg_action.specs.Search.{Searched}
use Rattle.mg_action.proofs.search.Enumeration.cursor.Goals as goal

pub returns-clause-none : goal.returns-clause-none
returns-clause-none c =
    subst (λ (v : Searched). v.is_open ≡ true → NoneAmong (RefutedAt v.ask) 0 v.cursor) c.self.view_is
    (λ goes_on k low high refuted. (c.self.invariant.walks goes_on).none k low (omega (arith, high, c.self.invariant.ahead goes_on)) refuted)
