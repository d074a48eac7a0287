use Rattle.std.proofs.Common.{◌∙◌, ap, sym, subst}
use Rattle.mg_board.specs.History.{IsAmong, Reaches}
use Rattle.mg_board.specs.Passes.{pass_of}
use Rattle.mg_board.proofs.Histories.{among_left}
use Rattle.mg_board.proofs.board.Board.meet.Goals as goal

pub invariant_of-result : goal.invariant_of-result
invariant_of-result g c =
    let now = c.join.ensures.joined in
    let v = c.a.inside.seat.me.0 in
    record {
      free = (ap (λ m. m.1) now, ap (λ m. m.0.hand) now ∙ c.a.invariant.free.1);
      live = subst (λ u. IsAmong u.number u.numbers) (sym (ap (λ m. m.0) now)) (among_left v.number v.numbers c.b.inside.seat.me.0.numbers c.a.invariant.live);
    }

pub returns-clause-first : goal.returns-clause-first
returns-clause-first g c = subst (λ p. Reaches pass_of p.numbers p.seen c.join.new.seat.me.0.seen) c.a.view_is c.join.ensures.first

pub returns-clause-second : goal.returns-clause-second
returns-clause-second g c = subst (λ p. Reaches pass_of p.numbers p.seen c.join.new.seat.me.0.seen) c.b.view_is c.join.ensures.second
