use Rattle.std.proofs.Common.{rules, ◌∙◌, ap, sym, subst, arith}
use Rattle.mg_board.specs.History.{IsAmong}
use Rattle.mg_board.specs.Passes.{pass_of}
use Rattle.mg_board.proofs.Allowed.{tries}
use Rattle.mg_board.proofs.board.Board.take_turn.Goals as goal

pub compare_exchange-requires : goal.compare_exchange-requires
compare_exchange-requires g c =
    let same = c.loop.invariant.1 in (
      search rules,
      omega (arith, c.self.invariant.0),
      tries pass_of c.self.inside.table.shared.key.0.value c.self.inside.table.shared.key.1 c.self.inside.table.shared.table_id.slots c.loop.seat.id c.loop.seat.me (ap (λ m. m.1) same ∙ c.requires.bare)
          (subst (λ m. IsAmong m.0.number m.0.numbers) (sym same) c.requires.live),
    )
