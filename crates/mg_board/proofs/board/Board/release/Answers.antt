use Rattle.std.proofs.Common.{rules, arith}
use Rattle.mg_board.specs.Passes.{pass_of}
use Rattle.mg_board.proofs.Allowed.{releases}
use Rattle.mg_board.proofs.board.Board.release.Goals as goal

pub store-requires : goal.store-requires
store-requires g c = (
  search rules,
  omega (arith, c.self.invariant.0),
  releases pass_of c.self.inside.table.shared.key.0.value c.self.inside.table.shared.key.1 c.self.inside.table.shared.table_id.slots c.args.seat.now.id c.args.seat.now.me c.requires.turn.0 c.requires.turn.1.hand c.requires.turn.1.slot,
)
