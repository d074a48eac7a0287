use Rattle.std.proofs.Common.{rules, arith}
use Rattle.mg_board.specs.Passes.{pass_of}
use Rattle.mg_board.proofs.Allowed.{looks}
use Rattle.mg_board.proofs.board.Board.look.Goals as goal

pub load-requires : goal.load-requires
load-requires g c = (
  search rules,
  omega (arith, c.self.invariant.0),
  looks pass_of c.self.inside.table.shared.key.0.value c.self.inside.table.shared.key.1 c.self.inside.table.shared.table_id.slots c.args.seat.now.id c.args.seat.now.me c.requires.turn.0 c.requires.turn.1.hand,
)

pub returns-clause-seen : goal.returns-clause-seen
returns-clause-seen g c log turn = (c.load.ensures.2 log turn.hand).0
