use Rattle.std.proofs.Common.{rules, arith, refl, [], ◌∷◌, ◌++◌}
use Rattle.mg_board.specs.Passes.{pass_of}
use Rattle.mg_board.proofs.Allowed.{advances}
use Rattle.mg_board.proofs.board.Board.advance.Goals as goal

pub store-requires : goal.store-requires
store-requires g c = (
  search rules,
  omega (arith, c.self.invariant.0),
  (let m = c.requires.more in advances pass_of c.self.inside.table.shared.key.0.value c.self.inside.table.shared.key.1 c.self.inside.table.shared.table_id.slots c.args.seat.now.id c.args.seat.now.me m.0 (m.0 ++ m.1 ∷ []) m.1 c.args.count m.2 m.3 refl m.4 c.requires.live m.5),
)
