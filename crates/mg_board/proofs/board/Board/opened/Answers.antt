use Rattle.std.proofs.Common.{rules, ◌≡◌, ◌∙◌, ap, sym, subst, [], ◌∷◌, Some, length}
use Rattle.atomic_table.specs.Table.{opening}
use Rattle.mg_board.specs.Shared.{IsShared}
use Rattle.mg_board.specs.Passes.{pass_of}
use Rattle.mg_board.specs.Seats.{newcomer}
use Rattle.mg_board.proofs.Allowed.{opens}
use Rattle.mg_board.proofs.board.Board.opened.Goals as goal

pub new-requires : goal.new-requires
new-requires g c =
    let log = c.of.result.value in
    let items : c.push.new.self.items ≡ Some log ∷ [] = search rules in
    let many : c.count-count.result ≡ length log = c.count-count.ensures ∙ ap length (sym c.of.ensures) in
    subst (λ xs. IsShared pass_of log c.args.passes (opening (0 ∷ c.count-count.result ∷ []) xs (newcomer log 0 c.args.passes))) (sym items) (opens pass_of log c.args.passes c.count-count.result many)
