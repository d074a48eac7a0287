use Rattle.std.proofs.Common.{◌≡◌, ◌∙◌, ◌<◌, ℕ, ap, sym, subst, Some}
use mathlib.Core.Option.{some-injective}
use Rattle.mg_board.specs.History.{IsAmong}
use Rattle.mg_board.specs.Passes.{pass_of, Closes}
use Rattle.mg_board.specs.Seats.{state_of}
use Rattle.mg_board.proofs.Allowed.{ends}
use Rattle.mg_board.proofs.board.Board.close.Goals as goal

pub unreachable-requires : goal.unreachable-requires
unreachable-requires g c =
    let s = c.pass.inside.seat in
    let all : (n : ℕ) → n < c.board.inside.table.shared.key.1 → IsAmong n s.me.0.numbers = λ n h. subst (λ p. IsAmong n p.numbers) (sym c.pass.view_is) (c.requires.all n (subst (λ b. n < b.passes) c.board.view_is h)) in
    let e = ends pass_of c.board.inside.table.shared.key.0.value c.board.inside.table.shared.key.1 c.board.inside.table.shared.table_id s.id s.me.0 _ _ c.pass.invariant.free.1 all c.close_with-closed.ensures.values.2 in
    let is : Some e.0 ≡ c.take-book.result = some-injective _ _ (sym e.1 ∙ c.take-book.ensures.value) in
    let none = c.in-None.is in
    absurd (cc (is, none))

pub returns : goal.returns
returns g c =
    let s = c.pass.inside.seat in
    let all : (n : ℕ) → n < c.board.inside.table.shared.key.1 → IsAmong n s.me.0.numbers = λ n h. subst (λ p. IsAmong n p.numbers) (sym c.pass.view_is) (c.requires.all n (subst (λ b. n < b.passes) c.board.view_is h)) in
    let e = ends pass_of c.board.inside.table.shared.key.0.value c.board.inside.table.shared.key.1 c.board.inside.table.shared.table_id s.id s.me.0 _ _ c.pass.invariant.free.1 all c.close_with-closed.ensures.values.2 in
    let is : Some e.0 ≡ c.take-book.result = some-injective _ _ (sym e.1 ∙ c.take-book.ensures.value) in
    let some_is = c.in-Some.is in
    let same : e.0 ≡ c.in-Some.book = cc (is, some_is) in
    let there = subst (λ b. Closes pass_of b (state_of c.board.inside.table.shared.table_id s.me.0) e.0) c.board.view_is e.2 in
    let here = subst (λ z. Closes pass_of c.args.board (state_of z s.me.0) e.0) (ap (λ b. b.board) c.board.view_is ∙ (sym c.requires.board ∙ ap (λ p. p.board) (sym c.pass.view_is))) there in
    subst (Closes pass_of c.args.board c.args.pass) same (subst (λ p. Closes pass_of c.args.board p e.0) c.pass.view_is here)
