use Rattle.std.proofs.Common.{rules, ◌≡◌, ◌∙◌, ◌<◌, ◌+◌, ◌-◌, ℕ, ap, sym, subst, arith, [], ◌∷◌, ◌++◌}
use Rattle.mg_board.specs.History.{IsAmong}
use Rattle.mg_board.specs.Passes.{pass_of, dealt}
use Rattle.mg_board.specs.Seats.{numbers_from, newcomer, others, alone, state_of}
use Rattle.mg_board.proofs.Allowed.{splits}
use Rattle.mg_board.proofs.Deals.{numbers_more, numbers_fresh, others_of, one, dealt_more}
use Rattle.mg_board.proofs.board.Board.deal.Goals as goal

pub split_seat-first-requires : goal.split_seat-first-requires
split_seat-first-requires g c =
    let i : ℕ = c.loop-dealt._dealt in
    let k : ℕ = c.args.passes - i in
    let at = c.loop-dealt.invariant.1 in
    let v = c.loop-dealt.seat.me.0 in
    let first : v.number ≡ i = ap (λ m. m.0.number) at in
    let more : 0 < k = omega (arith, c.loop-dealt.invariant.3) in (
      search rules,
      omega (arith, c.self.invariant.0),
      splits pass_of c.self.inside.table.shared.key.0.value c.self.inside.table.shared.key.1 c.loop-dealt.seat.id v (numbers_from (i + 1) (k - 1)) (ap (λ m. m.0.hand) at)
          (ap (λ m. m.0.numbers) at ∙ (numbers_more i k more ∙ ap (λ n. n ∷ numbers_from (i + 1) (k - 1)) (sym first)))
          (λ a. numbers_fresh i (k - 1) (subst (λ n. IsAmong n (numbers_from (i + 1) (k - 1))) first a)),
    )

pub loop-dealt-preserved : goal.loop-dealt-preserved
loop-dealt-preserved g c =
    let shown = c.args.self.now in
    let i : ℕ = c.loop-dealt._dealt in
    let k : ℕ = c.args.passes - i in
    let at = c.loop-dealt.invariant.1 in
    let bound = c.loop-dealt.invariant.3 in
    let test : i < c.args.passes - 1 = search rules in
    let more : 0 < k = omega (arith, bound) in
    let less : k - 1 ≡ c.args.passes - (i + 1) = omega (arith, bound) in
    let seat = c.split_seat-first.result in
    let mine : state_of seat.table_id seat.me.0 ≡ one shown i =
    ap (λ m. state_of seat.table_id m.0) (c.split_seat-first.ensures.4) ∙ (ap (λ m. state_of seat.table_id (alone m.0)) at
    ∙ ap (λ z. state_of z (alone (newcomer shown.opening i k))) (c.split_seat-first.ensures.3 ∙ (c.loop-dealt.invariant.0 ∙ c.requires.table))) in
    let zero_on : 0 + i ≡ i = omega arith in (
      search rules,
      c.split_seat-first.ensures.2 ∙ (ap (λ m. (others m.0, m.1)) at ∙ (ap (λ w. (w, [])) (others_of shown.opening i k more) ∙ ap (λ z. (newcomer shown.opening (i + 1) z, [])) less)),
      c.in_ok-push.ensures.ok ∙ (ap (λ l. l ++ state_of seat.table_id seat.me.0 ∷ []) c.loop-dealt.invariant.2 ∙ (ap (λ w. dealt shown 0 i ++ w ∷ []) (mine ∙ ap (one shown) (sym zero_on)) ∙ sym (dealt_more shown 0 i))),
      omega (arith, test),
    )

pub returns : goal.returns
returns g c =
    let shown = c.args.self.now in
    let i : ℕ = c.loop-dealt._dealt in
    let k : ℕ = c.args.passes - i in
    let at = c.loop-dealt.invariant.1 in
    let bound = c.loop-dealt.invariant.3 in
    let last : i + 1 ≡ c.args.passes = search rules in
    let only : k ≡ 1 = omega (arith, last) in
    let seat = c.loop-dealt.seat in
    let mine : state_of seat.table_id seat.me.0 ≡ one shown i =
    ap (λ m. state_of seat.table_id m.0) at ∙ (ap (λ n. state_of seat.table_id (newcomer shown.opening i n)) only
    ∙ ap (λ z. state_of z (newcomer shown.opening i 1)) (c.loop-dealt.invariant.0 ∙ c.requires.table)) in
    let zero_on : 0 + i ≡ i = omega arith in
    c.in_ok-push-2.ensures.ok ∙ (ap (λ l. l ++ state_of seat.table_id seat.me.0 ∷ []) c.loop-dealt.invariant.2 ∙ (ap (λ w. dealt shown 0 i ++ w ∷ []) (mine ∙ ap (one shown) (sym zero_on)) ∙ (sym (dealt_more shown 0 i) ∙ ap (dealt shown 0) last)))
