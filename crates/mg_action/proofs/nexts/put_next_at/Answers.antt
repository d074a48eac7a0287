use Rattle.std.proofs.Common.{◌≡◌, ◌+◌, ◌-◌, ◌++◌, take, drop, length, sym, subst, ◌∙◌, arith}
use Rattle.std.proofs.lemmas.List.{length-take-le, length-drop}
use Rattle.std.proofs.Math.Seq.{take-length}
use Rattle.std.proofs.lemmas.List.Sorted.{IsPermutation-put_mid}
use Rattle.std.proofs.lemmas.Slice.{take-put_mid}
use Rattle.mg_numbers.specs.Perms.{IsPerm}
use borrow.Rule.Slice.PartMut.{put_mid}
use Rattle.mg_action.specs.Next.{IsLeastGreater}
use Rattle.mg_action.proofs.NextRanks.{perm_moved, behind_greatest, placed_next}
use Rattle.mg_action.proofs.nexts.put_next_at.Goals as goal

pub returns-then-least-place-clause-none : goal.returns-then-least-place-clause-none
returns-then-least-place-clause-none c = λ _ n at.
    behind_greatest (length c.args.perm.now) c.args.place n c.args.perm.now c.requires.perm c.requires.place (subst (λ k. IsLeastGreater c.args.perm.now c.args.place (length c.args.perm.now) k) c.if-least-place.true c.least_greater-least.ensures) at

pub returns-clause-perm : goal.returns-clause-perm
returns-clause-perm c =
    perm_moved (length c.args.perm.now) c.swap.new.self _ (IsPermutation-put_mid (c.args.place + 1) (length c.swap.new.self - (c.args.place + 1)) c.swap.new.self c.sort_unstable.new.self c.sort_unstable.ensures.permutation)
    (perm_moved (length c.args.perm.now) c.args.perm.now c.swap.new.self c.swap.ensures.permutation c.requires.perm)

pub returns-clause-next : goal.returns-clause-next
returns-clause-next c = λ _ n at.
    let d = length c.args.perm.now in
    let a = c.args.place + 1 in
    let ys = c.swap.new.self in
    let s = c.sort_unstable.new.self in
    let zs = put_mid a (length ys - a) ys s in
    let perm : IsPerm d zs = returns-clause-perm c in
    let long : length ys ≡ d = c.swap.ensures.len in
    let size : length s ≡ length ys - a = c.sort_unstable.ensures.len ∙ length-take-le (length ys - a) (drop a ys) (omega (arith, length-drop a ys)) in
    let shape : zs ≡ take a ys ++ s = sym (take-length zs) ∙ take-put_mid a (length ys - a) ys s (length zs) (omega (arith, perm.count, size, long, c.requires.place)) (omega (arith, long, c.requires.place)) in
    placed_next d c.args.place c.least_greater-least.result n c.args.perm.now ys s zs c.requires.perm c.requires.place c.least_greater-least.ensures c.if-least-place.false c.swap.ensures.by_index long shape c.sort_unstable.ensures.sorted perm at
