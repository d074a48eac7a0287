use Rattle.std.proofs.Common.{◌≡◌, ◌-◌, ◌<◌, inr, length, take, Some, ap, sym, ◌∙◌, subst, arith, rules}
use Rattle.std.specs.Prelude.{slice_get}
use Rattle.std.proofs.lemmas.Option.{slice_get-get_or, same_Some}
use Rattle.mg_core.specs.Streaks.{GoesOn, longer}
use Rattle.mg_core.proofs.Scans.{last_at}
use Rattle.mg_core.proofs.streaks.put_turn.Goals as goal

pub returns-then-goes_on_at-clause-ok : goal.returns-then-goes_on_at-clause-ok
returns-then-goes_on_at-clause-ok c =
    let streaks = c.args.streaks.now.items in
    let at = c.len-count.result - 1 in
    let last = c.index_mut.result.now in
    let count : c.len-count.result ≡ length streaks = search rules in
    let small : at < length streaks = omega (arith, count, c.if-count-gt0.true) in
    let there : slice_get streaks at ≡ Some last = slice_get-get_or streaks at last small ∙ ap Some (sym c.index_mut.ensures.value) in
    let read : slice_get streaks at ≡ Some c.index.result.now = slice_get-get_or streaks at c.index.result.now small ∙ ap Some (sym c.index.ensures) in
    let split = last_at streaks at last (longer last) there (omega (arith, count, c.if-count-gt0.true)) in
    let goes : GoesOn c.index.result.now c.args.turn = search rules in
    inr (take at streaks, last, split.0, subst (λ s. GoesOn s c.args.turn) (same_Some c.index.result.now last (sym read ∙ there)) goes, split.1)
