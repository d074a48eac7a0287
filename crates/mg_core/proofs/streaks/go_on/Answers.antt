use Rattle.std.proofs.Common.{◌≡◌, ◌-◌, ◌+◌, ◌<◌, ◌^◌, length, take, Some, ap, sym, ◌∙◌, subst, arith, rules}
use Rattle.std.specs.Prelude.{slice_get, slice_set}
use Rattle.std.proofs.lemmas.Option.{slice_get-get_or, same_Some}
use Rattle.std.proofs.lemmas.List.{length_push}
use Rattle.mg_core.specs.declared.streaks.Streak.{Streak}
use Rattle.mg_core.specs.Streaks.{IsNumbered, longer}
use Rattle.mg_core.proofs.Firsts.{all_get}
use Rattle.mg_core.proofs.Scans.{last_at}
use Rattle.mg_core.proofs.streaks.go_on.Goals as goal

pub returns-clause-ok : goal.returns-clause-ok
returns-clause-ok c =
    let streaks = c.args.streaks.now.items in
    let at = c.len-at.result - 1 in
    let last = c.index_mut.result.now in
    let count : c.len-at.result ≡ length streaks = search rules in
    let some = c.requires.some in
    let size = ap length some.2 in
    let one : at + 1 ≡ length streaks = omega (arith, count, size, length_push some.0 some.1) in
    let small : at < length streaks = omega (arith, one) in
    let there : slice_get streaks at ≡ Some last = slice_get-get_or streaks at last small ∙ ap Some (sym c.index_mut.ensures.value) in
    let read : slice_get streaks at ≡ Some c.index-last.result.now = slice_get-get_or streaks at c.index-last.result.now small ∙ ap Some (sym c.index-last.ensures) in
    let same = same_Some last c.index-last.result.now (sym there ∙ read) in
    let fits = all_get IsNumbered streaks at c.index-last.result.now c.requires.numbered read in
    let next : c.index-last.result.now.turn + c.index-last.result.now.more + 1 < 2 ^ 64 = omega (arith, fits, c.if-last.false) in
    let split = last_at streaks at last (longer last) there one in
    record {
      before = take at streaks;
      last = last;
      old_is = split.0;
      next = subst (λ (s : Streak). s.turn + s.more + 1 < 2 ^ 64) (sym same) next;
      new_is = ap (λ s. slice_set streaks at (record last { more = s.more + 1 })) (sym same) ∙ split.1;
    }
