use Rattle.std.proofs.Common.{◌+◌, ◌-◌, ◌/◌, ◌%◌, ◌∙◌, arith}
use Rattle.mg_numbers.specs.Perms.{factorial}
use Rattle.mg_numbers.proofs.PermsRank.{factorial-pos}
use Rattle.mg_action.proofs.Stretches.{cut_stretch}
use Rattle.mg_action.proofs.walk.stretch_of.Goals as goal

pub returns : goal.returns
returns c =
    let d = c.args.degree in
    let place = c.args.depth - 1 in
    c.saturating_mul.ensures ∙ cut_stretch (factorial (d - (place % d + 1))) (factorial d) (c.args.generators - 1 - place / d) 18446744073709551615 c.saturated_factorial-rest.result c.saturated_factorial-perms.result c.saturating_pow.result
    (factorial-pos (d - (place % d + 1))) (factorial-pos d) (omega arith) c.saturated_factorial-rest.ensures c.saturated_factorial-perms.ensures c.saturating_pow.ensures
