use Rattle.std.proofs.Common.{◌≡◌, List}
use Rattle.std.specs.Prelude.{Some}
use Rattle.mg_rules.specs.Rule.{Rule, rule_numbered}
use Rattle.mg_rules.specs.Checking.{FallTogether, ResultsFall, one_result, other_result}
use Rattle.mg_rules.proofs.Reading.{number_within, rule_read}
use Rattle.mg_rules.proofs.Checks.{fall_from, if_ok_exactly}
use Rattle.mg_rules.proofs.complete.Checker.joins.Goals as goal

pub returns : goal.returns
returns c =
    let rules : List Rule = c.args.rules.now in
    let m = c.args.met.now in
    let first : Rule = c.index-pairs-met.result in
    let second : Rule = c.index-pairs-met-2.result in
    let meets = c.requires.meets in
    let within = number_within rules m.first meets.first meets.first_numbered in
    let within' = number_within rules m.second meets.second meets.second_numbered in
    let one : rule_numbered rules m.first ≡ Some first = rule_read rules c.pairs-pairs.result.now m.first first c.pairs-pairs.ensures c.index-pairs-met.is within.0 within.1 in
    let other : rule_numbered rules m.second ≡ Some second = rule_read rules c.pairs-pairs.result.now m.second second c.pairs-pairs.ensures c.index-pairs-met-2.is within'.0 within'.1 in
    if_ok_exactly c.fall_together.result (FallTogether rules (one_result first second m.place) (other_result first second m.place)) (ResultsFall rules m)
    c.fall_together.ensures (fall_from rules m first second meets one other)
