use Rattle.std.proofs.Common.{◌≡◌, ◌∙◌, ◌↔◌, sym, ap, length, arith, nat_eq}
use Rattle.std.specs.Prelude.{IsTrue}
use Rattle.std.proofs.lemmas.Bool.Decides.{nat_tests}
use Rattle.mg_rules.proofs.Checks.{vanish_found}
use Rattle.mg_rules.proofs.complete.Checker.vanishes.Goals as goal

pub returns : goal.returns
returns c =
    let found = vanish_found c.args.rules.now c.args.w.now c.descend.new.self c.in_ok-descend.ensures in
    let same : length c.word.result.now ≡ length c.descend.new.self = ap length c.word.ensures in
    let test : IsTrue (nat_eq (length c.word.result.now) 0) ↔ (length c.word.result.now ≡ 0) = grind (arith, nat_tests) in
    (λ t. found.0 (sym same ∙ test.0 t), λ h. test.1 (same ∙ found.1 h))
