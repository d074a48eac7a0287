use Rattle.std.proofs.Common.{◌≡◌, ◌∙◌, ◌↔◌, ◌<◌, [], sym, subst, ap, length, arith, nat_lt, List, ℤ}
use Rattle.std.specs.Prelude.{IsTrue, slice_get, Some}
use Rattle.std.proofs.lemmas.Bool.Decides.{nat_tests}
use Rattle.std.proofs.lemmas.List.{nil_from_length}
use Rattle.std.proofs.lemmas.Option.{get_or_from_slice_get}
use Rattle.mg_present.specs.Presentation.{Group}
use Rattle.mg_rules.specs.Complete.{IsComplete}
use Rattle.mg_rules.proofs.Checks.{refutes_from}
use Rattle.mg_rules.proofs.complete.refutes.Goals as goal

pub returns : goal.returns
returns c =
    let w : List ℤ = c.at.result.now.letters in
    let alone : c.args.ask.now.subgroup ≡ [] = sym c.subgroup.ensures.value ∙ nil_from_length c.subgroup.result.now (omega arith) in
    let there : slice_get c.args.ask.now.goals c.args.goal ≡ Some w = subst (λ (t : List (List ℤ)). slice_get t c.args.goal ≡ Some w) c.goals-2.ensures.value c.at.ensures in
    let within : c.args.goal < length c.args.ask.now.goals = omega (arith, ap length c.goals.ensures.value) in
    let complete : IsComplete c.args.ask.now.group c.args.rules.now = subst (λ (g : Group). IsComplete g c.args.rules.now) c.group.ensures.value (c.in_ok-is_complete_for.ensures.0 c.if-not-branch.false) in
    let found = refutes_from c.args.ask.now c.args.goal c.args.rules.now w c.in_ok-remains.remains.letters alone within (sym (get_or_from_slice_get c.args.ask.now.goals c.args.goal w [] there)) complete c.in_ok-remains.ensures in
    let same : length c.letters.result.now ≡ length c.in_ok-remains.remains.letters = ap length c.letters.ensures in
    let test : IsTrue (nat_lt 0 (length c.letters.result.now)) ↔ (0 < length c.letters.result.now) = grind (arith, nat_tests) in (
      λ t. (let some : 0 < length c.letters.result.now = test.0 t in found.0 (omega arith)),
      λ h. (let some : 0 < length c.in_ok-remains.remains.letters = found.1 h in test.1 (omega arith)),
    )
