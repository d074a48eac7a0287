use Rattle.std.proofs.Common.{◌≡◌, ◌↔◌, ◌<◌, subst, ap, length, arith, nat_lt, List, ℤ}
use Rattle.std.specs.Prelude.{IsTrue, slice_get, Some}
use Rattle.std.proofs.lemmas.Bool.Decides.{nat_tests}
use Rattle.mg_certs.proofs.Normals.{refuted_by_letters}
use Rattle.mg_certs.proofs.descending.leaves_letters.Goals as goal

pub returns : goal.returns
returns c =
    let w : List ℤ = c.at.result.now.letters in
    let there : slice_get c.args.ask.now.goals c.args.goal ≡ Some w = subst (λ (t : List (List ℤ)). slice_get t c.args.goal ≡ Some w) c.goals.ensures.value c.at.ensures in
    let found = refuted_by_letters c.args.ask.now c.args.goal c.args.rules.now w c.in_ok-remains.remains.letters c.requires.alone c.requires.there there c.requires.of_group c.in_ok-remains.ensures in
    let same : length c.letters.result.now ≡ length c.in_ok-remains.remains.letters = ap length c.letters.ensures in
    let test : IsTrue (nat_lt 0 (length c.letters.result.now)) ↔ (0 < length c.letters.result.now) = grind (arith, nat_tests) in (
      λ t. (let some : 0 < length c.letters.result.now = test.0 t in found.0 (omega arith)),
      λ h. (let some : 0 < length c.in_ok-remains.remains.letters = found.1 h in test.1 (omega arith)),
    )
