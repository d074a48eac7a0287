use Rattle.std.proofs.Common.{◌≡◌, ◌∙◌, ap, subst, refl, true, false, List, length, arith}
use Rattle.std.specs.Prelude.{slice_get, Some}
use Rattle.std.proofs.lemmas.Option.{slice_get_read}
use Rattle.mg_rules.specs.Rule.{Rule}
use Rattle.mg_rules.proofs.Reading.{scan_found, scan_next, scan_none}
use Rattle.mg_rules.proofs.rewriter.scan.Goals as goal

pub returns-then-ends_with : goal.returns-then-ends_with
returns-then-ends_with c =
    let rules : List Rule = c.args.rules.now in
    let same : c.pairs-pair-items.result.now ≡ rules = c.pairs-pair-items.ensures in
    let there : slice_get rules c.loop-place.place ≡ Some c.pair-item.result = subst (λ (t : List Rule). slice_get t c.loop-place.place ≡ Some c.pair-item.result) same
    (slice_get_read c.pairs-pair-items.result.now (length c.pairs-pair-items.result.now) c.loop-place.place c.pair-item.result refl c.loop-place-test.true c.pair-item.is) in
    scan_found rules c.args.word.now c.loop-place.place c.pair-item.result c.letters.result.now there (c.letters.ensures ∙ ap (λ (r : Rule). r.left) c.pair.view_is)
    (c.ends_with.ensures.0 c.if-ends_with.true) c.loop-place.invariant

pub loop-place-preserved : goal.loop-place-preserved
loop-place-preserved c =
    let rules : List Rule = c.args.rules.now in
    let same : c.pairs-pair-items.result.now ≡ rules = c.pairs-pair-items.ensures in
    let there : slice_get rules c.loop-place.place ≡ Some c.pair-item.result = subst (λ (t : List Rule). slice_get t c.loop-place.place ≡ Some c.pair-item.result) same
    (slice_get_read c.pairs-pair-items.result.now (length c.pairs-pair-items.result.now) c.loop-place.place c.pair-item.result refl c.loop-place-test.true c.pair-item.is) in
    scan_next rules c.args.word.now c.loop-place.place c.pair-item.result c.letters.result.now there (c.letters.ensures ∙ ap (λ (r : Rule). r.left) c.pair.view_is)
    (λ h. let passes : c.ends_with.result ≡ true = c.ends_with.ensures.1 h in let fails : c.ends_with.result ≡ false = c.if-ends_with.false in cc) c.loop-place.invariant

pub returns : goal.returns
returns c =
    let same : length c.pairs-pair-items.result.now ≡ length c.args.rules.now = ap length c.pairs-pair-items.ensures in
    scan_none c.args.rules.now c.args.word.now c.loop-place.place (omega arith) c.loop-place.invariant
