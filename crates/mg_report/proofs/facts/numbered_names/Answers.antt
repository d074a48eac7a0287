use Rattle.std.proofs.Common.{◌+◌, ◌∷◌, [], ◌++◌, List, ℕ, sym, ap₂, ◌∙◌, arith}
use Rattle.std.specs.Prelude.{codes}
use Rattle.std.specs.Fmt.{decimal}
use Rattle.std.proofs.lemmas.List.FromFn.{map-range_with_len_more}
use Rattle.mg_report.proofs.facts.numbered_names.Goals as goal

pub loop-place-preserved : goal.loop-place-preserved
loop-place-preserved c =
    let place = c.loop-place.place in
    c.in_ok-push.ensures.ok ∙ ap₂ (λ (names : List (List ℕ)) (name : List ℕ). names ++ name ∷ []) c.loop-place.invariant c.in_ok-numbered_name.ensures
    ∙ sym (map-range_with_len_more (λ n. codes "x" ++ decimal n) 1 place (place + 1) (omega arith))
