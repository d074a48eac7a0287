use Rattle.std.proofs.Common.{ap, sym, ◌∙◌, arith, ℕ, ◌≡◌, ◌*◌, subst, List, ◌++◌, take, replicate}
use Rattle.std.proofs.lemmas.List.{take-replicate}
use Rattle.mg_tables.specs.Gaps.{packed}
use Rattle.mg_tables.specs.Cells.{places_of, IsKept}
use Rattle.mg_tables.proofs.Kept.{first_kept, first_seen, first_packed}
use Rattle.mg_tables.proofs.table.CosetTable.new.Goals as goal

pub invariant_of-result : goal.invariant_of-result
invariant_of-result c =
    let m : ℕ = c.args.generators in
    let zeros : take (2 * m) (replicate 128 0) ≡ replicate (2 * m) 0 = take-replicate (2 * m) 128 0 (omega (arith, c.requires.few)) in
    let items : c.extend_from_slice.new.self.items ≡ replicate (2 * m) 0 = c.in_ok-extend_from_slice.ensures.items ∙ (ap (λ (ys : List ℕ). ys ++ take (2 * m) (replicate 128 0)) c.new-entries.ensures.items ∙ zeros) in
    subst (IsKept m 1) (sym items) (first_kept m c.requires.some c.requires.few)

pub returns-clause-table : goal.returns-clause-table
returns-clause-table c =
    let m : ℕ = c.args.generators in
    let zeros : take (2 * m) (replicate 128 0) ≡ replicate (2 * m) 0 = take-replicate (2 * m) 128 0 (omega (arith, c.requires.few)) in
    let items : c.extend_from_slice.new.self.items ≡ replicate (2 * m) 0 = c.in_ok-extend_from_slice.ensures.items ∙ (ap (λ (ys : List ℕ). ys ++ take (2 * m) (replicate 128 0)) c.new-entries.ensures.items ∙ zeros) in
    ap (λ (xs : List ℕ). packed (places_of (2 * m) 1 xs)) items ∙ (ap packed (first_seen m) ∙ first_packed m)
