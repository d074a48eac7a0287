use Rattle.std.proofs.Common.{ap, sym, ◌∙◌, length, arith, ℕ, ◌≡◌, ◌+◌, ◌*◌, subst, Some, List, [], ◌∷◌, ◌++◌, take, replicate}
use Rattle.std.proofs.lemmas.List.{take-replicate}
use Rattle.mg_tables.specs.Table.{empty_row}
use Rattle.mg_tables.specs.Gaps.{Gapped}
use Rattle.mg_tables.specs.Cells.{places_of, IsKept}
use Rattle.mg_tables.proofs.Cells.{places_length}
use Rattle.mg_tables.proofs.Kept.{longer_kept, longer_seen}
use Rattle.mg_tables.proofs.table.CosetTable.push_row.Goals as goal

pub invariant_of-self-2 : goal.invariant_of-self-2
invariant_of-self-2 c =
    let m : ℕ = c.self.inside.generators in
    let zeros : take (2 * m) (replicate 128 0) ≡ replicate (2 * m) 0 = take-replicate (2 * m) 128 0 (omega (arith, c.self.invariant.few)) in
    let items : c.extend_from_slice.new.self.items ≡ c.self.inside.entries.items ++ replicate (2 * m) 0 = c.in_ok-extend_from_slice.ensures.items ∙ ap (λ (ys : List ℕ). c.self.inside.entries.items ++ ys) zeros in
    let count : length c.args.self.now.places ≡ c.self.inside.places =
    ap (λ (v : Gapped). length v.places) (sym c.self.view_is) ∙ places_length (2 * m) c.self.inside.places c.self.inside.entries.items in
    subst (IsKept m (c.self.inside.places + 1)) (sym items) (longer_kept m c.self.inside.places c.self.inside.entries.items c.self.invariant (omega (arith, count, c.requires)))

pub returns-clause-row : goal.returns-clause-row
returns-clause-row c =
    let m : ℕ = c.self.inside.generators in
    let zeros : take (2 * m) (replicate 128 0) ≡ replicate (2 * m) 0 = take-replicate (2 * m) 128 0 (omega (arith, c.self.invariant.few)) in
    let items : c.extend_from_slice.new.self.items ≡ c.self.inside.entries.items ++ replicate (2 * m) 0 = c.in_ok-extend_from_slice.ensures.items ∙ ap (λ (ys : List ℕ). c.self.inside.entries.items ++ ys) zeros in
    ap (places_of (2 * m) (c.self.inside.places + 1)) items
    ∙ (longer_seen m c.self.inside.places c.self.inside.entries.items c.self.invariant.size
    ∙ ap (λ (v : Gapped). v.places ++ Some (empty_row v.generators) ∷ []) c.self.view_is)
