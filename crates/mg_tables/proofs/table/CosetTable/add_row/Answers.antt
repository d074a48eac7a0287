use Rattle.std.proofs.Common.{ap, sym, ◌∙◌, ℕ, ◌≡◌, subst, Some, None, [], ◌∷◌, ◌++◌}
use Rattle.mg_tables.specs.Table.{empty_row}
use Rattle.mg_tables.specs.Gaps.{Places, packed, number, fill_at}
use Rattle.mg_tables.specs.Table.{entry, filled}
use Rattle.std.specs.Prelude.{neg_ℤ}
use Rattle.mg_tables.proofs.Kept.{empty_cell}
use Rattle.mg_tables.proofs.Appending.{longer_empty, longer_empty_end, with_row_from}
use Rattle.mg_tables.proofs.table.CosetTable.add_row.Goals as goal

pub fill-requires-clause-empty : goal.fill-requires-clause-empty
fill-requires-clause-empty c =
    let ps : Places = c.args.self.now.places in
    let m : ℕ = c.args.self.now.generators in
    subst (λ (qs : Places). entry (packed qs) (number qs c.args.from) c.args.letter ≡ None) (sym c.in_ok-push_row.ensures.row)
    (longer_empty m ps c.push_row.ensures.gapped c.args.from c.args.letter c.requires.from (empty_cell ps c.args.from c.args.letter c.requires.from c.requires.empty))

pub fill-requires-clause-back : goal.fill-requires-clause-back
fill-requires-clause-back c =
    let ps : Places = c.args.self.now.places in
    let m : ℕ = c.args.self.now.generators in
    subst (λ (qs : Places). entry (packed qs) (number qs c.places-row.result) (neg_ℤ c.args.letter) ≡ None) (sym c.in_ok-push_row.ensures.row)
    (subst (λ k. entry (packed (ps ++ Some (empty_row m) ∷ [])) (number (ps ++ Some (empty_row m) ∷ []) k) (neg_ℤ c.args.letter) ≡ None) (sym c.places-row.ensures.value)
    (longer_empty_end m ps c.push_row.ensures.gapped (neg_ℤ c.args.letter)))

pub returns-clause-table : goal.returns-clause-table
returns-clause-table c =
    let ps : Places = c.args.self.now.places in
    let m : ℕ = c.args.self.now.generators in
    with_row_from m ps c.push_row.ensures.gapped c.args.from c.args.letter (packed c.fill.new.self.places) c.requires.from
    (c.fill.ensures.table
    ∙ (ap (λ (qs : Places). filled (packed qs) (number qs c.args.from) c.args.letter (number qs c.places-row.result)) c.in_ok-push_row.ensures.row
    ∙ ap (λ k. filled (packed (ps ++ Some (empty_row m) ∷ [])) (number (ps ++ Some (empty_row m) ∷ []) c.args.from) c.args.letter (number (ps ++ Some (empty_row m) ∷ []) k)) c.places-row.ensures.value))

pub returns-clause-places : goal.returns-clause-places
returns-clause-places c =
    c.fill.ensures.places
    ∙ (ap (λ (qs : Places). fill_at qs c.args.from c.args.letter c.places-row.result) c.in_ok-push_row.ensures.row
    ∙ ap (λ k. fill_at (c.args.self.now.places ++ Some (empty_row c.args.self.now.generators) ∷ []) c.args.from c.args.letter k) c.places-row.ensures.value)
