use Rattle.std.proofs.Common.{◌∙◌, ◌∷◌, ◌++◌, [], List, ℕ, refl, sym, subst, ap, arith, length}
use Rattle.std.proofs.lemmas.List.{length-append}
use Rattle.mg_tables.specs.Looking.{IsCovered}
use Rattle.mg_tables.proofs.Reaching.{entry_deduced, entry_less, filled_length}
use Rattle.mg_tables.specs.Gaps.{packed, number}
use Rattle.mg_tables.proofs.deduce.set_found.Goals as goal

pub returns-in_err-push-clause-deduced : goal.returns-in_err-push-clause-deduced
returns-in_err-push-clause-deduced c = (entry_deduced c.args.group.now c.args.subgroup.now c.generators.ensures.fits c.args.table.now c.fill.new.self c.args.rows.now.items (c.args.rows.now.items ++ c.args.entry.from ∷ []) c.args.entry c.generators-2.ensures.gapped c.generators-3.ensures.gapped c.requires.generators c.fill.ensures.generators c.requires.found c.fill.ensures.table c.fill.ensures.places c.requires.covered refl).0

pub returns-clause-deduced : goal.returns-clause-deduced
returns-clause-deduced c = (entry_deduced c.args.group.now c.args.subgroup.now c.generators.ensures.fits c.args.table.now c.fill.new.self c.args.rows.now.items (c.args.rows.now.items ++ c.args.entry.from ∷ []) c.args.entry c.generators-2.ensures.gapped c.generators-3.ensures.gapped c.requires.generators c.fill.ensures.generators c.requires.found c.fill.ensures.table c.fill.ensures.places c.requires.covered refl).0

pub returns-clause-covered : goal.returns-clause-covered
returns-clause-covered c =
    subst (IsCovered c.args.group.now.relators c.fill.new.self.places) (sym c.in_ok-push.ensures.items)
    (entry_deduced c.args.group.now c.args.subgroup.now c.generators.ensures.fits c.args.table.now c.fill.new.self c.args.rows.now.items (c.args.rows.now.items ++ c.args.entry.from ∷ []) c.args.entry c.generators-2.ensures.gapped c.generators-3.ensures.gapped c.requires.generators c.fill.ensures.generators c.requires.found c.fill.ensures.table c.fill.ensures.places c.requires.covered refl).1

pub returns-clause-less : goal.returns-clause-less
returns-clause-less c =
    let counted = length-append c.args.rows.now.items (c.args.entry.from ∷ []) in
    let long = ap (λ (xs : List ℕ). length xs) c.in_ok-push.ensures.items in
    omega (arith, counted, long, entry_less c.args.group.now c.args.subgroup.now c.args.table.now c.fill.new.self c.args.entry c.generators-2.ensures.gapped c.requires.generators c.requires.found c.fill.ensures.table)

pub returns-in_err-push-clause-same : goal.returns-in_err-push-clause-same
returns-in_err-push-clause-same c = ap length c.fill.ensures.table ∙ filled_length (packed c.args.table.now.places) (number c.args.table.now.places c.args.entry.from) c.args.entry.letter (number c.args.table.now.places c.args.entry.to)

pub returns-clause-same : goal.returns-clause-same
returns-clause-same c = ap length c.fill.ensures.table ∙ filled_length (packed c.args.table.now.places) (number c.args.table.now.places c.args.entry.from) c.args.entry.letter (number c.args.table.now.places c.args.entry.to)
