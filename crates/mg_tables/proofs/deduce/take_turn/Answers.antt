use Rattle.std.proofs.Common.{◌≡◌, ◌∙◌, [], refl, subst, arith}
use Rattle.mg_tables.specs.Looking.{IsCovered}
use Rattle.mg_tables.proofs.Looking.{popped_covered, none_left_stable, no_rows_left}
use Rattle.mg_tables.proofs.deduce.take_turn.Goals as goal

pub returns-in-Some-clause-covered : goal.returns-in-Some-clause-covered
returns-in-Some-clause-covered c =
    popped_covered c.args.table.now.generators c.args.table.now.places c.generators-2.ensures.gapped c.args.group.now.relators c.pop.new.self.items c.in-Some.field-0
    (λ s. c.in-None.ensures.last refl c.pop.new.self.items c.in-Some.field-0 (c.deref.ensures.value ∙ c.in-Some.ensures.items) s)
    (subst (IsCovered c.args.group.now.relators c.args.table.now.places) c.in-Some.ensures.items c.requires.covered)

pub returns-in-None-pop-clause-turned : goal.returns-in-None-pop-clause-turned
returns-in-None-pop-clause-turned c =
    let none : c.args.rows.now.items ≡ [] = no_rows_left c.args.rows.now.items (omega (arith, c.in-None-pop.ensures.cases.0, c.args.rows.now.ok.0)) in
    none_left_stable c.args.table.now.generators c.args.table.now.places c.generators-2.ensures.gapped c.args.group.now c.args.subgroup.now
    (subst (IsCovered c.args.group.now.relators c.args.table.now.places) none c.requires.covered)
    (c.in-None.ensures.empty refl (c.deref.ensures.value ∙ none))
