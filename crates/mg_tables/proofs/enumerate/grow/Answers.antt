use Rattle.std.proofs.Common.{◌∙◌, ◌∷◌, ◌++◌, [], List, ℕ, length, refl, sym, subst, ap, arith}
use Rattle.mg_tables.specs.Looking.{IsCovered}
use Rattle.mg_tables.proofs.Spotting.{grow_made, number_all, number_most}
use Rattle.mg_tables.proofs.enumerate.grow.Goals as goal

pub finish-requires-clause-covered : goal.finish-requires-clause-covered
finish-requires-clause-covered c =
    subst (IsCovered c.args.group.relators c.add_row.new.self.places)
    (sym (c.in_ok-push-2.ensures.items ∙ ap (λ (xs : List ℕ). xs ++ c.args.spot.row ∷ []) (c.in_ok-push.ensures.items ∙ ap (λ (xs : List ℕ). xs ++ c.in_ok-row.row ∷ []) c.new-list.ensures.items)))
    (grow_made c.args.group c.args.subgroup c.generators.ensures.fits c.args.units c.args.table c.add_row.new.self c.args.spot c.in_ok-row.row c.requires.generators c.add_row.ensures.generators c.generators-2.ensures.gapped c.generators-3.ensures.gapped c.requires.enumerated c.requires.spot c.in_ok-row.ensures.places c.in_ok-row.ensures.table c.in_ok-row.ensures.place).covered

pub finish-requires-clause-reached : goal.finish-requires-clause-reached
finish-requires-clause-reached c = (grow_made c.args.group c.args.subgroup c.generators.ensures.fits c.args.units c.args.table c.add_row.new.self c.args.spot c.in_ok-row.row c.requires.generators c.add_row.ensures.generators c.generators-2.ensures.gapped c.generators-3.ensures.gapped c.requires.enumerated c.requires.spot c.in_ok-row.ensures.places c.in_ok-row.ensures.table c.in_ok-row.ensures.place).reached

pub finish-requires-clause-full : goal.finish-requires-clause-full
finish-requires-clause-full c = (grow_made c.args.group c.args.subgroup c.generators.ensures.fits c.args.units c.args.table c.add_row.new.self c.args.spot c.in_ok-row.row c.requires.generators c.add_row.ensures.generators c.generators-2.ensures.gapped c.generators-3.ensures.gapped c.requires.enumerated c.requires.spot c.in_ok-row.ensures.places c.in_ok-row.ensures.table c.in_ok-row.ensures.place).full

pub overflow_add-rows : goal.overflow_add-rows
overflow_add-rows c =
    omega (arith, c.requires.rows, number_all c.args.table.places (length c.args.table.places) refl, number_most c.args.table.places (length c.args.table.places), c.places.ensures.value, c.if-places-ge-MOST_PLACES.false)
