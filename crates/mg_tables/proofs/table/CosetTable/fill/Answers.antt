use Rattle.std.proofs.Common.{◌∙◌, ◌+◌, ◌*◌, ap, arith}
use Rattle.mg_tables.specs.Table.{column}
use Rattle.mg_tables.proofs.Kept.{fill_makes}
use Rattle.mg_tables.proofs.table.CosetTable.fill.Goals as goal

pub overflow_add-to : goal.overflow_add-to
overflow_add-to c =
    let made = fill_makes c.self.inside.generators c.self.inside.places c.args.from c.args.letter c.args.to c.index-there.result c.index-back.result c.self.inside.entries.items c.args.self.now c.self.view_is c.self.invariant c.requires.from c.requires.to c.requires.letter c.requires.empty c.requires.back
    (c.index-there.ensures ∙ ap (λ k. c.args.from * (2 * c.self.inside.generators) + k) c.column_of.ensures.column)
    (c.index-back.ensures ∙ ap (λ k. c.args.to * (2 * c.self.inside.generators) + k) (c.column_of-2.ensures.column ∙ ap column c.inverted.ensures)) in
    omega (arith, made.to_small)

pub index_mut-requires : goal.index_mut-requires
index_mut-requires c =
    let made = fill_makes c.self.inside.generators c.self.inside.places c.args.from c.args.letter c.args.to c.index-there.result c.index-back.result c.self.inside.entries.items c.args.self.now c.self.view_is c.self.invariant c.requires.from c.requires.to c.requires.letter c.requires.empty c.requires.back
    (c.index-there.ensures ∙ ap (λ k. c.args.from * (2 * c.self.inside.generators) + k) c.column_of.ensures.column)
    (c.index-back.ensures ∙ ap (λ k. c.args.to * (2 * c.self.inside.generators) + k) (c.column_of-2.ensures.column ∙ ap column c.inverted.ensures)) in
    omega (arith, made.there, c.self.inside.entries.ok.0)

pub overflow_add-from : goal.overflow_add-from
overflow_add-from c =
    let made = fill_makes c.self.inside.generators c.self.inside.places c.args.from c.args.letter c.args.to c.index-there.result c.index-back.result c.self.inside.entries.items c.args.self.now c.self.view_is c.self.invariant c.requires.from c.requires.to c.requires.letter c.requires.empty c.requires.back
    (c.index-there.ensures ∙ ap (λ k. c.args.from * (2 * c.self.inside.generators) + k) c.column_of.ensures.column)
    (c.index-back.ensures ∙ ap (λ k. c.args.to * (2 * c.self.inside.generators) + k) (c.column_of-2.ensures.column ∙ ap column c.inverted.ensures)) in
    omega (arith, made.from_small)

pub index_mut-requires-2 : goal.index_mut-requires-2
index_mut-requires-2 c =
    let made = fill_makes c.self.inside.generators c.self.inside.places c.args.from c.args.letter c.args.to c.index-there.result c.index-back.result c.self.inside.entries.items c.args.self.now c.self.view_is c.self.invariant c.requires.from c.requires.to c.requires.letter c.requires.empty c.requires.back
    (c.index-there.ensures ∙ ap (λ k. c.args.from * (2 * c.self.inside.generators) + k) c.column_of.ensures.column)
    (c.index-back.ensures ∙ ap (λ k. c.args.to * (2 * c.self.inside.generators) + k) (c.column_of-2.ensures.column ∙ ap column c.inverted.ensures)) in
    omega (arith, made.back, c.self.inside.entries.ok.0)

pub invariant_of-self : goal.invariant_of-self
invariant_of-self c =
    let made = fill_makes c.self.inside.generators c.self.inside.places c.args.from c.args.letter c.args.to c.index-there.result c.index-back.result c.self.inside.entries.items c.args.self.now c.self.view_is c.self.invariant c.requires.from c.requires.to c.requires.letter c.requires.empty c.requires.back
    (c.index-there.ensures ∙ ap (λ k. c.args.from * (2 * c.self.inside.generators) + k) c.column_of.ensures.column)
    (c.index-back.ensures ∙ ap (λ k. c.args.to * (2 * c.self.inside.generators) + k) (c.column_of-2.ensures.column ∙ ap column c.inverted.ensures)) in
    made.kept

pub returns-clause-table : goal.returns-clause-table
returns-clause-table c =
    let made = fill_makes c.self.inside.generators c.self.inside.places c.args.from c.args.letter c.args.to c.index-there.result c.index-back.result c.self.inside.entries.items c.args.self.now c.self.view_is c.self.invariant c.requires.from c.requires.to c.requires.letter c.requires.empty c.requires.back
    (c.index-there.ensures ∙ ap (λ k. c.args.from * (2 * c.self.inside.generators) + k) c.column_of.ensures.column)
    (c.index-back.ensures ∙ ap (λ k. c.args.to * (2 * c.self.inside.generators) + k) (c.column_of-2.ensures.column ∙ ap column c.inverted.ensures)) in
    made.table

pub returns-clause-gaps : goal.returns-clause-gaps
returns-clause-gaps c =
    let made = fill_makes c.self.inside.generators c.self.inside.places c.args.from c.args.letter c.args.to c.index-there.result c.index-back.result c.self.inside.entries.items c.args.self.now c.self.view_is c.self.invariant c.requires.from c.requires.to c.requires.letter c.requires.empty c.requires.back
    (c.index-there.ensures ∙ ap (λ k. c.args.from * (2 * c.self.inside.generators) + k) c.column_of.ensures.column)
    (c.index-back.ensures ∙ ap (λ k. c.args.to * (2 * c.self.inside.generators) + k) (c.column_of-2.ensures.column ∙ ap column c.inverted.ensures)) in
    made.gaps_same

pub returns-clause-places : goal.returns-clause-places
returns-clause-places c =
    let made = fill_makes c.self.inside.generators c.self.inside.places c.args.from c.args.letter c.args.to c.index-there.result c.index-back.result c.self.inside.entries.items c.args.self.now c.self.view_is c.self.invariant c.requires.from c.requires.to c.requires.letter c.requires.empty c.requires.back
    (c.index-there.ensures ∙ ap (λ k. c.args.from * (2 * c.self.inside.generators) + k) c.column_of.ensures.column)
    (c.index-back.ensures ∙ ap (λ k. c.args.to * (2 * c.self.inside.generators) + k) (c.column_of-2.ensures.column ∙ ap column c.inverted.ensures)) in
    made.seen_as
