use Rattle.std.proofs.Common.{◌≡◌, ◌∙◌, ◌+◌, ◌*◌, ◌<◌, ap, arith, length, set}
use Rattle.std.proofs.lemmas.List.{length-set}
use Rattle.mg_tables.specs.Table.{column}
use Rattle.mg_tables.specs.declared.table.TheConstants.{GONE}
use Rattle.mg_tables.proofs.Filling.{letter_turned}
use Rattle.mg_tables.proofs.Steps.{set_made, small_place, row_inside}
use Rattle.std.specs.Prelude.{neg_ℤ}
use Rattle.mg_tables.proofs.join.set_entry.Goals as goal

pub overflow_add-entries : goal.overflow_add-entries
overflow_add-entries c =
    let small : c.args.to + 1 < GONE = small_place c.args.generators c.args.places c.args.entries.now c.requires.kept c.args.to c.requires.to in
    omega (arith, small)

pub overflow_add-entries-2 : goal.overflow_add-entries-2
overflow_add-entries-2 c =
    let small : c.args.from + 1 < GONE = small_place c.args.generators c.args.places c.args.entries.now c.requires.kept c.args.from c.requires.from in
    omega (arith, small)

pub bounds-entries-there : goal.bounds-entries-there
bounds-entries-there c =
    row_inside c.args.generators c.args.places c.args.entries.now c.requires.kept c.args.from c.args.letter c.index-there.result c.column_of.result c.requires.from c.requires.letter c.column_of.ensures.column c.index-there.ensures

pub bounds-entries-back : goal.bounds-entries-back
bounds-entries-back c =
    let long : length (set c.args.entries.now c.index-there.result (c.args.to + 1)) ≡ length c.args.entries.now = length-set c.args.entries.now c.index-there.result (c.args.to + 1) in
    let there = row_inside c.args.generators c.args.places c.args.entries.now c.requires.kept c.args.to (neg_ℤ c.args.letter) c.index-back.result c.column_of-2.result c.requires.to (letter_turned c.args.generators c.args.letter c.requires.letter)
    (c.column_of-2.ensures.column ∙ ap column c.inverted.ensures) c.index-back.ensures in
    omega (arith, long, there)

pub returns : goal.returns
returns c =
    set_made c.args.generators c.args.places c.args.entries.now c.requires.kept c.args.from c.args.letter c.args.to c.index-there.result c.index-back.result c.requires.from c.requires.to c.requires.letter c.requires.empty c.requires.back
    (c.index-there.ensures ∙ ap (λ k. c.args.from * (2 * c.args.generators) + k) c.column_of.ensures.column)
    (c.index-back.ensures ∙ ap (λ k. c.args.to * (2 * c.args.generators) + k) (c.column_of-2.ensures.column ∙ ap column c.inverted.ensures))
