use Rattle.std.proofs.Common.{◌≡◌, ◌∙◌, ◌+◌, ◌*◌, ap, arith, length, set}
use Rattle.std.proofs.lemmas.List.{length-set}
use Rattle.mg_tables.specs.Table.{column}
use Rattle.mg_tables.proofs.Steps.{clear_made, clear_there, clear_back}
use Rattle.mg_tables.proofs.join.clear.Goals as goal

pub bounds-entries-there : goal.bounds-entries-there
bounds-entries-there c =
    let there = c.index-there.ensures ∙ ap (λ k. c.args.from * (2 * c.args.generators) + k) c.column_of.ensures.column in
    omega (arith, there, clear_there c.args.generators c.args.places c.args.entries.now c.requires.kept c.args.from c.args.letter c.args.to c.requires.from c.requires.letter c.requires.leads)

pub bounds-entries-back : goal.bounds-entries-back
bounds-entries-back c =
    let back = c.index-back.ensures ∙ ap (λ k. c.args.to * (2 * c.args.generators) + k) (c.column_of-2.ensures.column ∙ ap column c.inverted.ensures) in
    let long : length (set c.args.entries.now c.index-there.result 0) ≡ length c.args.entries.now = length-set c.args.entries.now c.index-there.result 0 in
    omega (arith, back, long, clear_back c.args.generators c.args.places c.args.entries.now c.requires.kept c.args.from c.args.letter c.args.to c.requires.from c.requires.letter c.requires.leads)

pub returns : goal.returns
returns c =
    clear_made c.args.generators c.args.places c.args.entries.now c.requires.kept c.args.from c.args.letter c.args.to c.index-there.result c.index-back.result c.requires.from c.requires.letter c.requires.leads
    (c.index-there.ensures ∙ ap (λ k. c.args.from * (2 * c.args.generators) + k) c.column_of.ensures.column)
    (c.index-back.ensures ∙ ap (λ k. c.args.to * (2 * c.args.generators) + k) (c.column_of-2.ensures.column ∙ ap column c.inverted.ensures))
