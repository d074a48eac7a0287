use Rattle.std.proofs.Common.{arith}
use Rattle.mg_tables.proofs.Leading.{row_next, row_stands, row_bare}
use Rattle.mg_tables.proofs.join.move_row.Goals as goal

pub move_entry-requires-clause-keep : goal.move_entry-requires-clause-keep
move_entry-requires-clause-keep c =
    row_stands c.args.generators c.args.places c.args.keep c.args.go c.loop-place.place c.args.entries.now c.loop-place.entries c.args.pairs.now.items c.loop-place.pairs.items c.loop-place.invariant c.args.keep c.requires.keep

pub move_entry-requires-clause-go : goal.move_entry-requires-clause-go
move_entry-requires-clause-go c =
    row_stands c.args.generators c.args.places c.args.keep c.args.go c.loop-place.place c.args.entries.now c.loop-place.entries c.args.pairs.now.items c.loop-place.pairs.items c.loop-place.invariant c.args.go c.requires.go

pub loop-place-preserved : goal.loop-place-preserved
loop-place-preserved c =
    row_next c.args.generators c.args.places c.args.keep c.args.go c.loop-place.place c.letter_at.result c.args.entries.now c.loop-place.entries c.move_entry.new.entries c.args.pairs.now.items c.loop-place.pairs.items c.move_entry.new.pairs.items
    c.loop-place.invariant c.in_ok-move_entry.ensures.moved c.letter_at.ensures.column c.in_ok-move_entry.ensures.taken c.in_ok-move_entry.ensures.few

pub returns-clause-bare : goal.returns-clause-bare
returns-clause-bare c =
    row_bare c.args.generators c.args.places c.args.keep c.args.go c.loop-place.place c.args.entries.now c.loop-place.entries c.args.pairs.now.items c.loop-place.pairs.items c.loop-place.invariant (omega (arith, c.loop-place-test.false)) c.requires.go
