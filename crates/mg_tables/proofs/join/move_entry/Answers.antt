use Rattle.std.proofs.Common.{◌≡◌, ◌*◌, List, Some, None, sym, subst}
use Rattle.mg_tables.specs.Table.{column}
use Rattle.mg_tables.specs.Gaps.{cell_at}
use Rattle.mg_tables.specs.Cells.{places_of}
use Rattle.mg_tables.specs.Collapse.{Moved}
use Rattle.mg_tables.specs.declared.join.Pair.{Pair}
use Rattle.mg_tables.proofs.Leading.{onto_keep, onto_to, taken, to_still_stands, free_moved, free_taken}
use Rattle.mg_tables.proofs.join.move_entry.Goals as goal

pub returns-in-Some-read-clause-moved : goal.returns-in-Some-read-clause-moved
returns-in-Some-read-clause-moved c =
    subst (λ (ps : List Pair). Moved c.args.generators c.args.places c.args.keep c.args.go c.args.entries.now c.args.pairs.now.items c.clear.new.entries ps) (sym c.in_ok-push.ensures.items)
    (onto_keep c.args.generators c.args.places c.args.entries.now c.clear.new.entries c.requires.kept c.args.keep c.args.go c.in-Some.led c.target-to.result c.args.letter c.requires.keep c.requires.go c.requires.lower c.requires.letter c.in-Some.ensures c.clear.ensures c.target-to.ensures.goes c.target-to.ensures.stays c.args.pairs.now.items c.in-Some-read.there c.in-Some-read.ensures)

pub returns-in-Some-read-clause-taken : goal.returns-in-Some-read-clause-taken
returns-in-Some-read-clause-taken c =
    taken c.args.generators c.args.places c.args.entries.now c.clear.new.entries c.requires.kept c.args.keep c.args.go c.in-Some.led c.target-to.result c.args.letter c.requires.keep c.requires.go c.requires.lower c.requires.letter c.in-Some.ensures c.clear.ensures c.target-to.ensures.goes c.target-to.ensures.stays c.args.pairs.now.items

pub read-requires-3-clause-row : goal.read-requires-3-clause-row
read-requires-3-clause-row c =
    to_still_stands c.args.generators c.args.places c.args.entries.now c.clear.new.entries c.requires.kept c.args.keep c.args.go c.in-Some.led c.target-to.result c.args.letter c.requires.keep c.requires.go c.requires.lower c.requires.letter c.in-Some.ensures c.clear.ensures c.target-to.ensures.goes c.target-to.ensures.stays c.args.pairs.now.items

pub returns-in-Some-read-2-clause-moved : goal.returns-in-Some-read-2-clause-moved
returns-in-Some-read-2-clause-moved c =
    subst (λ (ps : List Pair). Moved c.args.generators c.args.places c.args.keep c.args.go c.args.entries.now c.args.pairs.now.items c.clear.new.entries ps) (sym c.in_ok-push-2.ensures.items)
    (onto_to c.args.generators c.args.places c.args.entries.now c.clear.new.entries c.requires.kept c.args.keep c.args.go c.in-Some.led c.target-to.result c.args.letter c.requires.keep c.requires.go c.requires.lower c.requires.letter c.in-Some.ensures c.clear.ensures c.target-to.ensures.goes c.target-to.ensures.stays c.args.pairs.now.items c.in-Some-read-2.there
    (subst (λ x. cell_at (places_of (2 * c.args.generators) c.args.places c.clear.new.entries) c.target-to.result (column x) ≡ Some c.in-Some-read-2.there) c.inverted.ensures c.in-Some-read-2.ensures))

pub returns-in-Some-read-2-clause-taken : goal.returns-in-Some-read-2-clause-taken
returns-in-Some-read-2-clause-taken c =
    taken c.args.generators c.args.places c.args.entries.now c.clear.new.entries c.requires.kept c.args.keep c.args.go c.in-Some.led c.target-to.result c.args.letter c.requires.keep c.requires.go c.requires.lower c.requires.letter c.in-Some.ensures c.clear.ensures c.target-to.ensures.goes c.target-to.ensures.stays c.args.pairs.now.items

pub set_entry-requires-clause-to : goal.set_entry-requires-clause-to
set_entry-requires-clause-to c =
    to_still_stands c.args.generators c.args.places c.args.entries.now c.clear.new.entries c.requires.kept c.args.keep c.args.go c.in-Some.led c.target-to.result c.args.letter c.requires.keep c.requires.go c.requires.lower c.requires.letter c.in-Some.ensures c.clear.ensures c.target-to.ensures.goes c.target-to.ensures.stays c.args.pairs.now.items

pub returns-clause-moved : goal.returns-clause-moved
returns-clause-moved c =
    free_moved c.args.generators c.args.places c.args.entries.now c.clear.new.entries c.requires.kept c.args.keep c.args.go c.in-Some.led c.target-to.result c.args.letter c.requires.keep c.requires.go c.requires.lower c.requires.letter c.in-Some.ensures c.clear.ensures c.target-to.ensures.goes c.target-to.ensures.stays c.args.pairs.now.items c.set_entry.new.entries c.set_entry.ensures c.in_default-read.ensures (subst (λ x. cell_at (places_of (2 * c.args.generators) c.args.places c.clear.new.entries) c.target-to.result (column x) ≡ None) c.inverted.ensures c.in_default-read-2.ensures)

pub returns-clause-taken : goal.returns-clause-taken
returns-clause-taken c =
    free_taken c.args.generators c.args.places c.args.entries.now c.clear.new.entries c.requires.kept c.args.keep c.args.go c.in-Some.led c.target-to.result c.args.letter c.requires.keep c.requires.go c.requires.lower c.requires.letter c.in-Some.ensures c.clear.ensures c.target-to.ensures.goes c.target-to.ensures.stays c.args.pairs.now.items c.set_entry.new.entries c.set_entry.ensures c.in_default-read.ensures (subst (λ x. cell_at (places_of (2 * c.args.generators) c.args.places c.clear.new.entries) c.target-to.result (column x) ≡ None) c.inverted.ensures c.in_default-read-2.ensures)
