use Rattle.std.proofs.Common.{◌*◌, sym}
use Rattle.mg_tables.specs.Cells.{places_of}
use Rattle.mg_tables.proofs.Leading.{stands_same, merge_leads, merge_less, merge_touched}
use Rattle.mg_tables.proofs.join.merge.Goals as goal

pub mark-requires-clause-go : goal.mark-requires-clause-go
mark-requires-clause-go c =
    stands_same (places_of (2 * c.args.generators) c.args.places c.args.entries.now) (places_of (2 * c.args.generators) c.args.places c.move_row.new.entries) (sym c.in_ok-move_row.ensures.moved.gaps_same) c.args.go c.requires.go

pub returns-clause-leads : goal.returns-clause-leads
returns-clause-leads c =
    merge_leads c.args.generators c.args.places c.args.keep c.args.go c.args.entries.now c.move_row.new.entries c.mark.new.entries c.args.pairs.now.items c.move_row.new.pairs.items c.requires.keep c.requires.go c.requires.lower c.in_ok-move_row.ensures.moved c.in_ok-move_row.ensures.bare c.mark.ensures.makes c.mark.ensures.went

pub returns-clause-less : goal.returns-clause-less
returns-clause-less c =
    merge_less c.args.generators c.args.places c.args.keep c.args.go c.args.entries.now c.move_row.new.entries c.mark.new.entries c.args.pairs.now.items c.move_row.new.pairs.items c.requires.go c.in_ok-move_row.ensures.moved c.mark.ensures.makes c.in_ok-move_row.ensures.few

pub returns-clause-touched : goal.returns-clause-touched
returns-clause-touched c =
    merge_touched c.args.generators c.args.places c.args.keep c.args.go c.args.entries.now c.move_row.new.entries c.mark.new.entries c.args.touched.now.items c.push.new.self.items c.args.pairs.now.items c.move_row.new.pairs.items c.requires.go c.in_ok-move_row.ensures.moved c.mark.ensures.makes c.in_ok-push.ensures.items
