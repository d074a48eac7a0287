use Rattle.mg_tables.proofs.Spotting.{complete_entry}
use Rattle.mg_tables.proofs.images.image_of.Goals as goal

pub unreachable-requires : goal.unreachable-requires
unreachable-requires c = complete_entry c.args.table.now.generators c.args.table.now.places c.args.place c.args.letter c.requires.complete c.requires.place c.requires.letter c.in-None.ensures.cell
