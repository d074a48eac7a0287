use Rattle.mg_tables.proofs.Reaching.{rows_deduced}
use Rattle.mg_tables.proofs.deduce.join_found.Goals as goal

pub returns-clause-deduced : goal.returns-clause-deduced
returns-clause-deduced c =
    (rows_deduced c.args.group.now c.args.subgroup.now c.generators.ensures.fits c.args.table c.in_ok-joined.joined c.args.rows.now.items c.join.new.touched.items c.args.pair.left c.args.pair.right c.requires.generators c.in_ok-joined.ensures.generators c.generators-2.ensures.gapped c.requires.found c.in_ok-joined.ensures.table c.in_ok-joined.ensures.changes c.in_ok-joined.ensures.more c.in_ok-joined.ensures.stood c.in_ok-joined.ensures.fewer c.requires.covered).0

pub returns-clause-covered : goal.returns-clause-covered
returns-clause-covered c =
    (rows_deduced c.args.group.now c.args.subgroup.now c.generators.ensures.fits c.args.table c.in_ok-joined.joined c.args.rows.now.items c.join.new.touched.items c.args.pair.left c.args.pair.right c.requires.generators c.in_ok-joined.ensures.generators c.generators-2.ensures.gapped c.requires.found c.in_ok-joined.ensures.table c.in_ok-joined.ensures.changes c.in_ok-joined.ensures.more c.in_ok-joined.ensures.stood c.in_ok-joined.ensures.fewer c.requires.covered).1
