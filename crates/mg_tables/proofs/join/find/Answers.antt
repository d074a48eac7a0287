use Rattle.std.proofs.Common.{get_or, arith}
use Rattle.mg_tables.proofs.Finding.{find_inside, find_lower, find_next, read_again}
use Rattle.mg_tables.proofs.join.find.Goals as goal

pub returns-then-number-lt-GONE-clause-stands : goal.returns-then-number-lt-GONE-clause-stands
returns-then-number-lt-GONE-clause-stands c =
    (find_inside c.args.generators c.args.places c.index.result c.args.entries.now c.args.place c.loop-generators.row (get_or c.args.entries.now c.index.result 0) c.loop-generators.invariant c.index.ensures (read_again c.args.entries.now c.index.result)).1.0 c.if-number-lt-GONE.true

pub loop-generators-smaller : goal.loop-generators-smaller
loop-generators-smaller c =
    find_lower c.args.generators c.args.places c.index.result c.args.entries.now c.args.place c.loop-generators.row (get_or c.args.entries.now c.index.result 0) c.loop-generators.invariant c.index.ensures (read_again c.args.entries.now c.index.result) (omega (arith, c.if-number-lt-GONE.false)) c.requires

pub loop-generators-preserved : goal.loop-generators-preserved
loop-generators-preserved c =
    find_next c.args.generators c.args.places c.index.result c.args.entries.now c.args.place c.loop-generators.row (get_or c.args.entries.now c.index.result 0) c.loop-generators.invariant c.index.ensures (read_again c.args.entries.now c.index.result) (omega (arith, c.if-number-lt-GONE.false)) c.requires
