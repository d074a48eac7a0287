use Rattle.std.proofs.Common.{sym}
use Rattle.std.proofs.lemmas.Bool.{false≢true}
use Rattle.mg_tables.proofs.Reaching.{deduced_then}
use Rattle.mg_tables.proofs.deduce.settle.Goals as goal

pub loop-table-preserved : goal.loop-table-preserved
loop-table-preserved c = (
  record {
    deduced = deduced_then c.args.group.now c.args.subgroup.now c.args.table c.deduce.new.table c.in_ok-table.table
        (deduced_then c.args.group.now c.args.subgroup.now c.args.table c.loop-table.table c.deduce.new.table c.loop-table.invariant.0.deduced c.in_ok-pair.ensures.deduced)
        c.in_ok-table.ensures.deduced;
    covered = c.in_ok-table.ensures.covered;
  },
  λ e. absurd (false≢true (sym e)),
)

pub returns-clause-deduced : goal.returns-clause-deduced
returns-clause-deduced c = deduced_then c.args.group.now c.args.subgroup.now c.args.table c.loop-table.table c.deduce.new.table c.loop-table.invariant.0.deduced c.in_ok-pair.ensures.deduced
