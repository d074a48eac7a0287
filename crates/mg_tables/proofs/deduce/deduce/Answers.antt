use Rattle.std.proofs.Common.{◌∙◌}
use Rattle.mg_tables.proofs.Reaching.{deduced_then}
use Rattle.mg_tables.proofs.deduce.deduce.Goals as goal

pub returns-in_err-take_turn-clause-deduced : goal.returns-in_err-take_turn-clause-deduced
returns-in_err-take_turn-clause-deduced c = deduced_then c.args.group.now c.args.subgroup.now c.args.table.now c.loop-pair.table c.take_turn.new.table c.loop-pair.invariant.0.deduced c.take_turn.ensures.deduced

pub loop-pair-preserved : goal.loop-pair-preserved
loop-pair-preserved c = (
  record {
    deduced = deduced_then c.args.group.now c.args.subgroup.now c.args.table.now c.loop-pair.table c.take_turn.new.table c.loop-pair.invariant.0.deduced c.take_turn.ensures.deduced;
    covered = c.in_ok-take_turn.ensures.covered;
  },
  c.take_turn.ensures.same ∙ c.loop-pair.invariant.1,
)

pub returns-in-Join-clause-deduced : goal.returns-in-Join-clause-deduced
returns-in-Join-clause-deduced c = deduced_then c.args.group.now c.args.subgroup.now c.args.table.now c.loop-pair.table c.take_turn.new.table c.loop-pair.invariant.0.deduced c.take_turn.ensures.deduced

pub returns-in-Done-clause-deduced : goal.returns-in-Done-clause-deduced
returns-in-Done-clause-deduced c = deduced_then c.args.group.now c.args.subgroup.now c.args.table.now c.loop-pair.table c.take_turn.new.table c.loop-pair.invariant.0.deduced c.take_turn.ensures.deduced
