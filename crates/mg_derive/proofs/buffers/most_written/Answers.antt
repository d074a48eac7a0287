use Rattle.std.proofs.Common.{ap, ◌∙◌, arith}
use Rattle.mg_derive.proofs.Steps.{longest_written}
use Rattle.mg_derive.proofs.buffers.most_written.Goals as goal

pub returns-clause-most : goal.returns-clause-most
returns-clause-most c =
    longest_written c.args.ask.now c.relators.result.now c.subgroup.result.now c.longest-relator.result c.longest-member.result _
    (c.relators.ensures.value ∙ ap (λ g. g.relators) c.group.ensures.value) c.subgroup.ensures.value c.longest-relator.ensures c.longest-member.ensures
    (omega arith) (omega arith) (omega arith)
