use Rattle.std.proofs.Common.{sym, subst}
use Rattle.mg_cyclic.specs.Kept.{Keep}
use Rattle.mg_cyclic.proofs.Stretches.{none_where_relator_breaks, none_where_member_breaks}
use Rattle.mg_cyclic.proofs.walk.Walk.is_broken.Goals as goal

pub returns-then-breaks : goal.returns-then-breaks
returns-then-breaks c = λ ask place _. none_where_relator_breaks ask c.args.self.now place (c.breaks.ensures ask.group.relators c.args.self.now.map (subst (λ rows. Keep ask.group.relators c.args.self.now.map rows) (sym c.as_slice.ensures.value) place.relators) c.if-breaks.true)

pub returns-else-breaks : goal.returns-else-breaks
returns-else-breaks c = λ ask place broken. none_where_member_breaks ask c.args.self.now place (c.breaks-else-breaks.ensures ask.subgroup c.args.self.now.map (subst (λ rows. Keep ask.subgroup c.args.self.now.map rows) (sym c.as_slice-else-breaks.ensures.value) place.members) broken)
