use Rattle.std.proofs.Common.{◌∷◌, subst, List, arith}
use Rattle.mg_tables.specs.Collapse.{LeadsOn}
use Rattle.mg_tables.specs.declared.join.Pair.{Pair}
use Rattle.mg_tables.proofs.Leading.{leads_then, popped_leads, some_led, none_left, touched_then}
use Rattle.mg_tables.proofs.join.collapse.Goals as goal

pub join_pair-requires : goal.join_pair-requires
join_pair-requires c =
    some_led c.args.generators c.args.places c.args.entries.now c.loop-pair.entries c.args.pairs.now.items (c.in-Some.pair ∷ c.pop.new.self.items)
    (leads_then c.args.generators c.args.places c.args.entries.now c.loop-pair.entries c.loop-pair.entries c.args.pairs.now.items c.loop-pair.pairs.items (c.in-Some.pair ∷ c.pop.new.self.items) c.loop-pair.invariant.0
    (popped_leads c.args.generators c.args.places c.loop-pair.entries c.in-Some.pair c.loop-pair.pairs.items c.pop.new.self.items c.in-Some.ensures.items))
    c.requires

pub loop-pair-preserved : goal.loop-pair-preserved
loop-pair-preserved c = (
  leads_then c.args.generators c.args.places c.args.entries.now c.loop-pair.entries c.join_pair.new.entries c.args.pairs.now.items (c.in-Some.pair ∷ c.pop.new.self.items) c.join_pair.new.pairs.items
      (leads_then c.args.generators c.args.places c.args.entries.now c.loop-pair.entries c.loop-pair.entries c.args.pairs.now.items c.loop-pair.pairs.items (c.in-Some.pair ∷ c.pop.new.self.items) c.loop-pair.invariant.0
      (popped_leads c.args.generators c.args.places c.loop-pair.entries c.in-Some.pair c.loop-pair.pairs.items c.pop.new.self.items c.in-Some.ensures.items))
      c.in_ok-join_pair.ensures.leads,
  touched_then c.args.generators c.args.places c.args.entries.now c.loop-pair.entries c.join_pair.new.entries c.args.touched.now.items c.loop-pair.touched.items c.join_pair.new.touched.items c.loop-pair.invariant.1 c.in_ok-join_pair.ensures.touched,
)

pub returns-clause-leads : goal.returns-clause-leads
returns-clause-leads c =
    subst (λ (ps : List Pair). LeadsOn c.args.generators c.args.places c.args.entries.now c.args.pairs.now.items c.loop-pair.entries ps)
    (none_left c.loop-pair.pairs.items (omega (arith, c.loop-pair.pairs.ok.0, c.in_default.ensures.cases.0))) c.loop-pair.invariant.0
