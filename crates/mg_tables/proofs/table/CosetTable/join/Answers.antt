use Rattle.std.proofs.Common.{◌∙◌, ◌++◌, ◌∷◌, ℕ, List, [], length, drop, sym, ap, subst, arith}
use Rattle.mg_tables.specs.Collapse.{SomeCollapse}
use Rattle.mg_tables.specs.declared.join.Pair.{Pair}
use Rattle.mg_tables.proofs.Leading.{pair, some_first, join_makes}
use Rattle.mg_tables.proofs.table.CosetTable.join.Goals as goal

pub collapse-requires : goal.collapse-requires
collapse-requires c =
    subst (λ (xs : List ℕ). SomeCollapse c.table.inside.generators c.table.inside.places c.push.new.self.items xs) (sym c.deref_mut.ensures.value)
    (subst (λ (ps : List Pair). SomeCollapse c.table.inside.generators c.table.inside.places ps c.table.inside.entries.items)
    (sym (c.in_ok-push.ensures.items ∙ ap (λ (ps : List Pair). ps ++ pair c.args.first c.args.second ∷ []) c.new-pairs.ensures.items))
    (some_first c.table.inside.generators c.table.inside.places c.args.first c.args.second c.table.inside.entries.items c.args.self c.table.view_is c.table.invariant c.requires.first c.requires.second))

pub invariant_of-table : goal.invariant_of-table
invariant_of-table c =
    (join_makes c.table.inside.generators c.table.inside.places c.args.first c.args.second c.table.inside.entries.len c.table.inside.entries.items c.deref_mut.result.now c.collapse.new.entries (drop (length c.collapse.new.entries) c.table.inside.entries.items) c.args.touched.now.items c.collapse.new.touched.items c.new-pairs.result.items c.push.new.self.items c.args.self c.table.view_is c.table.invariant c.requires.first c.requires.second c.deref_mut.ensures.value c.new-pairs.ensures.items c.in_ok-push.ensures.items c.in_ok-collapse.ensures.leads c.in_ok-collapse.ensures.touched (omega (arith, c.collapse.auto.entries, c.deref_mut.ensures.len))).kept

pub returns-clause-table : goal.returns-clause-table
returns-clause-table c =
    (join_makes c.table.inside.generators c.table.inside.places c.args.first c.args.second c.table.inside.entries.len c.table.inside.entries.items c.deref_mut.result.now c.collapse.new.entries (drop (length c.collapse.new.entries) c.table.inside.entries.items) c.args.touched.now.items c.collapse.new.touched.items c.new-pairs.result.items c.push.new.self.items c.args.self c.table.view_is c.table.invariant c.requires.first c.requires.second c.deref_mut.ensures.value c.new-pairs.ensures.items c.in_ok-push.ensures.items c.in_ok-collapse.ensures.leads c.in_ok-collapse.ensures.touched (omega (arith, c.collapse.auto.entries, c.deref_mut.ensures.len))).joined

pub returns-clause-places : goal.returns-clause-places
returns-clause-places c =
    (join_makes c.table.inside.generators c.table.inside.places c.args.first c.args.second c.table.inside.entries.len c.table.inside.entries.items c.deref_mut.result.now c.collapse.new.entries (drop (length c.collapse.new.entries) c.table.inside.entries.items) c.args.touched.now.items c.collapse.new.touched.items c.new-pairs.result.items c.push.new.self.items c.args.self c.table.view_is c.table.invariant c.requires.first c.requires.second c.deref_mut.ensures.value c.new-pairs.ensures.items c.in_ok-push.ensures.items c.in_ok-collapse.ensures.leads c.in_ok-collapse.ensures.touched (omega (arith, c.collapse.auto.entries, c.deref_mut.ensures.len))).count

pub returns-clause-changes : goal.returns-clause-changes
returns-clause-changes c =
    (join_makes c.table.inside.generators c.table.inside.places c.args.first c.args.second c.table.inside.entries.len c.table.inside.entries.items c.deref_mut.result.now c.collapse.new.entries (drop (length c.collapse.new.entries) c.table.inside.entries.items) c.args.touched.now.items c.collapse.new.touched.items c.new-pairs.result.items c.push.new.self.items c.args.self c.table.view_is c.table.invariant c.requires.first c.requires.second c.deref_mut.ensures.value c.new-pairs.ensures.items c.in_ok-push.ensures.items c.in_ok-collapse.ensures.leads c.in_ok-collapse.ensures.touched (omega (arith, c.collapse.auto.entries, c.deref_mut.ensures.len))).changes

pub returns-clause-stood : goal.returns-clause-stood
returns-clause-stood c =
    (join_makes c.table.inside.generators c.table.inside.places c.args.first c.args.second c.table.inside.entries.len c.table.inside.entries.items c.deref_mut.result.now c.collapse.new.entries (drop (length c.collapse.new.entries) c.table.inside.entries.items) c.args.touched.now.items c.collapse.new.touched.items c.new-pairs.result.items c.push.new.self.items c.args.self c.table.view_is c.table.invariant c.requires.first c.requires.second c.deref_mut.ensures.value c.new-pairs.ensures.items c.in_ok-push.ensures.items c.in_ok-collapse.ensures.leads c.in_ok-collapse.ensures.touched (omega (arith, c.collapse.auto.entries, c.deref_mut.ensures.len))).stood

pub returns-clause-fewer : goal.returns-clause-fewer
returns-clause-fewer c =
    (join_makes c.table.inside.generators c.table.inside.places c.args.first c.args.second c.table.inside.entries.len c.table.inside.entries.items c.deref_mut.result.now c.collapse.new.entries (drop (length c.collapse.new.entries) c.table.inside.entries.items) c.args.touched.now.items c.collapse.new.touched.items c.new-pairs.result.items c.push.new.self.items c.args.self c.table.view_is c.table.invariant c.requires.first c.requires.second c.deref_mut.ensures.value c.new-pairs.ensures.items c.in_ok-push.ensures.items c.in_ok-collapse.ensures.leads c.in_ok-collapse.ensures.touched (omega (arith, c.collapse.auto.entries, c.deref_mut.ensures.len))).fewer
