use Rattle.std.proofs.Common.{◌∙◌}
use Rattle.indexmap.proofs.CallerLemmas.{insert_entry-new}
use Rattle.mg_names.proofs.Lookups.{none_before, declared_new}
use Rattle.mg_names.proofs.scope.Names.declare.Goals as goal

pub unreachable-requires : goal.unreachable-requires
unreachable-requires c =
    let none = none_before c.self.inside.objects.entries c.args.self.now c.args.text.now c.in_ok-key.key c.self.view_is c.requires c.in_ok-key.ensures.items in
    let old = c.in_ok-insert.ensures.old in
    cc

pub returns-clause-ok : goal.returns-clause-ok
returns-clause-ok c =
    let none = none_before c.self.inside.objects.entries c.args.self.now c.args.text.now c.in_ok-key.key c.self.view_is c.requires c.in_ok-key.ensures.items in
    declared_new c.self.inside.objects.entries c.insert.new.self.entries c.args.self.now c.args.text.now c.in_ok-key.key c.args.object c.self.view_is c.in_ok-key.ensures.items
    (c.in_ok-insert.ensures.entries ∙ insert_entry-new _ c.self.inside.objects c.in_ok-key.key c.args.object none)
