use Rattle.std.proofs.Common.{ℕ, List, sym, subst}
use Rattle.mg_tables.specs.Enumerating.{AreImages}
use Rattle.mg_cosets.proofs.Imaging.{some_cut, action_made, model_made}
use Rattle.mg_cosets.proofs.ending.table_action.Goals as goal

pub from_images-requires-clause-perms : goal.from_images-requires-clause-perms
from_images-requires-clause-perms c =
    some_cut _ _ _ _ c.rows.ensures.value c.units.ensures.table
    (subst (λ (xs : List ℕ). AreImages c.args.enumeration.now.group.generators c.args.enumeration.now.table xs) (sym c.deref.ensures.value) c.in_ok-images.ensures)

pub returns-clause-of_group : goal.returns-clause-of_group
returns-clause-of_group c =
    model_made c.args.enumeration.now.group c.args.enumeration.now.subgroup c.args.enumeration.now.units c.args.enumeration.now.table _
    c.group.ensures.presented c.units.ensures.table c.units.ensures.enumerated c.requires c.degree.ensures.perms
    (action_made _ _ _ _ _ c.rows.ensures.value c.units.ensures.table
    (subst (λ (xs : List ℕ). AreImages c.args.enumeration.now.group.generators c.args.enumeration.now.table xs) (sym c.deref.ensures.value) c.in_ok-images.ensures) c.in_ok-act.ensures)
