use Rattle.std.proofs.Common.{◌∙◌, ◌∷◌, ◌++◌, [], List, ℕ, sym, subst, ap}
use Rattle.mg_tables.specs.Looking.{IsCovered}
use Rattle.mg_tables.proofs.Looking.{first_covered}
use Rattle.mg_tables.proofs.Spotting.{one_place}
use Rattle.mg_tables.proofs.enumerate.CosetEnumeration.start.Goals as goal

pub finish-requires-clause-covered : goal.finish-requires-clause-covered
finish-requires-clause-covered c =
    subst (IsCovered c.args.group.relators c.in_ok-table.table.places) (sym (c.in_ok-push.ensures.items ∙ ap (λ (xs : List ℕ). xs ++ 0 ∷ []) c.new-list.ensures.items))
    (first_covered c.args.group.relators c.in_ok-table.table.places (one_place c.in_ok-table.table.places c.in_ok-table.ensures.gaps))
