use Rattle.std.proofs.Common.{ap, sym, ◌∙◌, ◌*◌, length}
use Rattle.mg_tables.specs.Gaps.{Gapped}
use Rattle.mg_tables.proofs.Cells.{places_length}
use Rattle.mg_tables.proofs.table.CosetTable.places.Goals as goal

pub returns-clause-value : goal.returns-clause-value
returns-clause-value c =
    sym (places_length (2 * c.self.inside.generators) c.self.inside.places c.self.inside.entries.items)
    ∙ ap (λ (v : Gapped). length v.places) c.self.view_is
