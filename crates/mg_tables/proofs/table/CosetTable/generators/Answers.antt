use Rattle.std.proofs.Common.{subst, ◌*◌}
use Rattle.mg_tables.specs.Table.{IsTable}
use Rattle.mg_tables.specs.Gaps.{Gapped, packed, IsGapped}
use Rattle.mg_tables.proofs.Filling.{packed_is_table}
use Rattle.mg_tables.specs.Cells.{places_of}
use Rattle.mg_tables.proofs.table.CosetTable.generators.Goals as goal

pub returns-clause-table : goal.returns-clause-table
returns-clause-table c =
    subst (λ (v : Gapped). IsTable v.generators (packed v.places)) c.self.view_is
    (packed_is_table c.self.inside.generators (places_of (2 * c.self.inside.generators) c.self.inside.places c.self.inside.entries.items) c.self.invariant.gapped)

pub returns-clause-gapped : goal.returns-clause-gapped
returns-clause-gapped c = subst (λ (v : Gapped). IsGapped v.generators v.places) c.self.view_is c.self.invariant.gapped
