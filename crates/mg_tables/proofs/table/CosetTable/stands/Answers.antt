use Rattle.std.proofs.Common.{sym, ◌*◌, arith, ◌<◌, subst}
use Rattle.std.proofs.lemmas.Bool.{ltb-true, lt-ltb, false≢true}
use Rattle.mg_tables.specs.Gaps.{Gapped, Stands}
use Rattle.mg_tables.proofs.Kept.{standing_below, stands_by}
use Rattle.mg_tables.proofs.table.CosetTable.stands.Goals as goal

pub returns-then-place-self : goal.returns-then-place-self
returns-then-place-self c = (
  λ h. absurd (false≢true h),
  λ h.
      let below : c.args.place < c.self.inside.places = standing_below (2 * c.self.inside.generators) c.self.inside.places c.args.place c.self.inside.entries.items
      (subst (λ (v : Gapped). Stands v.places c.args.place) (sym c.self.view_is) h) in
      absurd (omega (arith, below, c.if-place-self.true)),
)

pub returns : goal.returns
returns c =
    let made = stands_by c.self.inside.generators c.self.inside.places c.args.place c.index.result c.index-2.result.now c.self.inside.entries.items c.args.self.now c.self.view_is c.self.invariant (omega (arith, c.if-place-self.false)) c.index.ensures c.index-2.ensures in
    (λ h. made.1.0 (ltb-true c.index-2.result.now 2147483648 h), λ h. lt-ltb c.index-2.result.now 2147483648 (made.1.1 h))
