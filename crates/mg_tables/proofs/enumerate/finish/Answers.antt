use Rattle.std.proofs.Common.{◌≡◌, ◌∙◌, sym, subst}
use Rattle.mg_tables.specs.Enumerating.{IsFullBefore, Lasts, IsSpot}
use Rattle.mg_tables.proofs.Spotting.{full_lasts}
use Rattle.mg_tables.proofs.enumerate.finish.Goals as goal

pub find_spot-spot-requires : goal.find_spot-spot-requires
find_spot-spot-requires c =
    let same : c.in_ok-settled.settled.table.generators ≡ c.args.group.generators = c.in_ok-settled.ensures.deduced.generators ∙ c.requires.generators in
    subst (λ m. IsFullBefore m c.in_ok-settled.settled.table.places c.args.from) (sym same)
    (full_lasts c.args.group.generators c.args.table.places c.in_ok-settled.settled.table.places c.args.from
    (subst (λ m. Lasts m c.args.table.places c.in_ok-settled.settled.table.places) c.requires.generators c.in_ok-settled.ensures.deduced.lasts) c.requires.full)

pub invariant_of-result : goal.invariant_of-result
invariant_of-result c =
    let same : c.in_ok-settled.settled.table.generators ≡ c.args.group.generators = c.in_ok-settled.ensures.deduced.generators ∙ c.requires.generators in
    let reached = c.in_ok-settled.ensures.deduced.reached c.args.units c.requires.reached in
    record {
      some = c.requires.some;
      presented = c.generators.ensures.fits;
      over = c.requires.over;
      generators = same;
      count = c.rows_now-rows.ensures;
      spotted = subst (λ m. IsSpot m c.in_ok-settled.settled.table.places c.find_spot-spot.result) same c.find_spot-spot.ensures;
      enumerated = record { tables = reached.0; leads = reached.1; stable = c.in_ok-settled.ensures.stable };
    }
