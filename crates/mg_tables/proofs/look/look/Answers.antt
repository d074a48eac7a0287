use Rattle.std.proofs.Common.{◌≡◌, subst}
use Rattle.mg_tables.specs.Looking.{AreQuiet}
use Rattle.mg_tables.proofs.Looking.{last_one}
use Rattle.mg_tables.proofs.look.look.Goals as goal

pub returns-clause-last : goal.returns-clause-last
returns-clause-last c none front row e s =
    let same : c.in-Some.row.now ≡ row = last_one c.args.rows.now front row c.in-Some.row.now e c.in-Some.ensures.value in
    subst (AreQuiet c.args.group.now.relators c.args.table.now.places) same (c.look_through.ensures.quiet none)
