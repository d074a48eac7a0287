use Rattle.std.proofs.Common.{◌≡◌, subst, ℤ, None, Some, arith}
use Rattle.mg_tables.specs.Table.{entry}
use Rattle.mg_tables.specs.Gaps.{number, packed}
use Rattle.mg_tables.proofs.Ways.{back_on, behind_stuck, behind_end}
use Rattle.mg_tables.proofs.scan.behind.Goals as goal

pub loop-place-preserved : goal.loop-place-preserved
loop-place-preserved c =
    back_on c.args.table.now.places c.args.row c.args.word.now c.args.least c.loop-place.place c.loop-place.way c.in-Some.next c.index-word-place.result c.loop-place.invariant c.loop-place-test.true c.index-word-place.is
    (subst (λ (x : ℤ). entry (packed c.args.table.now.places) (number c.args.table.now.places c.loop-place.way) x ≡ Some (number c.args.table.now.places c.in-Some.next)) c.inverted.ensures c.in-Some.ensures.table) c.in-Some.ensures.stands

pub returns-in-None : goal.returns-in-None
returns-in-None c =
    behind_stuck c.args.table.now.places c.args.row c.args.word.now c.args.least c.loop-place.place c.loop-place.way c.index-word-place.result c.loop-place.invariant c.loop-place-test.true c.index-word-place.is
    (subst (λ (x : ℤ). entry (packed c.args.table.now.places) (number c.args.table.now.places c.loop-place.way) x ≡ None) c.inverted.ensures c.in-None.ensures.table)

pub returns : goal.returns
returns c = behind_end c.args.table.now.places c.args.row c.args.word.now c.args.least c.loop-place.place c.loop-place.way c.loop-place.invariant (λ h. omega (arith, h, c.loop-place-test.false))
