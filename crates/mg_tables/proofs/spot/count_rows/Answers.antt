use Rattle.std.proofs.Common.{◌∙◌, ◌+◌, sym, ap, arith}
use Rattle.std.proofs.lemmas.Bool.{false≢true}
use Rattle.mg_tables.proofs.Spotting.{number_most, number_next, number_gap, number_all}
use Rattle.mg_tables.proofs.spot.count_rows.Goals as goal
use Rattle.mg_tables.proofs.spot.count_rows.Goals.{then-stands, else-stands}

pub overflow_add-rows : goal.overflow_add-rows
overflow_add-rows c =
    omega (arith, c.loop-place.invariant, number_most c.args.table.now.places c.loop-place.place, c.loop-place-test.true, c.loop-place.auto.place-end)

pub loop-place-preserved : goal.loop-place-preserved
loop-place-preserved c = elim c.if-stands.branch [
  | then-stands w ↦ w.rows-is ∙ (ap (λ n. n + 1) c.loop-place.invariant ∙ sym (number_next c.args.table.now.places c.loop-place.place (c.stands.ensures.0 w.if-stands.true)))
  | else-stands w ↦ w.rows-is ∙ (c.loop-place.invariant ∙ sym (number_gap c.args.table.now.places c.loop-place.place (λ s. false≢true (sym w.if-stands.false ∙ c.stands.ensures.1 s))))
]

pub returns : goal.returns
returns c = record {
  value = c.loop-place.invariant ∙ number_all c.args.table.now.places c.loop-place.place (omega (arith, c.loop-place-test.false, c.places-place-end.ensures.value, c.loop-place.auto));
}
