use Rattle.std.proofs.Common.{◌∙◌, ◌+◌, sym, ap, arith}
use Rattle.std.proofs.lemmas.Bool.{false≢true}
use Rattle.mg_tables.proofs.Spotting.{number_most, number_next, number_gap, numbers_next}
use Rattle.mg_tables.proofs.images.number_places.Goals as goal
use Rattle.mg_tables.proofs.images.number_places.Goals.{then-stands, else-stands}

pub overflow_add-rows : goal.overflow_add-rows
overflow_add-rows c =
    omega (arith, c.loop-place.invariant.0, number_most c.args.table.now.places c.loop-place.place, c.loop-place-test.true, c.loop-place.auto.place-end)

pub loop-place-preserved : goal.loop-place-preserved
loop-place-preserved c = (
  elim c.if-stands.branch [
    | then-stands w ↦ w.rows-is ∙ (ap (λ n. n + 1) c.loop-place.invariant.0 ∙ sym (number_next c.args.table.now.places c.loop-place.place (c.stands.ensures.0 w.if-stands.true)))
    | else-stands w ↦ w.rows-is ∙ (c.loop-place.invariant.0 ∙ sym (number_gap c.args.table.now.places c.loop-place.place (λ s. false≢true (sym w.if-stands.false ∙ c.stands.ensures.1 s))))
  ],
  numbers_next c.args.table.now.places c.loop-place.place c.loop-place.rows c.loop-place.numbers.items c.push.new.self.items c.loop-place.invariant.0 c.in_ok-push.ensures.items c.loop-place.invariant.1,
)
