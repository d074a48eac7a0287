use Rattle.mg_session.proofs.Firsts.{all_taken, all_more_at}
use Rattle.mg_session.proofs.places.place_among.Goals as goal

pub loop-place-preserved : goal.loop-place-preserved
loop-place-preserved c =
    all_more_at _ c.args.searches.now c.loop-place.place c.index-searches-place.result c.loop-place-test.true c.index-searches-place.is
    (λ is. let found = c.is_for.ensures.1 is in absurd (cc)) c.loop-place.invariant

pub returns-clause-none : goal.returns-clause-none
returns-clause-none c = all_taken _ c.args.searches.now c.loop-place.place c.loop-place-test.false c.loop-place.invariant
