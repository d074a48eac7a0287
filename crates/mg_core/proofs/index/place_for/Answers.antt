use Rattle.std.proofs.Common.{◌+◌, ◌-◌, ◌/◌, ◌<◌, sym, ◌∙◌, get_or, arith}
use Rattle.std.proofs.lemmas.Option.{slice_get-get_or}
use Rattle.mg_core.proofs.Indexes.{key_between, between_up, between_down, found_at}
use Rattle.mg_core.proofs.index.place_for.Goals as goal

pub compare_at-requires : goal.compare_at-requires
compare_at-requires g c =
    let low = c.loop-low.low in
    let high = c.loop-low.high in
    let i = low + (high - low) / 2 in
    let small : i < high = omega (arith, c.loop-low-test.true) in
    let there = slice_get-get_or c.args.places.now i 0 (omega (arith, small, c.loop-low.invariant.within)) in
    key_between g.R.Key.Ord.cmp g.met.R.Key.Ord.total g.R.Record.recording.settles c.args.facts.now c.args.places.now c.args.key.now low high i (get_or c.args.places.now i 0) c.loop-low.invariant there

pub loop-low-preserved-in-Less : goal.loop-low-preserved-in-Less
loop-low-preserved-in-Less g c =
    let low = c.loop-low.low in
    let high = c.loop-low.high in
    let i = low + (high - low) / 2 in
    let small : i < high = omega (arith, c.loop-low-test.true) in
    let there = slice_get-get_or c.args.places.now i 0 (omega (arith, small, c.loop-low.invariant.within)) in
    between_up g.R.Key.Ord.cmp g.met.R.Key.Ord.total g.R.Record.recording.settles c.args.facts.now c.args.places.now c.args.key.now low high i (get_or c.args.places.now i 0) c.loop-low.invariant small there
    (λ k points. sym (c.compare_at.ensures k points) ∙ c.in-Less.is)

pub returns-in-Equal-clause-found : goal.returns-in-Equal-clause-found
returns-in-Equal-clause-found g c =
    let low = c.loop-low.low in
    let high = c.loop-low.high in
    let i = low + (high - low) / 2 in
    let small : i < high = omega (arith, c.loop-low-test.true) in
    let there = slice_get-get_or c.args.places.now i 0 (omega (arith, small, c.loop-low.invariant.within)) in
    found_at g.R.Key.Ord.cmp g.met.R.Key.Ord.total g.R.Record.recording.settles c.args.facts.now c.args.places.now c.args.key.now g.met.R.Record.lawful.exact_keys low high i (get_or c.args.places.now i 0) c.loop-low.invariant there
    (λ k points. sym (c.compare_at.ensures k points) ∙ c.in-Equal.is)

pub loop-low-preserved : goal.loop-low-preserved
loop-low-preserved g c =
    let low = c.loop-low.low in
    let high = c.loop-low.high in
    let i = low + (high - low) / 2 in
    let small : i < high = omega (arith, c.loop-low-test.true) in
    let there = slice_get-get_or c.args.places.now i 0 (omega (arith, small, c.loop-low.invariant.within)) in
    between_down g.R.Key.Ord.cmp g.met.R.Key.Ord.total g.R.Record.recording.settles c.args.facts.now c.args.places.now c.args.key.now low high i (get_or c.args.places.now i 0) c.loop-low.invariant (omega arith) there
    (λ k points. sym (c.compare_at.ensures k points) ∙ c.in-Greater.is)
