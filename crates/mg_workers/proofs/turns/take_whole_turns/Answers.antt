use Rattle.std.proofs.Common.{◌≡◌, Some, ◌∙◌, ap, subst, arith, refl, rules}
use Rattle.std.specs.List.{AllByRecursion}
use Rattle.mg_core.specs.Log.{Settled, Handed}
use Rattle.mg_core.proofs.Hands.{handed_of_group}
use Rattle.mg_workers.proofs.Rounds.{IsNext, alone_lost, any_err, brings_settling, last_is_empty, wholly_in, wholly_out, wholly_last, wholly_next}
use Rattle.mg_workers.proofs.turns.take_whole_turns.Goals as goal

pub loop-alloc-init : goal.loop-alloc-init
loop-alloc-init g c = wholly_in _ _ _ c.args.seat.now c.args.book.now c.args.units c.requires.fit c.requires.follows

pub turn_told-requires-clause-of_group : goal.turn_told-requires-clause-of_group
turn_told-requires-clause-of_group g c =
    subst (λ group. AllByRecursion (λ r. g.R.Record.recording.model_of r ≡ Some group) c.in_ok-facts.facts.records) c.group.ensures
    (handed_of_group g.R.Record.recording.model_of c.group.result.now c.loop-alloc.book c.loop-alloc.read c.wants-wants.result c.in_ok-facts.facts c.in_ok-facts.ensures)

pub put_down-requires-clause-of_key : goal.put_down-requires-clause-of_key
put_down-requires-clause-of_key g c =
    brings_settling _ _ _ _ _ _ _ c.in_ok-outcome.ensures.sound _ refl (λ r valid model. (g.met.R.Record.lawful.one_of_both r valid).1 model) _
    (ap (λ s. g.S.Searcher.searching.key s.held.search) c.count_whole.ensures ∙ c.in_ok-outcome.ensures.sound.key)

pub returns-then-not-is_whole-clause-runs : goal.returns-then-not-is_whole-clause-runs
returns-then-not-is_whole-clause-runs g c =
    let seat = c.loop-alloc.seat in
    let next : IsNext g.R.Record.recording g.S.Searcher.searching (g.P.Sizes.is_size c.args.policy.now) c.args.seat.now c.args.book.now c.args.units c.loop-alloc.seat c.loop-alloc.book c.loop-alloc.used c.loop-alloc.turns c.loop-alloc.read c.loop-alloc.invariant c.loop-alloc.seat = (c.is_next_size.ensures.enough c.loop-alloc-test.true, c.is_next_size.ensures.counted c.loop-alloc-test.true, c.is_next_size.ensures.size c.loop-alloc-test.true) in
    let read = c.loop-alloc.read in
    let facts = c.in_ok-facts.facts in
    let handed = subst (λ group. Handed g.R.Record.recording.model_of c.loop-alloc.book group read c.wants-wants.result facts) c.group.ensures c.in_ok-facts.ensures in
    let handed_wanted = subst (λ most. Handed g.R.Record.recording.model_of c.loop-alloc.book (g.S.Searcher.searching.group seat.held.search) read most facts) c.wants-wants.ensures handed in
    (wholly_last _ _ _ c.args.seat.now c.args.book.now c.args.units seat c.loop-alloc.book c.loop-alloc.used c.loop-alloc.turns read c.loop-alloc.invariant g.met.S.Searcher.sound c.requires.some next c.turn_told.new.search facts c.in_ok-outcome.outcome c.put_down.new.book handed_wanted
    c.in_ok-outcome.ensures.turns c.in_ok-outcome.ensures.sound.key c.in_ok-put_down.field-0 c.count_whole.new.self c.put_down.new.seat c.count_whole.ensures c.in_ok-put_down.ensures.ok).runs

pub returns-then-not-is_whole-clause-fit : goal.returns-then-not-is_whole-clause-fit
returns-then-not-is_whole-clause-fit g c =
    let seat = c.loop-alloc.seat in
    let next : IsNext g.R.Record.recording g.S.Searcher.searching (g.P.Sizes.is_size c.args.policy.now) c.args.seat.now c.args.book.now c.args.units c.loop-alloc.seat c.loop-alloc.book c.loop-alloc.used c.loop-alloc.turns c.loop-alloc.read c.loop-alloc.invariant c.loop-alloc.seat = (c.is_next_size.ensures.enough c.loop-alloc-test.true, c.is_next_size.ensures.counted c.loop-alloc-test.true, c.is_next_size.ensures.size c.loop-alloc-test.true) in
    let read = c.loop-alloc.read in
    let facts = c.in_ok-facts.facts in
    let handed = subst (λ group. Handed g.R.Record.recording.model_of c.loop-alloc.book group read c.wants-wants.result facts) c.group.ensures c.in_ok-facts.ensures in
    let handed_wanted = subst (λ most. Handed g.R.Record.recording.model_of c.loop-alloc.book (g.S.Searcher.searching.group seat.held.search) read most facts) c.wants-wants.ensures handed in
    (wholly_last _ _ _ c.args.seat.now c.args.book.now c.args.units seat c.loop-alloc.book c.loop-alloc.used c.loop-alloc.turns read c.loop-alloc.invariant g.met.S.Searcher.sound c.requires.some next c.turn_told.new.search facts c.in_ok-outcome.outcome c.put_down.new.book handed_wanted
    c.in_ok-outcome.ensures.turns c.in_ok-outcome.ensures.sound.key c.in_ok-put_down.field-0 c.count_whole.new.self c.put_down.new.seat c.count_whole.ensures c.in_ok-put_down.ensures.ok).fit

pub commit_next-requires-clause-last : goal.commit_next-requires-clause-last
commit_next-requires-clause-last g c = (c.loop-alloc.invariant.follows.last, last_is_empty _ _ _ _ _ c.loop-alloc.invariant.follows)

pub commit_next-requires-clause-unsettled : goal.commit_next-requires-clause-unsettled
commit_next-requires-clause-unsettled g c settled =
    c.loop-alloc.invariant.follows.unsettled (subst (λ key. Settled g.R.Record.recording.settles c.loop-alloc.book key) (c.key.ensures ∙ c.in_ok-outcome.ensures.sound.key) settled)

pub loop-alloc-preserved : goal.loop-alloc-preserved
loop-alloc-preserved g c =
    let seat = c.loop-alloc.seat in
    let next : IsNext g.R.Record.recording g.S.Searcher.searching (g.P.Sizes.is_size c.args.policy.now) c.args.seat.now c.args.book.now c.args.units c.loop-alloc.seat c.loop-alloc.book c.loop-alloc.used c.loop-alloc.turns c.loop-alloc.read c.loop-alloc.invariant c.loop-alloc.seat = (c.is_next_size.ensures.enough c.loop-alloc-test.true, c.is_next_size.ensures.counted c.loop-alloc-test.true, c.is_next_size.ensures.size c.loop-alloc-test.true) in
    let read = c.loop-alloc.read in
    let facts = c.in_ok-facts.facts in
    let was = c.loop-alloc.invariant in
    let handed = subst (λ group. Handed g.R.Record.recording.model_of c.loop-alloc.book group read c.wants-wants.result facts) c.group.ensures c.in_ok-facts.ensures in
    let handed_wanted = subst (λ most. Handed g.R.Record.recording.model_of c.loop-alloc.book (g.S.Searcher.searching.group seat.held.search) read most facts) c.wants-wants.ensures handed in
    wholly_next _ _ _ c.args.seat.now c.args.book.now c.args.units seat c.loop-alloc.book c.loop-alloc.used c.loop-alloc.turns read was g.met.S.Searcher.sound c.requires.some next c.turn_told.new.search facts c.in_ok-outcome.outcome c.commit_next.new.self handed_wanted
    c.in_ok-outcome.ensures.turns c.in_ok-outcome.ensures.sound.key (c.is_whole.ensures.0 (search rules)) (c.in_ok-commit_next.ensures.ok was.follows.last (last_is_empty _ _ _ _ _ was.follows)).1

pub returns-clause-runs : goal.returns-clause-runs
returns-clause-runs g c =
    (wholly_out _ _ _ c.args.seat.now c.args.book.now c.args.units c.loop-alloc.seat c.loop-alloc.book c.loop-alloc.used c.loop-alloc.turns c.loop-alloc.read c.loop-alloc.invariant c.count_whole-2.new.self c.count_whole-2.ensures).runs

pub returns-in_err-facts-clause-memory : goal.returns-in_err-facts-clause-memory
returns-in_err-facts-clause-memory g c = any_err _ (alone_lost _ _ _ c.args.seat.now c.args.book.now _ c.loop-alloc.book c.loop-alloc.book refl c.loop-alloc.invariant.alone) _

pub returns-in_err-outcome-clause-memory : goal.returns-in_err-outcome-clause-memory
returns-in_err-outcome-clause-memory g c = any_err _ (alone_lost _ _ _ c.args.seat.now c.args.book.now _ c.loop-alloc.book c.loop-alloc.book refl c.loop-alloc.invariant.alone) _

pub returns-in_err-put_down-clause-memory : goal.returns-in_err-put_down-clause-memory
returns-in_err-put_down-clause-memory g c = any_err _ (alone_lost _ _ _ c.args.seat.now c.args.book.now _ c.loop-alloc.book c.put_down.new.book c.in_err-put_down.ensures.memory c.loop-alloc.invariant.alone) _

pub returns-in_err-commit_next-clause-memory : goal.returns-in_err-commit_next-clause-memory
returns-in_err-commit_next-clause-memory g c = any_err _ (alone_lost _ _ _ c.args.seat.now c.args.book.now _ c.loop-alloc.book c.commit_next.new.self c.in_err-commit_next.ensures.err c.loop-alloc.invariant.alone) _
