use Rattle.std.proofs.Common.{◌≡◌, ◌∙◌, Some, ap, sym, subst, refl}
use Rattle.std.specs.List.{AllByRecursion}
use Rattle.mg_core.specs.Log.{Handed}
use Rattle.mg_core.proofs.Hands.{handed_of_group}
use Rattle.mg_workers.proofs.Rounds.{brings_settling, event_put, follows_put, if_some, put_follows, some_spent}
use Rattle.mg_workers.specs.Seats.{whole}
use Rattle.mg_workers.proofs.turns.take_turn.Goals as goal

pub turn-requires-clause-of_group : goal.turn-requires-clause-of_group
turn-requires-clause-of_group g c =
    subst (λ group. AllByRecursion (λ r. g.R.Record.recording.model_of r ≡ Some group) c.in_ok-facts.facts.records) c.group.ensures
    (handed_of_group g.R.Record.recording.model_of c.group.result.now c.args.book.now c.args.seat.now.held.read c.wants-wants.result c.in_ok-facts.facts c.in_ok-facts.ensures)

pub put_down-requires-clause-of_key : goal.put_down-requires-clause-of_key
put_down-requires-clause-of_key g c = brings_settling _ _ _ _ _ _ _ c.in_ok-outcome.ensures.sound _ refl (λ r valid model. (g.met.R.Record.lawful.one_of_both r valid).1 model) _ c.in_ok-outcome.ensures.sound.key

pub returns-clause-event : goal.returns-clause-event
returns-clause-event g c =
    let seat = c.args.seat.now in
    let log = c.args.book.now in
    let facts = c.in_ok-facts.facts in
    let outcome = c.in_ok-outcome.outcome in
    let handed = subst (λ group. Handed g.R.Record.recording.model_of log group seat.held.read c.wants-wants.result facts) c.group.ensures c.in_ok-facts.ensures in
    let handed_wanted = subst (λ most. Handed g.R.Record.recording.model_of log (g.S.Searcher.searching.group seat.held.search) seat.held.read most facts) c.wants-wants.ensures handed in
    event_put _ _ _ seat c.put_down.new.seat log c.put_down.new.book c.turn.new.search c.size-units.result facts outcome c.in_ok-dropped.dropped c.requires.fit c.requires.stays c.requires.allowed c.size-units.ensures.size c.size-units.ensures.least c.size-units.ensures.most handed_wanted
    c.in_ok-outcome.ensures.turns c.in_ok-outcome.ensures.sound.key c.in_ok-outcome.ensures.once c.in_ok-dropped.ensures.ok

pub returns-clause-alike : goal.returns-clause-alike
returns-clause-alike g c =
    let before = record (c.args.seat.now) { held = record (c.args.seat.now.held) { search = c.turn.new.search } } in
    let put = c.in_ok-dropped.ensures.ok in
    λ units. (
      λ alike.
          let told = (c.may_follow.ensures units).0 alike in
          follows_put g.R.Record.recording.settles g.S.Searcher.searching.key c.args.book.now c.put_down.new.book before c.put_down.new.seat c.in_ok-facts.facts units
          c.in_ok-outcome.outcome c.in_ok-dropped.dropped (c.is_whole-whole.ensures.0 told.1 ∙ ap whole (sym told.0)) told.2 put told.3 told.4,
      λ follows.
          let made = put_follows g.R.Record.recording.settles g.S.Searcher.searching.key c.args.book.now c.put_down.new.book before c.put_down.new.seat c.in_ok-facts.facts units
          c.in_ok-outcome.outcome c.in_ok-dropped.dropped put follows in
          let spent = ap (λ outcome. outcome.spent) made.0 in
          (c.may_follow.ensures units).1 (sym spent, c.is_whole-whole.ensures.1 (made.0 ∙ ap whole (sym spent)), made.1, follows.unlooked, made.2),
    )

pub returns-clause-some : goal.returns-clause-some
returns-clause-some g c =
    if_some c.may_follow.result (λ units alike.
    let told = (c.may_follow.ensures units).0 alike in
    some_spent _ _ _ _ _ _ _ units c.in_ok-outcome.ensures.sound (c.is_whole-whole.ensures.0 told.1 ∙ ap whole (sym told.0)))
