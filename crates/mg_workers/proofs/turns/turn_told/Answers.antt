use Rattle.mg_workers.proofs.Rounds.{if_ok}
use Rattle.mg_workers.proofs.turns.turn_told.Goals as goal

pub returns-clause-sound : goal.returns-clause-sound
returns-clause-sound g c =
    if_ok (λ outcome. g.S.Searcher.searching.turns c.args.search.now c.args.units c.args.facts outcome c.turn.new.self) _
    (λ outcome made. g.met.S.Searcher.sound c.args.search.now c.args.units c.args.facts outcome c.turn.new.self c.requires.is_open c.requires.some_units (record { few = c.requires.few; of_group = c.requires.of_group }) made)
    c.turn.result c.turn.ensures.turns
