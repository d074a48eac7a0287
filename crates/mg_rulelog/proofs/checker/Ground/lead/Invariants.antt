use Rattle.mg_rulelog.specs.Rule.{all_sides}
use Rattle.mg_rulelog.specs.Tape.{spelled}
use Rattle.mg_rulelog.proofs.Making.{LeadsStill}
use Rattle.mg_rulelog.proofs.checker.Ground.lead.Given as goal

-- the moves that are left lead on exactly where all of them lead from the first word
abbrev pub invariant-loop-step : goal.invariant-loop-step
invariant-loop-step l = LeadsStill l.self.group.now (all_sides l.self.rules.now) l.moves l.step-index l.from.letters (spelled l.tape) l.to.letters
