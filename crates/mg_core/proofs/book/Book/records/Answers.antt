use Rattle.std.proofs.Common.{sym, ◌∙◌, ap}
use Rattle.mg_core.specs.Log.{facts_of}
use Rattle.mg_core.proofs.Joined.{facts_found}
use Rattle.mg_core.proofs.book.Book.records.Goals as goal

pub returns-clause-facts : goal.returns-clause-facts
returns-clause-facts g c = c.as_slice.ensures.value ∙ sym (ap facts_of (sym c.self.view_is) ∙ facts_found c.self.inside.facts.items c.self.inside.streaks.items c.self.invariant.found)
