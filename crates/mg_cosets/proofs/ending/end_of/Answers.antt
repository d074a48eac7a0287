use Rattle.std.proofs.Common.{ap, sym, ◌∙◌}
use Rattle.mg_present.specs.Ask.{Inquiry}
use Rattle.mg_cosets.proofs.ending.end_of.Goals as goal

pub returns-clause-end : goal.returns-clause-end
returns-clause-end c after ask table = c.open_end.ensures.end after (ap (λ (a : Inquiry). a.group) ask ∙ sym c.requires.group) table
