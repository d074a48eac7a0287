use Rattle.std.proofs.Common.{sym, ◌∙◌}
use Rattle.clap.proofs.WalkLemmas.{both}
use Rattle.mg_command.proofs.reading.read.Goals as goal

pub returns-in-Ok : goal.returns-in-Ok
returns-in-Ok c = λ simple. record {
  plain = sym c.have_dashes.ensures ∙ c.if-have_dashes.false;
  taken = c.in-Ok.ensures.kinds simple;
  rows = (c.in-Ok.ensures.matches (both _ _ simple).0).0;
}
