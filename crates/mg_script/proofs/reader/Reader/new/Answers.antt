use Rattle.std.proofs.Common.{[], refl}
use Rattle.mg_script.proofs.Standing.{started, adds_nothing}
use Rattle.mg_script.proofs.reader.Reader.new.Goals as goal

pub returns : goal.returns
returns c = record {
  done = [];
  ahead = c.args.lexemes.now;
  stand = started (record { lexemes = c.args.lexemes.now; counts = c.args.counts });
  lexemes = refl;
  place = refl;
  adds = adds_nothing c.args.counts;
  bounded = tt;
  within = λ within. within;
}
