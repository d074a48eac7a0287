use Rattle.mg_names.proofs.Tails.{star_skipped}
use Rattle.mg_names.proofs.words.skip_star.Goals as goal

pub returns-then-is-clause-skipped : goal.returns-then-is-clause-skipped
returns-then-is-clause-skipped c = star_skipped c.args.cursor.now c.skip.new.self (c.is.ensures.0 c.if-is.true) c.skip.ensures
