use Rattle.std.proofs.Common.{sym}
use Rattle.std.specs.Prelude.{codes, map}
use Rattle.mg_certtext.proofs.Extended.{two_pieces}
use Rattle.mg_certtext.specs.Pieces.{listed}
use Rattle.mg_certtext.specs.Models.{rule_pieces}
use Rattle.mg_certtext.proofs.models.push_rules.Goals as goal

pub returns-clause-pushed : goal.returns-clause-pushed
returns-clause-pushed c =
    rw (sym c.pairs.ensures)
    (two_pieces c.push_pairs.result c.args.out.now.items _ _ _ (codes "complete") (codes ":") (listed (map (rule_pieces c.args.names.now) c.pairs.result.now))
    c.in_ok-push_piece.ensures.pushed c.in_ok-push_piece-2.ensures.pushed c.push_pairs.ensures.pushed)
