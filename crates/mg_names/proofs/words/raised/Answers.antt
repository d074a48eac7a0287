use Rattle.std.proofs.Common.{◌∙◌, sym}
use Rattle.mg_names.proofs.Parts.{empty_power}
use Rattle.mg_names.proofs.words.raised.Goals as goal

pub returns-then-is_empty-clause-power : goal.returns-then-is_empty-clause-power
returns-then-is_empty-clause-power c =
    empty_power c.args.exponent.negative c.args.exponent.size c.args.root.letters (sym c.is_empty.ensures ∙ c.if-is_empty.true) c.letters.ensures
