use Rattle.std.proofs.Common.{◌≡◌, ◌+◌, ◌-◌, sym, ◌∙◌, arith}
use Rattle.mg_cyclic.proofs.Raises.{stays_below, added_once}
use Rattle.mg_cyclic.proofs.kept.added.Goals as goal

pub returns-then-residue-left : goal.returns-then-residue-left
returns-then-residue-left c = λ less more.
    sym (stays_below c.args.modulus (c.args.residue + c.args.step) (omega (arith, c.saturating_sub-left.ensures, c.if-residue-left.true)))

pub returns : goal.returns
returns c = λ less more.
    let same : c.args.residue - c.saturating_sub-left.result ≡ c.args.residue + c.args.step - c.args.modulus = omega (arith, less, more, c.saturating_sub-left.ensures, c.if-residue-left.false) in
    same ∙ added_once c.args.modulus c.args.residue c.args.step less more (omega (arith, less, more, c.saturating_sub-left.ensures, c.if-residue-left.false))
