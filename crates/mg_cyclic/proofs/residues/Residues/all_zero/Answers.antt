use Rattle.std.proofs.Common.{◌∙◌}
use Rattle.std.proofs.lemmas.Result.{IfOk-weaker}
use Rattle.mg_numbers.specs.Residues.{ResidueTuple}
use Rattle.mg_cyclic.proofs.Sums.{all_zeros}
use Rattle.mg_cyclic.proofs.residues.Residues.all_zero.Goals as goal

pub returns : goal.returns
returns c = IfOk-weaker c.from_images.result _ _ (λ (map : ResidueTuple) h. h ∙ all_zeros c.args.generators 64 c.requires) c.from_images.ensures
