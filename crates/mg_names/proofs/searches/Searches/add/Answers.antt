use Rattle.std.proofs.Common.{◌+◌, ap, refl, true, ℕ}
use Rattle.std.specs.Prelude.{slice_set}
use Rattle.mg_names.proofs.Pairs.{added}
use Rattle.mg_names.proofs.searches.Searches.add.Goals as goal

pub returns : goal.returns
returns c ss n holds within =
    added ss n c.args.self.now _ c.args.question c.args.procedure holds within (ap (λ (i : ℕ). slice_set c.args.self.now.named.items i true) c.place_of.ensures) refl
    (ap (λ (k : ℕ). c.args.self.now.rewrites + k) c.one_if.ensures.one) (ap (λ (k : ℕ). c.args.self.now.cosets + k) c.one_if-2.ensures.one)
