use Rattle.std.proofs.Common.{◌∙◌, ap, position, nat_eq, List, ℕ}
use Rattle.std.specs.Cmp.Lexicographic.{pointwise}
use Rattle.mg_names.proofs.Lookups.{place_found}
use Rattle.mg_names.proofs.home.Home.generator.Goals as goal

pub returns-clause-place : goal.returns-clause-place
returns-clause-place c =
    c.place_of.ensures.place ∙ (ap (λ (gs : List (List ℕ)). position (λ (g : List ℕ). pointwise nat_eq g c.args.text.now) gs) c.as_slice.ensures
    ∙ place_found c.args.self.now.generators.now c.args.text.now)
