-- What records mean.
use Rattle.std.specs.Prelude.{◌≡◌, ◌↔◌, Option, IsSome, IsNone}
use Rattle.std.specs.declared.cmp.Ordering.{Ordering}
use Rattle.std.specs.declared.cmp.Ordering.TheVariants.{Equal}

-- what records mean: which are valid, which key one settles, and which group one is a model of
pub record Recording (R K G : Type 0) : Type 1 where
  pub valid : R → Type 0
  pub settles : R → Option K
  pub model_of : R → Option G

-- keys, and groups, that compare equal are the same value, and a valid record settles a key or is a model, never both
pub record Lawful {R K G : Type 0} (key_cmp : K → K → Ordering) (group_cmp : G → G → Ordering) (recording : Recording R K G) : Type 0 where
  pub exact_keys : (a b : K) → key_cmp a b ≡ Equal → a ≡ b
  pub exact_groups : (a b : G) → group_cmp a b ≡ Equal → a ≡ b
  pub one_of_both : (r : R) → recording.valid r → IsNone (recording.settles r) ↔ IsSome (recording.model_of r)
