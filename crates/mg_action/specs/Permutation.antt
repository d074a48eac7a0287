-- Permutations of the points below a degree, as image lists: at the place of each point, from 0, stands its image.
use Rattle.std.specs.Prelude.{ℕ, List, map, length, slice_index, ◌==◌}
use Rattle.std.specs.List.{range_with_len, position_or_len}

-- the permutation that fixes every point
abbrev pub identity : ℕ → List ℕ
identity degree = range_with_len 0 degree

-- first xs and then ys
abbrev pub product_of : List ℕ → List ℕ → List ℕ
product_of xs ys = map (λ x. slice_index ys x) xs

-- takes each image back: a point goes to the place at which it stands
abbrev pub inverse_of : List ℕ → List ℕ
inverse_of xs = map (λ point. position_or_len (λ x. x == point) xs) (identity (length xs))
