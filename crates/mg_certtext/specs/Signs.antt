-- The pieces of relators and their inverses.
use Rattle.std.specs.Prelude.{ℕ, Bool, true, false, List, [], ◌++◌, codes}
use Rattle.std.specs.Fmt.{decimal}

abbrev pub sign : Bool → List ℕ
sign false = []
sign true = codes "^-1"

-- the relator with a number, counted from 1, or its inverse
abbrev pub relator_piece : ℕ → Bool → List ℕ
relator_piece number inverse = codes "r" ++ decimal number ++ sign inverse
