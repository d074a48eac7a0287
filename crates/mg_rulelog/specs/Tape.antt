-- The word that moves are made on. Private functions alone cite it; what moves do is said without it.
use Rattle.std.specs.Prelude.{◌≡◌, false, ℤ, List, ◌++◌, reverse, Bool, IsTrue}
use Rattle.mg_rulelog.specs.declared.tape.Tape.{Tape}

-- the letters before the place where the stacks meet, and then those behind it
abbrev pub spelled : Tape → List ℤ
spelled tape = tape.before.items ++ reverse tape.behind.items

-- whether a word can become one that P holds of, and where it can the one that it has become
pub record Tells (P : List ℤ → Type 0) (made : Bool) (word : List ℤ) : Type 0 where
  pub yes : IsTrue made → P word
  pub no : made ≡ false → (other : List ℤ) → P other → ⊥
