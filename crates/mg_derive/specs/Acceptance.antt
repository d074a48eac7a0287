-- Which derivations are accepted, and which text has which number.
use Rattle.std.specs.Prelude.{◌≡◌, ℕ, ℤ, ◌+◌, List, [], ◌∷◌, ◌++◌, map}
use Rattle.std.specs.List.{AllByRecursion, flat_map}
use Rattle.mg_words.specs.Word.{IsOver}
use Rattle.mg_words.specs.Chain.{FreelyEqual}
use Rattle.mg_present.specs.Ask.{Inquiry}
use Rattle.mg_derive.specs.declared.symbol.Symbol.{Symbol}
use Rattle.mg_derive.specs.declared.symbol.Symbol.TheVariants.{Letter, Relator, Member, Cut}
use Rattle.mg_derive.specs.Symbols.{IsSymbolOf, digit_of, symbol_count, written_out, letters_alone}
use Rattle.mg_numbers.specs.Texts.{value}

-- a letter or a relator sign
abbrev pub IsOfGroup : Symbol → Type 0
IsOfGroup (Letter x) = Unit {0}
IsOfGroup (Relator place inverse) = Unit {0}
IsOfGroup (Member place inverse) = ⊥
IsOfGroup Cut = ⊥

abbrev pub IsMember : Symbol → Type 0
IsMember (Letter x) = ⊥
IsMember (Relator place inverse) = ⊥
IsMember (Member place inverse) = Unit {0}
IsMember Cut = ⊥

-- letters and relator signs, followed by member signs alone
pub record IsInOrder (part : List Symbol) : Type 0 where
  pub front : List Symbol
  pub back : List Symbol
  pub split : part ≡ front ++ back
  pub of_group : AllByRecursion IsOfGroup front
  pub members : AllByRecursion IsMember back

-- the letters of a part alone are freely equal to the empty word
abbrev pub Vanishes : Inquiry → List Symbol → Type 0
Vanishes ask part = FreelyEqual ask.group.generators (letters_alone part) []

-- there are as many parts as goals, and each part, written out, is freely equal to its goal
abbrev pub Write : Inquiry → List (List Symbol) → List (List ℤ) → Type 0
Write ask [] [] = Unit {0}
Write ask (part ∷ parts) (goal ∷ goals) = FreelyEqual ask.group.generators (written_out ask part) goal × Write ask parts goals
Write ask [] (goal ∷ goals) = ⊥
Write ask (part ∷ parts) [] = ⊥

-- A text is accepted where its symbols are those of the Ask and it is cut into parts, each ended by the
-- cut and nothing after the last, of which four things hold.
pub record IsAccepted (ask : Inquiry) (text : List Symbol) : Type 0 where
  pub symbols : AllByRecursion (IsSymbolOf ask) text
  pub parts : List (List Symbol)
  pub cut : text ≡ flat_map (λ part. part ++ Cut ∷ []) parts
  pub in_order : AllByRecursion IsInOrder parts
  pub vanish : AllByRecursion (Vanishes ask) parts
  pub write : Write ask parts ask.goals

-- the text of symbols of the Ask with the number n, which is one more than the value of its digits
pub record IsNumbered (ask : Inquiry) (text : List Symbol) (n : ℕ) : Type 0 where
  pub symbols : AllByRecursion (IsSymbolOf ask) text
  pub number : value (symbol_count ask) (map (digit_of ask) text) + 1 ≡ n

-- the text with the number n is accepted
pub record AcceptedAt (ask : Inquiry) (n : ℕ) : Type 0 where
  pub text : List Symbol
  pub numbered : IsNumbered ask text n
  pub accepted : IsAccepted ask text

-- the relators and the subgroup words are words over the generators of the group
pub record IsOverGenerators (ask : Inquiry) : Type 0 where
  pub relators : AllByRecursion (IsOver ask.group.generators) ask.group.relators
  pub subgroup : AllByRecursion (IsOver ask.group.generators) ask.subgroup
