-- What the members of a list are.
use Rattle.std.specs.Prelude.{◌≡◌, List, ◌∷◌, drop}
use Rattle.mg_terms.specs.declared.lexeme.Lexeme.{Lexeme}
use Rattle.mg_script.specs.declared.lists.Member.{Member}
use Rattle.mg_script.specs.declared.lists.Member.TheVariants as member
use Rattle.mg_script.specs.declared.reader.Reader.{Reader}
use Rattle.mg_script.specs.Grammar.{Item, listed_name, listed_word, listed_relation, listed_arrow, Rest, Begins}

abbrev pub item_of : Member → Item
item_of member.Name = listed_name
item_of member.Word = listed_word
item_of member.Relation = listed_relation
item_of member.Arrow = listed_arrow

-- the next lexeme begins the rest
abbrev pub BeginsRest : Reader → Rest → Type 0
BeginsRest now r = (x : Lexeme) × (xs : List Lexeme) × (drop now.place now.lexemes.now ≡ x ∷ xs) × Begins r x
