-- What the members of a list bring.
use Rattle.std.proofs.Common.{◌≡◌, ⊎_elim, List, [], ◌∷◌, refl, ◌∙◌}
use Rattle.mg_terms.specs.declared.lexeme.Lexeme.{Lexeme}
use Rattle.mg_script.specs.declared.reader.Reader.{Reader}
use Rattle.mg_script.specs.Statement.{Piece}
use Rattle.mg_script.specs.Grammar.{Item, listed_name, listed_word, listed_relation, listed_arrow, Rest, either, more, item_then, comma_then, list_then, Begins, CanEnd, reads_first, reads_second, reads_more, reads_last}
use Rattle.mg_script.specs.Reader.{Start, Stand, Knows}
use Rattle.mg_script.specs.Lists.{BeginsRest}
use Rattle.mg_script.proofs.Rests.{either_inv, more_cases}
use Rattle.mg_script.proofs.Unique.{comma_tells, more_split}
use Rattle.mg_script.proofs.Standing.{Misses}
use Rattle.mg_script.proofs.Steps.{ahead_is, knows_first, knows_second}

-- more members are a comma and a member, or what stands behind the list
more_stands : (s : Start) (i : Item) (r : Rest) (done : List Piece) (ahead : List Lexeme) → Stand s (more i r) done ahead → Stand s (either (comma_then i r) r) done ahead
more_stands s i r done ahead stand = record {
  split = stand.split;
  goes_on = λ ps reads. ⊎_elim (λ comma. stand.goes_on ps (reads_more i r ps comma)) (λ last. stand.goes_on ps (reads_last i r ps last)) (either_inv (comma_then i r) r ps reads);
  only = λ qs zs writing e alike.
      let h = stand.only qs zs writing e alike in
      (h.0, h.1, ⊎_elim (λ comma. reads_first (comma_then i r) r h.0 comma) (λ last. reads_second (comma_then i r) r h.0 last) (more_cases i r h.0 h.2));
  tells = let split = more_split i r stand.tells in (comma_tells i r stand.tells, stand.tells.0, split.0, split.1);
  quiet = stand.quiet;
  early = stand.early;
}

pub more_either : (s : Start) (i : Item) (r : Rest) (now : Reader) → Knows s (more i r) now → Knows s (either (comma_then i r) r) now
more_either s i r now knows = record {
  done = knows.done;
  ahead = knows.ahead;
  stand = more_stands s i r knows.done knows.ahead knows.stand;
  lexemes = knows.lexemes;
  place = knows.place;
  adds = knows.adds;
  bounded = knows.bounded;
  within = knows.within;
}

-- a list begins with a member, or it is empty
item_some : (i : Item) (r : Rest) → ¬ CanEnd (item_then i r)
item_some listed_name r none = none
item_some listed_word r none = none
item_some listed_relation r none = none
item_some listed_arrow r none = none

misses_rest : (r : Rest) (zs : List Lexeme) → (¬ CanEnd r) → ((x : Lexeme) (xs : List Lexeme) → zs ≡ x ∷ xs → Begins r x → ⊥) → Misses r zs
misses_rest r [] some other = some
misses_rest r (x ∷ xs) some other = other x xs refl

pub list_begins : (s : Start) (i : Item) (r : Rest) (now : Reader) → Knows s (list_then i r) now → BeginsRest now (item_then i (more i r)) → Knows s (item_then i (more i r)) now
list_begins s i r now knows next = knows_first s (item_then i (more i r)) r now knows next.0 next.1 next.2 next.3

pub list_empty : (s : Start) (i : Item) (r : Rest) (now : Reader) → Knows s (list_then i r) now → ¬ BeginsRest now (item_then i (more i r)) → Knows s r now
list_empty s i r now knows other =
    knows_second s (item_then i (more i r)) r now knows
    (misses_rest (item_then i (more i r)) knows.ahead (item_some i (more i r)) (λ x xs e begins. other (x, xs, ahead_is s (list_then i r) now knows ∙ e, begins)))
