-- The grammar of statements from left to right: what may stand behind a beginning.
use Rattle.std.specs.Prelude.{◌≡◌, ◌⊎◌, ℕ, Option, Some, None, List, [], ◌∷◌, take}
use Rattle.mg_lex.specs.declared.keyword.Keyword.{Keyword}
use Rattle.mg_lex.specs.declared.keyword.Keyword.TheVariants as keyword
use Rattle.mg_lex.specs.declared.mark.Mark.{Mark}
use Rattle.mg_lex.specs.declared.mark.Mark.TheVariants as mark
use Rattle.mg_terms.specs.declared.lexeme.Lexeme.{Lexeme}
use Rattle.mg_terms.specs.declared.lexeme.Lexeme.TheVariants as lexeme
use Rattle.mg_terms.specs.Word.{Word}
use Rattle.mg_terms.specs.Beginning.{BeginsBase, GoesOn}
use Rattle.mg_words.specs.declared.procedure.Procedure.{Procedure}
use Rattle.mg_script.specs.declared.counted.Counted.{Counted}
use Rattle.mg_script.specs.declared.counted.Counted.TheVariants as counted
use Rattle.mg_script.specs.declared.form.Property.{Property}
use Rattle.mg_script.specs.Statement.{Piece, sign, term, pieces_lexemes, property_keyword, procedure_keyword}

-- a class of lexemes
pub data Class : Type 0 where
  this : Lexeme → Class
  a_number : Class
  a_procedure : Class
  a_property : Class

abbrev pub IsIn : Class → Lexeme → Type 0
IsIn (this y) x = x ≡ y
IsIn a_number x = (n : ℕ) × (x ≡ lexeme.Number n)
IsIn a_procedure x = (p : Procedure) × (x ≡ lexeme.Keyword (procedure_keyword p))
IsIn a_property x = (p : Property) × (x ≡ lexeme.Keyword (property_keyword p))

-- a member of a list: a name, a word, a relation, or an arrow with its name and its word
pub data Item : Type 0 where
  listed_name : Item
  listed_word : Item
  listed_relation : Item
  listed_arrow : Item

-- What may stand behind a beginning: nothing; a lexeme of a class, and what may stand behind that; a word,
-- maybe on the right side of a relation, and what may stand behind that word; one of two, which the next lexeme
-- tells; one of two, which the next two lexemes tell; more members of a list, each behind a comma, and what may stand
-- behind the list.
pub data Rest : Type 0 where
  end : Rest
  sign_then : Option Counted → Class → Rest → Rest
  word_then : Option Counted → (left : Option Word) → (Word → Rest) → Rest
  either : Rest → Rest → Rest
  either_by_two : Rest → Rest → Rest
  more : Item → Rest → Rest

abbrev pub name_then : Rest → Rest
name_then r = sign_then None (this lexeme.Name) r

abbrev pub counted_name_then : Counted → Rest → Rest
counted_name_then k r = sign_then (Some k) (this lexeme.Name) r

abbrev pub mark_then : Mark → Rest → Rest
mark_then m r = sign_then None (this (lexeme.Mark m)) r

abbrev pub keyword_then : Keyword → Rest → Rest
keyword_then k r = sign_then None (this (lexeme.Keyword k)) r

abbrev pub relation_then : Rest → Rest
relation_then r = word_then (Some counted.Relators) None (λ u. either (mark_then mark.Equals (word_then None (Some u) (λ v. r))) r)

abbrev pub item_then : Item → Rest → Rest
item_then listed_name r = counted_name_then counted.Generators r
item_then listed_word r = word_then (Some counted.Members) None (λ w. r)
item_then listed_relation r = relation_then r
item_then listed_arrow r = name_then (mark_then mark.Arrow (word_then None None (λ w. r)))

abbrev pub comma_then : Item → Rest → Rest
comma_then i r = mark_then mark.Comma (item_then i (more i r))

-- a list that may be empty
abbrev pub list_then : Item → Rest → Rest
list_then i r = either (item_then i (more i r)) r

-- the pieces are such a rest
pub data Reads : Rest → List Piece → Type 0 where
  reads_end : Reads end []
  reads_sign : (kind : Option Counted) (c : Class) (r : Rest) (x : Lexeme) (ps : List Piece) → IsIn c x → Reads r ps →
      Reads (sign_then kind c r) (sign kind x ∷ ps)
  reads_word : (kind : Option Counted) (left : Option Word) (f : Word → Rest) (w : Word) (ps : List Piece) → Reads (f w) ps →
      Reads (word_then kind left f) (term kind left w ∷ ps)
  reads_first : (a b : Rest) (ps : List Piece) → Reads a ps → Reads (either a b) ps
  reads_second : (a b : Rest) (ps : List Piece) → Reads b ps → Reads (either a b) ps
  reads_one : (a b : Rest) (ps : List Piece) → Reads a ps → Reads (either_by_two a b) ps
  reads_other : (a b : Rest) (ps : List Piece) → Reads b ps → Reads (either_by_two a b) ps
  reads_more : (i : Item) (r : Rest) (ps : List Piece) → Reads (comma_then i r) ps → Reads (more i r) ps
  reads_last : (i : Item) (r : Rest) (ps : List Piece) → Reads r ps → Reads (more i r) ps

-- with which lexemes a rest begins, and whether it may be nothing
abbrev pub Begins : Rest → Lexeme → Type 0
Begins end x = ⊥
Begins (sign_then kind c r) x = IsIn c x
Begins (word_then kind left f) x = BeginsBase x
Begins (either a b) x = Begins a x ⊎ Begins b x
Begins (either_by_two a b) x = Begins a x ⊎ Begins b x
Begins (more i r) x = (x ≡ lexeme.Mark mark.Comma) ⊎ Begins r x

abbrev pub CanEnd : Rest → Type 0
CanEnd end = Unit {0}
CanEnd (sign_then kind c r) = ⊥
CanEnd (word_then kind left f) = ⊥
CanEnd (either a b) = CanEnd a ⊎ CanEnd b
CanEnd (either_by_two a b) = CanEnd a ⊎ CanEnd b
CanEnd (more i r) = CanEnd r

-- a lexeme behind a list
abbrev pub EndsList : Lexeme → Type 0
EndsList x = (x ≡ lexeme.Mark mark.Greater) ⊎ ((x ≡ lexeme.Mark mark.Bar) ⊎ (x ≡ lexeme.Mark mark.CloseSquare))

-- no lexemes that are read as the one begin with the same two as some that are read as the other
abbrev pub AreApart : Rest → Rest → Type 0
AreApart a b =
    (ps qs : List Piece) → Reads a ps → Reads b qs → take 2 (pieces_lexemes ps) ≡ take 2 (pieces_lexemes qs) → ⊥

-- the next lexeme tells what comes, or the next two do, all the way
abbrev pub Tells : Rest → Type 0
Tells end = Unit {0}
Tells (sign_then kind c r) = Tells r
Tells (word_then kind left f) = (w : Word) → Tells (f w) × ((x : Lexeme) → Begins (f w) x → ¬ GoesOn w x)
Tells (either a b) = Tells a × Tells b × ((x : Lexeme) → Begins a x → Begins b x → ⊥) × (CanEnd a → CanEnd b → ⊥)
Tells (either_by_two a b) = Tells a × Tells b × AreApart a b
Tells (more i r) = Tells r × ((x : Lexeme) → Begins r x → EndsList x) × (¬ CanEnd r)

-- the forms of statements behind their keywords
abbrev pub close_group : Rest
close_group = mark_then mark.Greater end

abbrev pub relations_rest : Rest
relations_rest = list_then listed_relation close_group

abbrev pub bar_rest : Rest
bar_rest = either (mark_then mark.Bar relations_rest) close_group

abbrev pub group_rest : Rest
group_rest = counted_name_then counted.Groups (mark_then mark.Equals (mark_then mark.Less (list_then listed_name bar_rest)))

abbrev pub word_rest : Rest
word_rest = counted_name_then counted.Words (keyword_then keyword.In (name_then (mark_then mark.Equals (word_then None None (λ w. end)))))

abbrev pub subgroup_rest : Rest
subgroup_rest =
    counted_name_then counted.Subgroups (keyword_then keyword.Of (name_then (mark_then mark.Equals (mark_then mark.Less (list_then listed_word close_group)))))

abbrev pub map_rest : Rest
map_rest =
    counted_name_then counted.Maps (mark_then mark.Colon (name_then (mark_then mark.Arrow (name_then (mark_then mark.Equals (mark_then mark.OpenSquare
    (list_then listed_arrow (mark_then mark.CloseSquare end))))))))

abbrev pub in_group : Rest
in_group = keyword_then keyword.In (name_then end)

abbrev pub in_rest : Rest
in_rest = either (name_then end) (keyword_then keyword.Kernel (name_then end))

abbrev pub words_rest : Rest
words_rest =
    either (mark_then mark.Equals (word_then None None (λ v. in_group)))
    (either (keyword_then keyword.In in_rest) (keyword_then keyword.Central in_group))

-- what has a property, and what is asked of words
abbrev pub property_rest : Rest
property_rest = name_then (sign_then None a_property end)

abbrev pub first_word_rest : Rest
first_word_rest = word_then None None (λ w. words_rest)

abbrev pub asked_rest : Rest
asked_rest = either_by_two property_rest first_word_rest

abbrev pub ask_rest : Rest
ask_rest = counted_name_then counted.Questions (mark_then mark.Colon asked_rest)

abbrev pub fund_rest : Rest
fund_rest = sign_then None a_number end

abbrev pub grant_rest : Rest
grant_rest = name_then (sign_then None a_procedure (sign_then None a_number end))

abbrev pub run_rest : Rest
run_rest = either (sign_then None a_number end) end

abbrev pub cancel_rest : Rest
cancel_rest = name_then (sign_then None a_procedure end)

abbrev pub report_rest : Rest
report_rest = either (keyword_then keyword.Facts end) (either (keyword_then keyword.Log end) end)

-- the forms from one on, in order
abbrev pub from_report : Rest
from_report = sign_then (Some counted.Reports) (this (lexeme.Keyword keyword.Report)) report_rest

abbrev pub from_cancel : Rest
from_cancel = either (keyword_then keyword.Cancel cancel_rest) from_report

abbrev pub from_run : Rest
from_run = either (keyword_then keyword.Run run_rest) from_cancel

abbrev pub from_grant : Rest
from_grant = either (keyword_then keyword.Grant grant_rest) from_run

abbrev pub from_fund : Rest
from_fund = either (keyword_then keyword.Fund fund_rest) from_grant

abbrev pub from_ask : Rest
from_ask = either (keyword_then keyword.Ask ask_rest) from_fund

abbrev pub from_map : Rest
from_map = either (keyword_then keyword.Map map_rest) from_ask

abbrev pub from_subgroup : Rest
from_subgroup = either (keyword_then keyword.Subgroup subgroup_rest) from_map

abbrev pub from_word : Rest
from_word = either (keyword_then keyword.Word word_rest) from_subgroup

abbrev pub statement_rest : Rest
statement_rest = either (keyword_then keyword.Group group_rest) from_word
