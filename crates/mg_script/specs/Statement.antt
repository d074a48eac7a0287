-- Statements as trees: one case for each production of the grammar.
use Rattle.std.specs.Prelude.{ℕ, zero, suc, Option, Some, None, List, [], ◌∷◌, ◌++◌, map}
use Rattle.mg_lex.specs.declared.keyword.Keyword.{Keyword}
use Rattle.mg_lex.specs.declared.keyword.Keyword.TheVariants as keyword
use Rattle.mg_lex.specs.declared.mark.Mark.{Mark}
use Rattle.mg_lex.specs.declared.mark.Mark.TheVariants as mark
use Rattle.mg_terms.specs.declared.lexeme.Lexeme.{Lexeme}
use Rattle.mg_terms.specs.declared.lexeme.Lexeme.TheVariants as lexeme
use Rattle.mg_terms.specs.Word.{Word, word_lexemes}
use Rattle.mg_words.specs.declared.procedure.Procedure.{Procedure}
use Rattle.mg_words.specs.declared.procedure.Procedure.TheVariants as procedure
use Rattle.mg_script.specs.declared.counted.Counted.{Counted}
use Rattle.mg_script.specs.declared.counted.Counted.TheVariants as counted
use Rattle.mg_script.specs.declared.form.Property.{Property}
use Rattle.mg_script.specs.declared.form.Property.TheVariants as property
use Rattle.mg_script.specs.declared.form.Printed.{Printed}
use Rattle.mg_script.specs.declared.form.Printed.TheVariants as printed

-- a word, or an equation of two
pub data Relation : Type 0 where
  relator : Word → Relation
  equation : Word → Word → Relation

-- whether two words are one in a group, whether a word is in a subgroup, in the kernel of a map or central
-- in a group, or whether what a name stands for has a property
pub data Question : Type 0 where
  equal : Word → Word → Question
  member : Word → Question
  vanishes : Word → Question
  central : Word → Question
  has : Property → Question

-- Names are lexemes without their texts: a group has so many generators, and a map has the words of its
-- arrows. The relations of a group may be left out with their bar.
pub data Statement : Type 0 where
  group : (generators : ℕ) → Option (List Relation) → Statement
  word : Word → Statement
  subgroup : List Word → Statement
  mapping : List Word → Statement
  ask : Question → Statement
  fund : ℕ → Statement
  grant : Procedure → ℕ → Statement
  run : Option ℕ → Statement
  cancel : Procedure → Statement
  report : Printed → Statement

-- What a statement is written of: a lexeme, or a word, and what it is counted as. A word on the right side of
-- a relation that is an equation goes with the word on the left side.
pub data Piece : Type 0 where
  sign : Option Counted → Lexeme → Piece
  term : Option Counted → (left : Option Word) → Word → Piece

abbrev pub piece_lexemes : Piece → List Lexeme
piece_lexemes (sign kind x) = x ∷ []
piece_lexemes (term kind left w) = word_lexemes w

abbrev pub pieces_lexemes : List Piece → List Lexeme
pieces_lexemes [] = []
pieces_lexemes (p ∷ ps) = piece_lexemes p ++ pieces_lexemes ps

-- single pieces
abbrev pub a_name : Piece
a_name = sign None lexeme.Name

-- the name that a statement declares, or that of a generator
abbrev pub counted_name : Counted → Piece
counted_name k = sign (Some k) lexeme.Name

abbrev pub the_mark : Mark → Piece
the_mark m = sign None (lexeme.Mark m)

abbrev pub the_keyword : Keyword → Piece
the_keyword k = sign None (lexeme.Keyword k)

abbrev pub the_number : ℕ → Piece
the_number n = sign None (lexeme.Number n)

abbrev pub a_word : Word → Piece
a_word w = term None None w

abbrev pub counted_word : Counted → Word → Piece
counted_word k w = term (Some k) None w

-- members of a list, with commas between them
abbrev pub listed_on : List (List Piece) → List Piece
listed_on [] = []
listed_on (x ∷ xs) = the_mark mark.Comma ∷ (x ++ listed_on xs)

abbrev pub listed : List (List Piece) → List Piece
listed [] = []
listed (x ∷ xs) = x ++ listed_on xs

abbrev pub generator_names : ℕ → List (List Piece)
generator_names zero = []
generator_names (suc n) = (counted_name counted.Generators ∷ []) ∷ generator_names n

abbrev pub relation_pieces : Relation → List Piece
relation_pieces (relator w) = counted_word counted.Relators w ∷ []
relation_pieces (equation u v) = counted_word counted.Relators u ∷ the_mark mark.Equals ∷ term None (Some u) v ∷ []

abbrev pub member_pieces : Word → List Piece
member_pieces w = counted_word counted.Members w ∷ []

abbrev pub bar_pieces : Option (List Relation) → List Piece
bar_pieces None = []
bar_pieces (Some rs) = the_mark mark.Bar ∷ listed (map relation_pieces rs)

abbrev pub arrow_pieces : Word → List Piece
arrow_pieces w = a_name ∷ the_mark mark.Arrow ∷ a_word w ∷ []

abbrev pub property_keyword : Property → Keyword
property_keyword property.Trivial = keyword.Trivial
property_keyword property.Abelian = keyword.Abelian
property_keyword property.Normal = keyword.Normal
property_keyword property.Extends = keyword.Extends
property_keyword property.Onto = keyword.Onto

abbrev pub procedure_keyword : Procedure → Keyword
procedure_keyword procedure.Derive = keyword.Derive
procedure_keyword procedure.Act = keyword.Act
procedure_keyword procedure.Residue = keyword.Residue
procedure_keyword procedure.Rewrite = keyword.Rewrite
procedure_keyword procedure.Cosets = keyword.Cosets
procedure_keyword procedure.Nielsen = keyword.Nielsen
procedure_keyword procedure.Recall = keyword.Recall

-- how a question is written: what has a property is a name, and no word
abbrev pub question_pieces : Question → List Piece
question_pieces (equal u v) = a_word u ∷ the_mark mark.Equals ∷ a_word v ∷ the_keyword keyword.In ∷ a_name ∷ []
question_pieces (member w) = a_word w ∷ the_keyword keyword.In ∷ a_name ∷ []
question_pieces (vanishes w) = a_word w ∷ the_keyword keyword.In ∷ the_keyword keyword.Kernel ∷ a_name ∷ []
question_pieces (central w) = a_word w ∷ the_keyword keyword.Central ∷ the_keyword keyword.In ∷ a_name ∷ []
question_pieces (has p) = a_name ∷ the_keyword (property_keyword p) ∷ []

abbrev pub bound_pieces : Option ℕ → List Piece
bound_pieces None = []
bound_pieces (Some n) = the_number n ∷ []

abbrev pub printed_pieces : Printed → List Piece
printed_pieces printed.Questions = []
printed_pieces printed.Facts = the_keyword keyword.Facts ∷ []
printed_pieces printed.Log = the_keyword keyword.Log ∷ []

-- how a statement is written
abbrev pub statement_pieces : Statement → List Piece
statement_pieces (group n rs) =
    the_keyword keyword.Group ∷ counted_name counted.Groups ∷ the_mark mark.Equals ∷ the_mark mark.Less ∷
    (listed (generator_names n) ++ (bar_pieces rs ++ the_mark mark.Greater ∷ []))
statement_pieces (word w) =
    the_keyword keyword.Word ∷ counted_name counted.Words ∷ the_keyword keyword.In ∷ a_name ∷ the_mark mark.Equals ∷ a_word w ∷ []
statement_pieces (subgroup ws) =
    the_keyword keyword.Subgroup ∷ counted_name counted.Subgroups ∷ the_keyword keyword.Of ∷ a_name ∷ the_mark mark.Equals ∷ the_mark mark.Less ∷
    (listed (map member_pieces ws) ++ the_mark mark.Greater ∷ [])
statement_pieces (mapping ws) =
    the_keyword keyword.Map ∷ counted_name counted.Maps ∷ the_mark mark.Colon ∷ a_name ∷ the_mark mark.Arrow ∷ a_name ∷ the_mark mark.Equals ∷
    the_mark mark.OpenSquare ∷ (listed (map arrow_pieces ws) ++ the_mark mark.CloseSquare ∷ [])
statement_pieces (ask q) = the_keyword keyword.Ask ∷ counted_name counted.Questions ∷ the_mark mark.Colon ∷ question_pieces q
statement_pieces (fund n) = the_keyword keyword.Fund ∷ the_number n ∷ []
statement_pieces (grant p n) = the_keyword keyword.Grant ∷ a_name ∷ the_keyword (procedure_keyword p) ∷ the_number n ∷ []
statement_pieces (run bound) = the_keyword keyword.Run ∷ bound_pieces bound
statement_pieces (cancel p) = the_keyword keyword.Cancel ∷ a_name ∷ the_keyword (procedure_keyword p) ∷ []
statement_pieces (report p) = sign (Some counted.Reports) (lexeme.Keyword keyword.Report) ∷ printed_pieces p

abbrev pub statement_lexemes : Statement → List Lexeme
statement_lexemes s = pieces_lexemes (statement_pieces s)
