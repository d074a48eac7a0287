-- Statements with the names that stand in them.
use Rattle.std.specs.Prelude.{◌≡◌, ℕ, Bool, Option, Some, None, List, [], ◌∷◌, ◌++◌, length, map}
use Rattle.std.specs.List.{flat_map}
use Rattle.mg_lex.specs.declared.token.Token.{Token}
use Rattle.mg_lex.specs.Line.{token_bytes}
use Rattle.mg_terms.specs.declared.lexeme.Lexeme.{Lexeme}
use Rattle.mg_terms.specs.declared.lexeme.Lexeme.TheVariants as lexeme
use Rattle.mg_terms.specs.Word as tree
use Rattle.mg_words.specs.declared.procedure.Procedure.{Procedure}
use Rattle.mg_script.specs.declared.form.Property.{Property}
use Rattle.mg_script.specs.declared.form.Printed.{Printed}
use Rattle.mg_script.specs.declared.script.ScriptLine.{ScriptLine}
use Rattle.mg_script.specs.Statement as grammar

-- a name, and its place in the line, from 0
pub record Named : Type 0 where
  pub text : List ℕ
  pub place : ℕ

mutual
  pub data Base : Type 0 where
    named : Named → Base
    one : Base
    round : Word → Base
    commutator : Word → Word → Base

  pub data Factor : Type 0 where
    bare : Base → Factor
    power : Base → (negative : Bool) → (exponent : ℕ) → Factor

  pub data Word : Type 0 where
    single : Factor → Word
    times : Word → (star : Bool) → Factor → Word

pub data Relation : Type 0 where
  relator : Word → Relation
  equation : Word → Word → Relation

pub record Arrow : Type 0 where
  pub generator : Named
  pub image : Word

-- with the group, the subgroup or the map that a question is about
pub data Question : Type 0 where
  equal : Word → Word → (group : Named) → Question
  member : Word → (subgroup : Named) → Question
  vanishes : Word → (mapping : Named) → Question
  central : Word → (group : Named) → Question
  has : (subject : Named) → Property → Question

-- each with the name that it declares, or that of its question
pub data Statement : Type 0 where
  group : Named → (generators : List Named) → Option (List Relation) → Statement
  word : Named → (group : Named) → Word → Statement
  subgroup : Named → (group : Named) → List Word → Statement
  mapping : Named → (source target : Named) → List Arrow → Statement
  ask : Named → Question → Statement
  fund : ℕ → Statement
  grant : Named → Procedure → ℕ → Statement
  run : Option ℕ → Statement
  cancel : Named → Procedure → Statement
  report : Printed → Statement

-- the same without names
abbrev mutual
  pub plain_base : Base → tree.Base
  plain_base (named n) = tree.name
  plain_base one = tree.one
  plain_base (round w) = tree.round (plain_word w)
  plain_base (commutator u v) = tree.commutator (plain_word u) (plain_word v)

  pub plain_factor : Factor → tree.Factor
  plain_factor (bare b) = tree.bare (plain_base b)
  plain_factor (power b negative n) = tree.power (plain_base b) negative n

  pub plain_word : Word → tree.Word
  plain_word (single f) = tree.single (plain_factor f)
  plain_word (times w star f) = tree.times (plain_word w) star (plain_factor f)

abbrev pub plain_relation : Relation → grammar.Relation
plain_relation (relator w) = grammar.relator (plain_word w)
plain_relation (equation u v) = grammar.equation (plain_word u) (plain_word v)

abbrev pub plain_bar : Option (List Relation) → Option (List grammar.Relation)
plain_bar None = None
plain_bar (Some rs) = Some (map plain_relation rs)

abbrev pub plain_question : Question → grammar.Question
plain_question (equal u v g) = grammar.equal (plain_word u) (plain_word v)
plain_question (member w h) = grammar.member (plain_word w)
plain_question (vanishes w f) = grammar.vanishes (plain_word w)
plain_question (central w g) = grammar.central (plain_word w)
plain_question (has n p) = grammar.has p

abbrev pub plain_statement : Statement → grammar.Statement
plain_statement (group n generators rs) = grammar.group (length generators) (plain_bar rs)
plain_statement (word n g w) = grammar.word (plain_word w)
plain_statement (subgroup n g ws) = grammar.subgroup (map plain_word ws)
plain_statement (mapping n source target arrows) = grammar.mapping (map (λ a. plain_word a.image) arrows)
plain_statement (ask n q) = grammar.ask (plain_question q)
plain_statement (fund units) = grammar.fund units
plain_statement (grant n p units) = grammar.grant p units
plain_statement (run bound) = grammar.run bound
plain_statement (cancel n p) = grammar.cancel p
plain_statement (report what) = grammar.report what

-- the names, in the order in which they stand
abbrev mutual
  pub base_names : Base → List Named
  base_names (named n) = n ∷ []
  base_names one = []
  base_names (round w) = word_names w
  base_names (commutator u v) = word_names u ++ word_names v

  pub factor_names : Factor → List Named
  factor_names (bare b) = base_names b
  factor_names (power b negative n) = base_names b

  pub word_names : Word → List Named
  word_names (single f) = factor_names f
  word_names (times w star f) = word_names w ++ factor_names f

abbrev pub relation_names : Relation → List Named
relation_names (relator w) = word_names w
relation_names (equation u v) = word_names u ++ word_names v

abbrev pub bar_names : Option (List Relation) → List Named
bar_names None = []
bar_names (Some rs) = flat_map relation_names rs

abbrev pub question_names : Question → List Named
question_names (equal u v g) = word_names u ++ (word_names v ++ g ∷ [])
question_names (member w h) = word_names w ++ h ∷ []
question_names (vanishes w f) = word_names w ++ f ∷ []
question_names (central w g) = word_names w ++ g ∷ []
question_names (has n p) = n ∷ []

abbrev pub statement_names : Statement → List Named
statement_names (group n generators rs) = n ∷ (generators ++ bar_names rs)
statement_names (word n g w) = n ∷ g ∷ word_names w
statement_names (subgroup n g ws) = n ∷ g ∷ flat_map word_names ws
statement_names (mapping n source target arrows) = n ∷ source ∷ target ∷ flat_map (λ a. a.generator ∷ word_names a.image) arrows
statement_names (ask n q) = n ∷ question_names q
statement_names (fund units) = []
statement_names (grant n p units) = n ∷ []
statement_names (run bound) = []
statement_names (cancel n p) = n ∷ []
statement_names (report what) = []

-- the names of a line, given its bytes, tokens and lexemes
abbrev pub names_in : List ℕ → List Token → List Lexeme → List Named
names_in bytes (t ∷ ts) (lexeme.Name ∷ xs) = record { text = token_bytes bytes t; place = t.start } ∷ names_in bytes ts xs
names_in bytes (t ∷ ts) (x ∷ xs) = names_in bytes ts xs
names_in bytes ts xs = []

-- the line is this statement, with its names
pub record IsNamed (line : ScriptLine) (s : Statement) : Type 0 where
  pub written : grammar.statement_lexemes (plain_statement s) ≡ line.lexemes
  pub names : statement_names s ≡ names_in line.bytes line.tokens line.lexemes
