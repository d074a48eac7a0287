-- Which statement a line is, by its first keyword.
use Rattle.std.proofs.Common.{◌≡◌, ◌∙◌, ℕ, Option, List, ◌∷◌, refl}
use Rattle.mg_lex.specs.declared.keyword.Keyword.{Keyword}
use Rattle.mg_lex.specs.declared.keyword.Keyword.TheVariants as keyword
use Rattle.mg_script.specs.declared.form.Printed.{Printed}
use Rattle.mg_script.specs.declared.script.ScriptLine.{ScriptLine}
use Rattle.mg_words.specs.declared.procedure.Procedure.{Procedure}
use Rattle.mg_names.specs.Named.{Named, Word, Relation, Arrow, Question, Statement, group, word, subgroup, mapping, ask, fund, grant, run, cancel, report, IsNamed}
use Rattle.mg_names.specs.Sign.{tail_of, Sign, the_keyword, statement_signs, signs_of, IsReadable}
use Rattle.mg_names.proofs.Signs.{line_signs}

-- the keyword of a statement, and what stands behind it
abbrev pub keyword_of : Statement → Keyword
keyword_of (group n generators rs) = keyword.Group
keyword_of (word n g w) = keyword.Word
keyword_of (subgroup n g ws) = keyword.Subgroup
keyword_of (mapping n a b arrows) = keyword.Map
keyword_of (ask n q) = keyword.Ask
keyword_of (fund units) = keyword.Fund
keyword_of (grant n p units) = keyword.Grant
keyword_of (run bound) = keyword.Run
keyword_of (cancel n p) = keyword.Cancel
keyword_of (report what) = keyword.Report

pub begins : (s : Statement) → statement_signs s ≡ the_keyword (keyword_of s) ∷ tail_of (statement_signs s)
begins (group n generators rs) = refl
begins (word n g w) = refl
begins (subgroup n g ws) = refl
begins (mapping n a b arrows) = refl
begins (ask n q) = refl
begins (fund units) = refl
begins (grant n p units) = refl
begins (run bound) = refl
begins (cancel n p) = refl
begins (report what) = refl

-- what is read first of a line
pub head_read : (line : ScriptLine) (signs new : List Sign) (result : Keyword) (s : Statement) → IsReadable line → IsNamed line s → signs ≡ signs_of line → ((k : Keyword) (rest : List Sign) → signs ≡ the_keyword k ∷ rest → (result ≡ k) × (new ≡ rest))
    → (result ≡ keyword_of s) × (new ≡ tail_of (statement_signs s))
head_read line signs new result s readable named e reads = reads (keyword_of s) (tail_of (statement_signs s)) (e ∙ line_signs line s readable named ∙ begins s)

pub group_only : (P : Statement → Type 0) → ((n : Named) (generators : List Named) (rs : Option (List Relation)) → P (group n generators rs)) → (s : Statement) → keyword_of s ≡ keyword.Group → P s
group_only P one (group n generators rs) e = one n generators rs
group_only P one _ e = absurd cc

pub word_only : (P : Statement → Type 0) → ((n : Named) (g : Named) (w : Word) → P (word n g w)) → (s : Statement) → keyword_of s ≡ keyword.Word → P s
word_only P one (word n g w) e = one n g w
word_only P one _ e = absurd cc

pub subgroup_only : (P : Statement → Type 0) → ((n : Named) (g : Named) (ws : List Word) → P (subgroup n g ws)) → (s : Statement) → keyword_of s ≡ keyword.Subgroup → P s
subgroup_only P one (subgroup n g ws) e = one n g ws
subgroup_only P one _ e = absurd cc

pub mapping_only : (P : Statement → Type 0) → ((n : Named) (a : Named) (b : Named) (arrows : List Arrow) → P (mapping n a b arrows)) → (s : Statement) → keyword_of s ≡ keyword.Map → P s
mapping_only P one (mapping n a b arrows) e = one n a b arrows
mapping_only P one _ e = absurd cc

pub ask_only : (P : Statement → Type 0) → ((n : Named) (q : Question) → P (ask n q)) → (s : Statement) → keyword_of s ≡ keyword.Ask → P s
ask_only P one (ask n q) e = one n q
ask_only P one _ e = absurd cc

pub fund_only : (P : Statement → Type 0) → ((units : ℕ) → P (fund units)) → (s : Statement) → keyword_of s ≡ keyword.Fund → P s
fund_only P one (fund units) e = one units
fund_only P one _ e = absurd cc

pub grant_only : (P : Statement → Type 0) → ((n : Named) (p : Procedure) (units : ℕ) → P (grant n p units)) → (s : Statement) → keyword_of s ≡ keyword.Grant → P s
grant_only P one (grant n p units) e = one n p units
grant_only P one _ e = absurd cc

pub run_only : (P : Statement → Type 0) → ((bound : Option ℕ) → P (run bound)) → (s : Statement) → keyword_of s ≡ keyword.Run → P s
run_only P one (run bound) e = one bound
run_only P one _ e = absurd cc

pub cancel_only : (P : Statement → Type 0) → ((n : Named) (p : Procedure) → P (cancel n p)) → (s : Statement) → keyword_of s ≡ keyword.Cancel → P s
cancel_only P one (cancel n p) e = one n p
cancel_only P one _ e = absurd cc

pub report_only : (P : Statement → Type 0) → ((what : Printed) → P (report what)) → (s : Statement) → keyword_of s ≡ keyword.Report → P s
report_only P one (report what) e = one what
report_only P one _ e = absurd cc

-- a statement begins with one of these keywords
pub one_of_these : (k : Keyword) (s : Statement) → k ≡ keyword_of s → (k ≡ keyword.Group → ⊥) → (k ≡ keyword.Word → ⊥) → (k ≡ keyword.Subgroup → ⊥) → (k ≡ keyword.Map → ⊥) → (k ≡ keyword.Ask → ⊥) → (k ≡ keyword.Fund → ⊥) → (k ≡ keyword.Grant → ⊥) → (k ≡ keyword.Run → ⊥) → (k ≡ keyword.Cancel → ⊥) → (k ≡ keyword.Report → ⊥) → ⊥
one_of_these k (group n generators rs) e h0 h1 h2 h3 h4 h5 h6 h7 h8 h9 = h0 e
one_of_these k (word n g w) e h0 h1 h2 h3 h4 h5 h6 h7 h8 h9 = h1 e
one_of_these k (subgroup n g ws) e h0 h1 h2 h3 h4 h5 h6 h7 h8 h9 = h2 e
one_of_these k (mapping n a b arrows) e h0 h1 h2 h3 h4 h5 h6 h7 h8 h9 = h3 e
one_of_these k (ask n q) e h0 h1 h2 h3 h4 h5 h6 h7 h8 h9 = h4 e
one_of_these k (fund units) e h0 h1 h2 h3 h4 h5 h6 h7 h8 h9 = h5 e
one_of_these k (grant n p units) e h0 h1 h2 h3 h4 h5 h6 h7 h8 h9 = h6 e
one_of_these k (run bound) e h0 h1 h2 h3 h4 h5 h6 h7 h8 h9 = h7 e
one_of_these k (cancel n p) e h0 h1 h2 h3 h4 h5 h6 h7 h8 h9 = h8 e
one_of_these k (report what) e h0 h1 h2 h3 h4 h5 h6 h7 h8 h9 = h9 e
