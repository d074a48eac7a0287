-- Pieces are those of one statement.
use Rattle.std.proofs.Common.{◌≡◌, ◌⊎◌, inl, inr, ⊎_elim, ℕ, zero, suc, Option, Some, None, List, [], ◌∷◌, ◌++◌, refl, sym, ap, subst, ◌∙◌, length, append_assoc}
use Rattle.mg_lex.specs.declared.keyword.Keyword.{Keyword}
use Rattle.mg_lex.specs.declared.keyword.Keyword.TheVariants as keyword
use Rattle.mg_lex.specs.declared.mark.Mark.TheVariants as mark
use Rattle.mg_words.specs.declared.procedure.Procedure.{Procedure}
use Rattle.mg_words.specs.declared.procedure.Procedure.TheVariants as procedure
use Rattle.mg_script.specs.declared.form.Property.{Property}
use Rattle.mg_script.specs.declared.form.Property.TheVariants as property
use Rattle.mg_script.specs.declared.form.Printed.{Printed}
use Rattle.mg_script.specs.declared.form.Printed.TheVariants as printed
use Rattle.mg_script.specs.Statement.{Relation, relator, equation, Question, equal, member, vanishes, central, has, Statement, group, word, subgroup, mapping, ask, fund, grant, run, cancel, report, Piece, term, the_mark, listed, generator_names, relation_pieces, bar_pieces, property_keyword, procedure_keyword, question_pieces, bound_pieces, printed_pieces, statement_pieces, statement_lexemes}
use Rattle.mg_script.specs.Grammar.{Item, listed_name, listed_word, listed_relation, listed_arrow}
use Rattle.mg_script.proofs.Rests.{Value, item_pieces, more_pieces, list_pieces}
use Rattle.mg_script.proofs.Written.{units, names_units}
use Rattle.mg_script.proofs.Unique.{one_writing}

-- what a keyword names
property_named : Keyword → Property
property_named keyword.Abelian = property.Abelian
property_named keyword.Normal = property.Normal
property_named keyword.Extends = property.Extends
property_named keyword.Onto = property.Onto
property_named _ = property.Trivial

property_back : (p : Property) → property_named (property_keyword p) ≡ p
unfolding property_named
property_back property.Trivial = refl
property_back property.Abelian = refl
property_back property.Normal = refl
property_back property.Extends = refl
property_back property.Onto = refl

procedure_named : Keyword → Procedure
procedure_named keyword.Act = procedure.Act
procedure_named keyword.Residue = procedure.Residue
procedure_named keyword.Rewrite = procedure.Rewrite
procedure_named keyword.Cosets = procedure.Cosets
procedure_named keyword.Nielsen = procedure.Nielsen
procedure_named keyword.Recall = procedure.Recall
procedure_named _ = procedure.Derive

procedure_back : (p : Procedure) → procedure_named (procedure_keyword p) ≡ p
unfolding procedure_named
procedure_back procedure.Derive = refl
procedure_back procedure.Act = refl
procedure_back procedure.Residue = refl
procedure_back procedure.Rewrite = refl
procedure_back procedure.Cosets = refl
procedure_back procedure.Nielsen = refl
procedure_back procedure.Recall = refl

one_property : (p q : Property) → property_keyword p ≡ property_keyword q → p ≡ q
one_property p q e = sym (property_back p) ∙ ap property_named e ∙ property_back q

one_procedure : (p q : Procedure) → procedure_keyword p ≡ procedure_keyword q → p ≡ q
one_procedure p q e = sym (procedure_back p) ∙ ap procedure_named e ∙ procedure_back q

-- a list ends before these pieces, or they go on with it
abbrev AreBehind : List Piece → Type 0
AreBehind [] = ⊥
AreBehind (p ∷ ps) = (p ≡ the_mark mark.Greater) ⊎ ((p ≡ the_mark mark.Bar) ⊎ (p ≡ the_mark mark.CloseSquare))

abbrev GoOn : List Piece → Type 0
GoOn [] = ⊥
GoOn (p ∷ ps) = (p ≡ the_mark mark.Comma) ⊎ AreBehind (p ∷ ps)

more_go : (i : Item) (vs : List (Value i)) (ps : List Piece) → AreBehind ps → GoOn (more_pieces i vs ++ ps)
more_go i [] [] behind = behind
more_go i [] (p ∷ ps) behind = inr behind
more_go i (v ∷ vs) ps behind = inl refl

no_equals : (qs : List Piece) → GoOn (the_mark mark.Equals ∷ qs) → ⊥
no_equals qs go = ⊎_elim (λ e. absurd cc) (λ l. ⊎_elim (λ e. absurd cc) (λ m. ⊎_elim (λ e. absurd cc) (λ e. absurd cc) m) l) go

one_relation : (v w : Relation) (ps qs : List Piece) → relation_pieces v ++ ps ≡ relation_pieces w ++ qs → GoOn ps → GoOn qs → (v ≡ w) × (ps ≡ qs)
one_relation (relator u) (relator v) ps qs e first second = (cc, cc)
one_relation (equation u v) (equation u' v') ps qs e first second = (cc, cc)
one_relation (relator u) (equation u' v) ps qs e first second =
    let tails : ps ≡ the_mark mark.Equals ∷ term None (Some u') v ∷ qs = cc in
    absurd (no_equals (term None (Some u') v ∷ qs) (subst GoOn tails first))
one_relation (equation u v) (relator u') ps qs e first second =
    let tails : qs ≡ the_mark mark.Equals ∷ term None (Some u) v ∷ ps = cc in
    absurd (no_equals (term None (Some u) v ∷ ps) (subst GoOn tails second))

one_member : (i : Item) (v w : Value i) (ps qs : List Piece) → item_pieces i v ++ ps ≡ item_pieces i w ++ qs → GoOn ps → GoOn qs → (v ≡ w) × (ps ≡ qs)
one_member listed_name v w ps qs e first second = (refl, cc)
one_member listed_word v w ps qs e first second = (cc, cc)
one_member listed_relation v w ps qs e first second = one_relation v w ps qs e first second
one_member listed_arrow v w ps qs e first second = (cc, cc)

no_comma : (ps qs : List Piece) → AreBehind ps → ps ≡ the_mark mark.Comma ∷ qs → ⊥
no_comma ps qs behind e = ⊎_elim (λ f. absurd cc) (λ m. ⊎_elim (λ f. absurd cc) (λ f. absurd cc) m) (subst AreBehind e behind)

one_more : (i : Item) (vs ws : List (Value i)) (ps qs : List Piece) → more_pieces i vs ++ ps ≡ more_pieces i ws ++ qs → AreBehind ps → AreBehind qs → (vs ≡ ws) × (ps ≡ qs)
one_more i [] [] ps qs e first second = (refl, e)
one_more i [] (w ∷ ws) ps qs e first second = absurd (no_comma ps ((item_pieces i w ++ more_pieces i ws) ++ qs) first e)
one_more i (v ∷ vs) [] ps qs e first second = absurd (no_comma qs ((item_pieces i v ++ more_pieces i vs) ++ ps) second (sym e))
one_more i (v ∷ vs) (w ∷ ws) ps qs e first second =
    let tails : (item_pieces i v ++ more_pieces i vs) ++ ps ≡ (item_pieces i w ++ more_pieces i ws) ++ qs = cc in
    let h = one_member i v w (more_pieces i vs ++ ps) (more_pieces i ws ++ qs)
    (sym (append_assoc (item_pieces i v) (more_pieces i vs) ps) ∙ tails ∙ append_assoc (item_pieces i w) (more_pieces i ws) qs)
    (more_go i vs ps first) (more_go i ws qs second) in
    let k = one_more i vs ws ps qs h.1 first second in
    (ap (λ x. x ∷ vs) h.0 ∙ ap (λ xs. w ∷ xs) k.0, k.1)

-- a member of a list doesn't begin as what stands behind it
no_member : (i : Item) (v : Value i) (ps qs : List Piece) → AreBehind ps → ps ≡ item_pieces i v ++ qs → ⊥
no_member listed_name v ps qs behind e = ⊎_elim (λ f. absurd cc) (λ m. ⊎_elim (λ f. absurd cc) (λ f. absurd cc) m) (subst AreBehind e behind)
no_member listed_word v ps qs behind e = ⊎_elim (λ f. absurd cc) (λ m. ⊎_elim (λ f. absurd cc) (λ f. absurd cc) m) (subst AreBehind e behind)
no_member listed_relation (relator u) ps qs behind e = ⊎_elim (λ f. absurd cc) (λ m. ⊎_elim (λ f. absurd cc) (λ f. absurd cc) m) (subst AreBehind e behind)
no_member listed_relation (equation u v) ps qs behind e = ⊎_elim (λ f. absurd cc) (λ m. ⊎_elim (λ f. absurd cc) (λ f. absurd cc) m) (subst AreBehind e behind)
no_member listed_arrow v ps qs behind e = ⊎_elim (λ f. absurd cc) (λ m. ⊎_elim (λ f. absurd cc) (λ f. absurd cc) m) (subst AreBehind e behind)

one_list : (i : Item) (vs ws : List (Value i)) (ps qs : List Piece) → list_pieces i vs ++ ps ≡ list_pieces i ws ++ qs → AreBehind ps → AreBehind qs → (vs ≡ ws) × (ps ≡ qs)
one_list i [] [] ps qs e first second = (refl, e)
one_list i [] (w ∷ ws) ps qs e first second = absurd (no_member i w ps (more_pieces i ws ++ qs) first (e ∙ append_assoc (item_pieces i w) (more_pieces i ws) qs))
one_list i (v ∷ vs) [] ps qs e first second = absurd (no_member i v qs (more_pieces i vs ++ ps) second (sym e ∙ append_assoc (item_pieces i v) (more_pieces i vs) ps))
one_list i (v ∷ vs) (w ∷ ws) ps qs e first second =
    let h = one_member i v w (more_pieces i vs ++ ps) (more_pieces i ws ++ qs)
    (sym (append_assoc (item_pieces i v) (more_pieces i vs) ps) ∙ e ∙ append_assoc (item_pieces i w) (more_pieces i ws) qs)
    (more_go i vs ps first) (more_go i ws qs second) in
    let k = one_more i vs ws ps qs h.1 first second in
    (ap (λ x. x ∷ vs) h.0 ∙ ap (λ xs. w ∷ xs) k.0, k.1)

-- groups
units_length : (n : ℕ) → length (units n) ≡ n
units_length zero = refl
units_length (suc n) = ap (λ k. suc k) (units_length n)

bar_behind : (rs : Option (List Relation)) → AreBehind (bar_pieces rs ++ the_mark mark.Greater ∷ [])
bar_behind None = inl refl
bar_behind (Some rs) = inr (inl refl)

one_bar : (rs ss : Option (List Relation)) → bar_pieces rs ++ the_mark mark.Greater ∷ [] ≡ bar_pieces ss ++ the_mark mark.Greater ∷ [] → rs ≡ ss
one_bar None None e = refl
one_bar None (Some ss) e = absurd cc
one_bar (Some rs) None e = absurd cc
one_bar (Some rs) (Some ss) e =
    let tails : list_pieces listed_relation rs ++ the_mark mark.Greater ∷ [] ≡ list_pieces listed_relation ss ++ the_mark mark.Greater ∷ [] = cc in
    ap (λ vs. Some vs) (one_list listed_relation rs ss (the_mark mark.Greater ∷ []) (the_mark mark.Greater ∷ []) tails (inl refl) (inl refl)).0

one_group : (m n : ℕ) (rs ss : Option (List Relation)) → listed (generator_names m) ++ (bar_pieces rs ++ the_mark mark.Greater ∷ []) ≡ listed (generator_names n) ++ (bar_pieces ss ++ the_mark mark.Greater ∷ []) → group m rs ≡ group n ss
one_group m n rs ss e =
    let h = one_list listed_name (units m) (units n) (bar_pieces rs ++ the_mark mark.Greater ∷ []) (bar_pieces ss ++ the_mark mark.Greater ∷ [])
    (ap (λ ms. listed ms ++ (bar_pieces rs ++ the_mark mark.Greater ∷ [])) (names_units m) ∙ e ∙ ap (λ ms. listed ms ++ (bar_pieces ss ++ the_mark mark.Greater ∷ [])) (sym (names_units n)))
    (bar_behind rs) (bar_behind ss) in
    ap (λ k. group k rs) (sym (units_length m) ∙ ap length h.0 ∙ units_length n) ∙ ap (λ ts. group n ts) (one_bar rs ss h.1)

-- questions and what may be left out
one_question : (p q : Question) → question_pieces p ≡ question_pieces q → p ≡ q
one_question (equal u v) (equal u' v') e = cc
one_question (member w) (member w') e = cc
one_question (vanishes w) (vanishes w') e = cc
one_question (central w) (central w') e = cc
one_question (has p) (has q) e = ap (λ r. has r) (one_property p q cc)
one_question _ _ e = absurd cc

one_bound : (m n : Option ℕ) → bound_pieces m ≡ bound_pieces n → m ≡ n
one_bound None None e = refl
one_bound (Some m) (Some n) e = cc
one_bound _ _ e = absurd cc

one_printed : (p q : Printed) → printed_pieces p ≡ printed_pieces q → p ≡ q
one_printed printed.Questions printed.Questions e = refl
one_printed printed.Facts printed.Facts e = refl
one_printed printed.Log printed.Log e = refl
one_printed _ _ e = absurd cc

one_tree : (s t : Statement) → statement_pieces s ≡ statement_pieces t → s ≡ t
one_tree (group m rs) (group n ss) e = one_group m n rs ss cc
one_tree (word v) (word w) e = cc
one_tree (subgroup vs) (subgroup ws) e =
    let tails : list_pieces listed_word vs ++ the_mark mark.Greater ∷ [] ≡ list_pieces listed_word ws ++ the_mark mark.Greater ∷ [] = cc in
    ap (λ us. subgroup us) (one_list listed_word vs ws (the_mark mark.Greater ∷ []) (the_mark mark.Greater ∷ []) tails (inl refl) (inl refl)).0
one_tree (mapping vs) (mapping ws) e =
    let tails : list_pieces listed_arrow vs ++ the_mark mark.CloseSquare ∷ [] ≡ list_pieces listed_arrow ws ++ the_mark mark.CloseSquare ∷ [] = cc in
    ap (λ us. mapping us) (one_list listed_arrow vs ws (the_mark mark.CloseSquare ∷ []) (the_mark mark.CloseSquare ∷ []) tails (inr (inr refl)) (inr (inr refl))).0
one_tree (ask p) (ask q) e = ap (λ r. ask r) (one_question p q (let tails : question_pieces p ≡ question_pieces q = cc in tails))
one_tree (fund m) (fund n) e = cc
one_tree (grant p m) (grant q n) e =
    let numbers : m ≡ n = cc in
    ap (λ r. grant r m) (one_procedure p q cc) ∙ ap (λ k. grant q k) numbers
one_tree (run m) (run n) e = ap (λ b. run b) (one_bound m n cc)
one_tree (cancel p) (cancel q) e = ap (λ r. cancel r) (one_procedure p q cc)
one_tree (report p) (report q) e = ap (λ r. report r) (one_printed p q cc)
one_tree _ _ e = absurd cc

pub one_statement : (s t : Statement) → statement_lexemes s ≡ statement_lexemes t → s ≡ t
one_statement s t e = one_tree s t (one_writing s t e)
