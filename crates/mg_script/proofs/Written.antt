-- The pieces of statements are what the grammar reads from left to right, and no others are.
use Rattle.std.proofs.Common.{◌≡◌, ⊎_elim, ℕ, zero, suc, Option, Some, None, List, [], ◌∷◌, ◌++◌, map, refl, sym, ap, subst, ◌∙◌, length}
use Rattle.mg_lex.specs.declared.keyword.Keyword.{Keyword}
use Rattle.mg_lex.specs.declared.keyword.Keyword.TheVariants as keyword
use Rattle.mg_lex.specs.declared.mark.Mark.{Mark}
use Rattle.mg_lex.specs.declared.mark.Mark.TheVariants as mark
use Rattle.mg_terms.specs.declared.lexeme.Lexeme.TheVariants as lexeme
use Rattle.mg_terms.specs.Word.{Word}
use Rattle.mg_words.specs.declared.procedure.Procedure.{Procedure}
use Rattle.mg_script.specs.declared.counted.Counted.{Counted}
use Rattle.mg_script.specs.declared.counted.Counted.TheVariants as counted
use Rattle.mg_script.specs.declared.form.Printed.{Printed}
use Rattle.mg_script.specs.declared.form.Printed.TheVariants as printed
use Rattle.mg_script.specs.Statement.{Relation, Question, equal, member, vanishes, central, has, Statement, group, word, subgroup, mapping, ask, fund, grant, run, cancel, report, Piece, sign, a_name, counted_name, a_word, the_mark, the_keyword, the_number, listed, generator_names, bar_pieces, property_keyword, procedure_keyword, question_pieces, bound_pieces, printed_pieces, statement_pieces}
use Rattle.mg_script.specs.Grammar.{listed_name, listed_word, listed_relation, listed_arrow, this, a_number, a_procedure, a_property, Rest, end, sign_then, word_then, either, name_then, counted_name_then, mark_then, keyword_then, list_then, Reads, reads_end, reads_sign, reads_word, reads_first, reads_second, reads_one, reads_other, property_rest, first_word_rest, close_group, relations_rest, bar_rest, group_rest, word_rest, subgroup_rest, map_rest, in_group, in_rest, words_rest, asked_rest, ask_rest, fund_rest, grant_rest, run_rest, cancel_rest, report_rest, statement_rest}
use Rattle.mg_script.proofs.Rests.{end_inv, sign_inv, this_inv, word_inv, either_inv, by_two_inv, reads_this, list_reads, list_inv, item_pieces}

-- a statement behind its keyword
name_reads : (r : Rest) (ps : List Piece) → Reads r ps → Reads (name_then r) (a_name ∷ ps)
name_reads r ps reads = reads_this None lexeme.Name r ps reads

counted_reads : (k : Counted) (r : Rest) (ps : List Piece) → Reads r ps → Reads (counted_name_then k r) (counted_name k ∷ ps)
counted_reads k r ps reads = reads_this (Some k) lexeme.Name r ps reads

mark_reads : (m : Mark) (r : Rest) (ps : List Piece) → Reads r ps → Reads (mark_then m r) (the_mark m ∷ ps)
mark_reads m r ps reads = reads_this None (lexeme.Mark m) r ps reads

keyword_reads : (k : Keyword) (r : Rest) (ps : List Piece) → Reads r ps → Reads (keyword_then k r) (the_keyword k ∷ ps)
keyword_reads k r ps reads = reads_this None (lexeme.Keyword k) r ps reads

number_reads : (n : ℕ) (r : Rest) (ps : List Piece) → Reads r ps → Reads (sign_then None a_number r) (the_number n ∷ ps)
number_reads n r ps reads = reads_sign None a_number r (lexeme.Number n) ps (n, refl) reads

procedure_reads : (p : Procedure) (r : Rest) (ps : List Piece) → Reads r ps → Reads (sign_then None a_procedure r) (the_keyword (procedure_keyword p) ∷ ps)
procedure_reads p r ps reads = reads_sign None a_procedure r (lexeme.Keyword (procedure_keyword p)) ps (p, refl) reads

abbrev pub units : ℕ → List (Unit {0})
units zero = []
units (suc n) = tt ∷ units n

pub names_units : (n : ℕ) → map (item_pieces listed_name) (units n) ≡ generator_names n
names_units zero = refl
names_units (suc n) = ap (λ xs. (counted_name counted.Generators ∷ []) ∷ xs) (names_units n)

bar_reads : (rs : Option (List Relation)) → Reads bar_rest (bar_pieces rs ++ the_mark mark.Greater ∷ [])
bar_reads None = reads_second _ _ _ (mark_reads mark.Greater end [] reads_end)
bar_reads (Some rs) =
    reads_first _ _ _ (mark_reads mark.Bar relations_rest _ (list_reads listed_relation rs close_group _ (mark_reads mark.Greater end [] reads_end)))

in_reads : Reads in_group (the_keyword keyword.In ∷ a_name ∷ [])
in_reads = keyword_reads keyword.In _ _ (name_reads end [] reads_end)

first_reads : (w : Word) (ps : List Piece) → Reads words_rest ps → Reads asked_rest (a_word w ∷ ps)
first_reads w ps reads = reads_other property_rest first_word_rest _ (reads_word None None (λ v. words_rest) w ps reads)

question_reads : (q : Question) → Reads asked_rest (question_pieces q)
question_reads (equal u v) = first_reads u _ (reads_first _ _ _ (mark_reads mark.Equals _ _ (reads_word None None (λ w. in_group) v _ in_reads)))
question_reads (member w) = first_reads w _ (reads_second _ _ _ (reads_first _ _ _ (keyword_reads keyword.In in_rest _ (reads_first _ _ _ (name_reads end [] reads_end)))))
question_reads (vanishes w) = first_reads w _ (reads_second _ _ _ (reads_first _ _ _ (keyword_reads keyword.In in_rest _ (reads_second _ _ _ (keyword_reads keyword.Kernel _ _ (name_reads end [] reads_end))))))
question_reads (central w) = first_reads w _ (reads_second _ _ _ (reads_second _ _ _ (keyword_reads keyword.Central _ _ in_reads)))
question_reads (has p) = reads_one property_rest first_word_rest _ (name_reads _ _ (reads_sign None a_property end (lexeme.Keyword (property_keyword p)) [] (p, refl) reads_end))

bound_reads : (bound : Option ℕ) → Reads run_rest (bound_pieces bound)
bound_reads None = reads_second _ _ _ reads_end
bound_reads (Some n) = reads_first _ _ _ (number_reads n end [] reads_end)

printed_reads : (p : Printed) → Reads report_rest (printed_pieces p)
printed_reads printed.Questions = reads_second _ _ _ (reads_second _ _ _ reads_end)
printed_reads printed.Facts = reads_first _ _ _ (keyword_reads keyword.Facts end [] reads_end)
printed_reads printed.Log = reads_second _ _ _ (reads_first _ _ _ (keyword_reads keyword.Log end [] reads_end))

group_reads : (n : ℕ) (rs : Option (List Relation)) → Reads group_rest (counted_name counted.Groups ∷ the_mark mark.Equals ∷ the_mark mark.Less ∷ (listed (generator_names n) ++ (bar_pieces rs ++ the_mark mark.Greater ∷ [])))
group_reads n rs =
    counted_reads _ _ _ (mark_reads mark.Equals _ _ (mark_reads mark.Less _ _
    (subst (λ ms. Reads (list_then listed_name bar_rest) (listed ms ++ (bar_pieces rs ++ the_mark mark.Greater ∷ []))) (names_units n)
    (list_reads listed_name (units n) bar_rest _ (bar_reads rs)))))

-- the pieces of a statement are read
pub written : (s : Statement) → Reads statement_rest (statement_pieces s)
written (group n rs) = reads_first _ _ _ (keyword_reads keyword.Group _ _ (group_reads n rs))
written (word w) = reads_second _ _ _ (reads_first _ _ _ (keyword_reads keyword.Word _ _ (counted_reads _ _ _ (keyword_reads keyword.In _ _ (name_reads _ _ (mark_reads mark.Equals _ _ (reads_word None None (λ u. end) w [] reads_end)))))))
written (subgroup ws) =
    reads_second _ _ _ (reads_second _ _ _ (reads_first _ _ _ (keyword_reads keyword.Subgroup _ _ (counted_reads _ _ _ (keyword_reads keyword.Of _ _ (name_reads _ _ (mark_reads mark.Equals _ _ (mark_reads mark.Less _ _
    (list_reads listed_word ws close_group _ (mark_reads mark.Greater end [] reads_end))))))))))
written (mapping ws) =
    reads_second _ _ _ (reads_second _ _ _ (reads_second _ _ _ (reads_first _ _ _ (keyword_reads keyword.Map _ _ (counted_reads _ _ _ (mark_reads mark.Colon _ _ (name_reads _ _ (mark_reads mark.Arrow _ _ (name_reads _ _ (mark_reads mark.Equals _ _ (mark_reads mark.OpenSquare _ _
    (list_reads listed_arrow ws (mark_then mark.CloseSquare end) _ (mark_reads mark.CloseSquare end [] reads_end)))))))))))))
written (ask q) = reads_second _ _ _ (reads_second _ _ _ (reads_second _ _ _ (reads_second _ _ _ (reads_first _ _ _ (keyword_reads keyword.Ask _ _ (counted_reads _ _ _ (mark_reads mark.Colon _ _ (question_reads q))))))))
written (fund n) = reads_second _ _ _ (reads_second _ _ _ (reads_second _ _ _ (reads_second _ _ _ (reads_second _ _ _ (reads_first _ _ _ (keyword_reads keyword.Fund _ _ (number_reads n end [] reads_end)))))))
written (grant p n) = reads_second _ _ _ (reads_second _ _ _ (reads_second _ _ _ (reads_second _ _ _ (reads_second _ _ _ (reads_second _ _ _ (reads_first _ _ _ (keyword_reads keyword.Grant _ _ (name_reads _ _ (procedure_reads p _ _ (number_reads n end [] reads_end))))))))))
written (run bound) = reads_second _ _ _ (reads_second _ _ _ (reads_second _ _ _ (reads_second _ _ _ (reads_second _ _ _ (reads_second _ _ _ (reads_second _ _ _ (reads_first _ _ _ (keyword_reads keyword.Run _ _ (bound_reads bound)))))))))
written (cancel p) = reads_second _ _ _ (reads_second _ _ _ (reads_second _ _ _ (reads_second _ _ _ (reads_second _ _ _ (reads_second _ _ _ (reads_second _ _ _ (reads_second _ _ _ (reads_first _ _ _ (keyword_reads keyword.Cancel _ _ (name_reads _ _ (procedure_reads p end [] reads_end)))))))))))
written (report p) = reads_second _ _ _ (reads_second _ _ _ (reads_second _ _ _ (reads_second _ _ _ (reads_second _ _ _ (reads_second _ _ _ (reads_second _ _ _ (reads_second _ _ _ (reads_second _ _ _ (reads_this (Some counted.Reports) (lexeme.Keyword keyword.Report) _ _ (printed_reads p))))))))))

-- and back
abbrev pub IsOf : (Statement → List Piece) → List Piece → Type 0
IsOf write ps = (s : Statement) × (write s ≡ ps)

abbrev pub IsTree : List Piece → Type 0
IsTree ps = (s : Statement) × (statement_pieces s ≡ ps)

-- a keyword at the front
named : (k : Keyword) (r : Rest) (ps : List Piece) → Reads (keyword_then k r) ps → ((qs : List Piece) → Reads r qs → IsTree (the_keyword k ∷ qs)) → IsTree ps
named k r ps reads behind = let h = this_inv _ (lexeme.Keyword k) r ps reads in subst IsTree (sym h.1) (behind h.0 h.2)

names_length : (us : List (Unit {0})) → map (item_pieces listed_name) us ≡ generator_names (length us)
names_length [] = refl
names_length (u ∷ us) = ap (λ xs. (counted_name counted.Generators ∷ []) ∷ xs) (names_length us)

close_inv : (m : Mark) (ps : List Piece) → Reads (mark_then m end) ps → the_mark m ∷ [] ≡ ps
close_inv m ps reads = let h = this_inv _ (lexeme.Mark m) end ps reads in cc (h.1, end_inv h.0 h.2)

bar_inv : (ps : List Piece) → Reads bar_rest ps → (rs : Option (List Relation)) × (bar_pieces rs ++ the_mark mark.Greater ∷ [] ≡ ps)
bar_inv ps reads =
    ⊎_elim (λ bar.
    let h = this_inv _ (lexeme.Mark mark.Bar) relations_rest ps bar in
    let k = list_inv listed_relation close_group h.0 h.2 in
    (Some k.values, cc (h.1, k.split, close_inv mark.Greater k.others k.reads)))
    (λ last. (None, close_inv mark.Greater ps last))
    (either_inv (mark_then mark.Bar relations_rest) close_group ps reads)

group_inv : (ps : List Piece) → Reads group_rest ps → IsTree (the_keyword keyword.Group ∷ ps)
group_inv ps reads =
    let a = this_inv _ lexeme.Name _ ps reads in
    let b = this_inv _ (lexeme.Mark mark.Equals) _ a.0 a.2 in
    let d = this_inv _ (lexeme.Mark mark.Less) _ b.0 b.2 in
    let k = list_inv listed_name bar_rest d.0 d.2 in
    let l = bar_inv k.others k.reads in
    let listing : listed (map (item_pieces listed_name) k.values) ≡ listed (generator_names (length k.values)) = ap listed (names_length k.values) in
    (group (length k.values) l.0, cc (a.1, b.1, d.1, k.split, l.1, listing))

word_statement_inv : (ps : List Piece) → Reads word_rest ps → IsTree (the_keyword keyword.Word ∷ ps)
word_statement_inv ps reads =
    let a = this_inv _ lexeme.Name _ ps reads in
    let b = this_inv _ (lexeme.Keyword keyword.In) _ a.0 a.2 in
    let d = this_inv _ lexeme.Name _ b.0 b.2 in
    let e = this_inv _ (lexeme.Mark mark.Equals) _ d.0 d.2 in
    let w = word_inv None None (λ w. end) e.0 e.2 in
    (word w.word, cc (a.1, b.1, d.1, e.1, w.split, end_inv w.others w.reads))

subgroup_inv : (ps : List Piece) → Reads subgroup_rest ps → IsTree (the_keyword keyword.Subgroup ∷ ps)
subgroup_inv ps reads =
    let a = this_inv _ lexeme.Name _ ps reads in
    let b = this_inv _ (lexeme.Keyword keyword.Of) _ a.0 a.2 in
    let d = this_inv _ lexeme.Name _ b.0 b.2 in
    let e = this_inv _ (lexeme.Mark mark.Equals) _ d.0 d.2 in
    let f = this_inv _ (lexeme.Mark mark.Less) _ e.0 e.2 in
    let k = list_inv listed_word close_group f.0 f.2 in
    (subgroup k.values, cc (a.1, b.1, d.1, e.1, f.1, k.split, close_inv mark.Greater k.others k.reads))

map_inv : (ps : List Piece) → Reads map_rest ps → IsTree (the_keyword keyword.Map ∷ ps)
map_inv ps reads =
    let a = this_inv _ lexeme.Name _ ps reads in
    let b = this_inv _ (lexeme.Mark mark.Colon) _ a.0 a.2 in
    let d = this_inv _ lexeme.Name _ b.0 b.2 in
    let e = this_inv _ (lexeme.Mark mark.Arrow) _ d.0 d.2 in
    let f = this_inv _ lexeme.Name _ e.0 e.2 in
    let g = this_inv _ (lexeme.Mark mark.Equals) _ f.0 f.2 in
    let h = this_inv _ (lexeme.Mark mark.OpenSquare) _ g.0 g.2 in
    let k = list_inv listed_arrow (mark_then mark.CloseSquare end) h.0 h.2 in
    (mapping k.values, cc (a.1, b.1, d.1, e.1, f.1, g.1, h.1, k.split, close_inv mark.CloseSquare k.others k.reads))

last_name : (ps : List Piece) → Reads (name_then end) ps → ps ≡ a_name ∷ []
last_name ps reads = let h = this_inv _ lexeme.Name end ps reads in cc (h.1, end_inv h.0 h.2)

in_inv : (ps : List Piece) → Reads in_group ps → ps ≡ the_keyword keyword.In ∷ a_name ∷ []
in_inv ps reads = let h = this_inv _ (lexeme.Keyword keyword.In) (name_then end) ps reads in cc (h.1, last_name h.0 h.2)

abbrev pub IsQuestion : List Piece → Type 0
IsQuestion ps = (q : Question) × (question_pieces q ≡ ps)

words_inv : (w : Word) (ps : List Piece) → Reads words_rest ps → IsQuestion (a_word w ∷ ps)
words_inv w ps reads =
    ⊎_elim (λ equals.
    let h = this_inv _ (lexeme.Mark mark.Equals) _ ps equals in
    let k = word_inv None None (λ v. in_group) h.0 h.2 in
    (equal w k.word, cc (h.1, k.split, in_inv k.others k.reads)))
    (λ other. ⊎_elim (λ within.
    let h = this_inv _ (lexeme.Keyword keyword.In) in_rest ps within in
    ⊎_elim (λ last. (member w, cc (h.1, last_name h.0 last)))
    (λ kernel. let k = this_inv _ (lexeme.Keyword keyword.Kernel) (name_then end) h.0 kernel in (vanishes w, cc (h.1, k.1, last_name k.0 k.2)))
    (either_inv (name_then end) (keyword_then keyword.Kernel (name_then end)) h.0 h.2))
    (λ centre. let h = this_inv _ (lexeme.Keyword keyword.Central) in_group ps centre in (central w, cc (h.1, in_inv h.0 h.2)))
    (either_inv (keyword_then keyword.In in_rest) (keyword_then keyword.Central in_group) ps other))
    (either_inv (mark_then mark.Equals (word_then None None (λ v. in_group))) _ ps reads)

asked_inv : (ps : List Piece) → Reads asked_rest ps → IsQuestion ps
asked_inv ps reads =
    ⊎_elim (λ property.
    let h = this_inv _ lexeme.Name (sign_then None a_property end) ps property in
    let k = sign_inv _ a_property end h.0 h.2 in
    (has k.in_class.0, cc (h.1, k.split, k.in_class.1, end_inv k.others k.reads)))
    (λ words. let w = word_inv None None (λ v. words_rest) ps words in let q = words_inv w.word w.others w.reads in (q.0, q.1 ∙ sym w.split))
    (by_two_inv property_rest first_word_rest ps reads)

ask_inv : (ps : List Piece) → Reads ask_rest ps → IsTree (the_keyword keyword.Ask ∷ ps)
ask_inv ps reads =
    let a = this_inv _ lexeme.Name _ ps reads in
    let b = this_inv _ (lexeme.Mark mark.Colon) _ a.0 a.2 in
    let q = asked_inv b.0 b.2 in
    (ask q.0, cc (a.1, b.1, q.1))

number_inv : (ps : List Piece) → Reads (sign_then None a_number end) ps → (n : ℕ) × (the_number n ∷ [] ≡ ps)
number_inv ps reads = let h = sign_inv _ a_number end ps reads in (h.in_class.0, cc (h.split, h.in_class.1, end_inv h.others h.reads))

fund_inv : (ps : List Piece) → Reads fund_rest ps → IsTree (the_keyword keyword.Fund ∷ ps)
fund_inv ps reads = let h = number_inv ps reads in (fund h.0, ap (λ xs. the_keyword keyword.Fund ∷ xs) h.1)

grant_inv : (ps : List Piece) → Reads grant_rest ps → IsTree (the_keyword keyword.Grant ∷ ps)
grant_inv ps reads =
    let a = this_inv _ lexeme.Name _ ps reads in
    let p = sign_inv _ a_procedure (sign_then None a_number end) a.0 a.2 in
    let n = number_inv p.others p.reads in
    (grant p.in_class.0 n.0, cc (a.1, p.split, p.in_class.1, n.1))

run_inv : (ps : List Piece) → Reads run_rest ps → IsTree (the_keyword keyword.Run ∷ ps)
run_inv ps reads =
    ⊎_elim (λ bound. let h = number_inv ps bound in (run (Some h.0), ap (λ xs. the_keyword keyword.Run ∷ xs) h.1))
    (λ last. (run None, ap (λ xs. the_keyword keyword.Run ∷ xs) (sym (end_inv ps last))))
    (either_inv (sign_then None a_number end) end ps reads)

cancel_inv : (ps : List Piece) → Reads cancel_rest ps → IsTree (the_keyword keyword.Cancel ∷ ps)
cancel_inv ps reads =
    let a = this_inv _ lexeme.Name _ ps reads in
    let p = sign_inv _ a_procedure end a.0 a.2 in
    (cancel p.in_class.0, cc (a.1, p.split, p.in_class.1, end_inv p.others p.reads))

report_inv : (ps : List Piece) → Reads report_rest ps → IsTree (sign (Some counted.Reports) (lexeme.Keyword keyword.Report) ∷ ps)
report_inv ps reads =
    ⊎_elim (λ facts. let h = this_inv _ (lexeme.Keyword keyword.Facts) end ps facts in (report printed.Facts, cc (h.1, end_inv h.0 h.2)))
    (λ other. ⊎_elim (λ log. let h = this_inv _ (lexeme.Keyword keyword.Log) end ps log in (report printed.Log, cc (h.1, end_inv h.0 h.2)))
    (λ last. (report printed.Questions, cc (end_inv ps last)))
    (either_inv (keyword_then keyword.Log end) end ps other))
    (either_inv (keyword_then keyword.Facts end) (either (keyword_then keyword.Log end) end) ps reads)

report_named : (ps : List Piece) → Reads (sign_then (Some counted.Reports) (this (lexeme.Keyword keyword.Report)) report_rest) ps → IsTree ps
report_named ps reads = let h = this_inv _ (lexeme.Keyword keyword.Report) report_rest ps reads in subst IsTree (sym h.1) (report_inv h.0 h.2)

-- pieces that are read are those of a statement
pub tree : (ps : List Piece) → Reads statement_rest ps → IsTree ps
tree ps reads =
    ⊎_elim (λ r. named keyword.Group group_rest ps r group_inv) (λ o1.
    ⊎_elim (λ r. named keyword.Word word_rest ps r word_statement_inv) (λ o2.
    ⊎_elim (λ r. named keyword.Subgroup subgroup_rest ps r subgroup_inv) (λ o3.
    ⊎_elim (λ r. named keyword.Map map_rest ps r map_inv) (λ o4.
    ⊎_elim (λ r. named keyword.Ask ask_rest ps r ask_inv) (λ o5.
    ⊎_elim (λ r. named keyword.Fund fund_rest ps r fund_inv) (λ o6.
    ⊎_elim (λ r. named keyword.Grant grant_rest ps r grant_inv) (λ o7.
    ⊎_elim (λ r. named keyword.Run run_rest ps r run_inv) (λ o8.
    ⊎_elim (λ r. named keyword.Cancel cancel_rest ps r cancel_inv)
    (λ r. report_named ps r)
    (either_inv _ _ ps o8)) (either_inv _ _ ps o7)) (either_inv _ _ ps o6)) (either_inv _ _ ps o5)) (either_inv _ _ ps o4)) (either_inv _ _ ps o3)) (either_inv _ _ ps o2)) (either_inv _ _ ps o1)) (either_inv _ _ ps reads)
