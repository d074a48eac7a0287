-- A line is one statement with its names: the names of the line are cut by how many each part has.
use Rattle.std.proofs.Common.{◌≡◌, ℕ, zero, suc, ◌+◌, Option, Some, None, List, [], ◌∷◌, ◌++◌, map, length, refl, sym, ap, ◌∙◌, append_assoc, arith, true, false}
use Rattle.std.specs.List.{flat_map}
use Rattle.std.proofs.lemmas.List.{append-nil}
use Rattle.mg_lex.specs.declared.token.Token.{Token}
use Rattle.mg_lex.specs.declared.keyword.Keyword.TheVariants as keyword
use Rattle.mg_lex.specs.declared.mark.Mark.TheVariants as mark
use Rattle.mg_terms.specs.declared.lexeme.Lexeme.{Lexeme}
use Rattle.mg_terms.specs.declared.lexeme.Lexeme.TheVariants as lexeme
use Rattle.mg_terms.specs.Word as tree
use Rattle.mg_script.specs.declared.form.Printed.TheVariants as printed
use Rattle.mg_script.specs.declared.script.ScriptLine.{ScriptLine}
use Rattle.mg_script.specs.Statement as grammar
use Rattle.mg_script.specs.Statement.{Piece, pieces_lexemes, piece_lexemes, listed, listed_on, generator_names, relation_pieces, member_pieces, arrow_pieces, bar_pieces, question_pieces, bound_pieces, printed_pieces, statement_pieces, statement_lexemes, the_mark}
use Rattle.mg_script.proofs.Trees.{one_statement}
use Rattle.mg_names.specs.Named.{Named, Base, named, one, round, commutator, Factor, bare, power, Word, single, times, Relation, relator, equation, Arrow, Question, equal, member, vanishes, central, has, Statement, group, word, subgroup, mapping, ask, fund, grant, run, cancel, report, plain_base, plain_factor, plain_word, plain_relation, plain_bar, plain_question, plain_statement, base_names, factor_names, word_names, relation_names, bar_names, question_names, statement_names, names_in, IsNamed}

-- how many names are among lexemes
abbrev pub name_count : List Lexeme → ℕ
name_count [] = 0
name_count (lexeme.Name ∷ xs) = suc (name_count xs)
name_count (x ∷ xs) = name_count xs

pub name_count-append : (xs ys : List Lexeme) → name_count (xs ++ ys) ≡ name_count xs + name_count ys
name_count-append [] ys = omega arith
name_count-append (lexeme.Name ∷ xs) ys = omega (arith, name_count-append xs ys)
name_count-append (lexeme.Keyword k ∷ xs) ys = name_count-append xs ys
name_count-append (lexeme.RelatorSign ∷ xs) ys = name_count-append xs ys
name_count-append (lexeme.Number n ∷ xs) ys = name_count-append xs ys
name_count-append (lexeme.Mark m ∷ xs) ys = name_count-append xs ys

-- a line has so many names
names_count : (bytes : List ℕ) (ts : List Token) (xs : List Lexeme) → length xs ≡ length ts → length (names_in bytes ts xs) ≡ name_count xs
names_count bytes [] [] e = refl
names_count bytes [] (x ∷ xs) e = absurd (omega (arith, e))
names_count bytes (t ∷ ts) [] e = absurd (omega (arith, e))
names_count bytes (t ∷ ts) (lexeme.Name ∷ xs) e = omega (arith, names_count bytes ts xs (omega (arith, e)))
names_count bytes (t ∷ ts) (lexeme.Keyword k ∷ xs) e = names_count bytes ts xs (omega (arith, e))
names_count bytes (t ∷ ts) (lexeme.RelatorSign ∷ xs) e = names_count bytes ts xs (omega (arith, e))
names_count bytes (t ∷ ts) (lexeme.Number n ∷ xs) e = names_count bytes ts xs (omega (arith, e))
names_count bytes (t ∷ ts) (lexeme.Mark m ∷ xs) e = names_count bytes ts xs (omega (arith, e))

-- names whose first ones are those of a part that is this without names, with so many behind them
pub record IsCutOff {A B : Type 0} (plain : A → B) (names : A → List Named) (b : B) (ns : List Named) (k : ℕ) : Type 0 where
  pub whole : A
  pub rest : List Named
  pub is : plain whole ≡ b
  pub cut : ns ≡ names whole ++ rest
  pub left : length rest ≡ k

abbrev IsBaseCut : tree.Base → List Named → ℕ → Type 0
IsBaseCut b ns k = IsCutOff plain_base base_names b ns k

abbrev IsFactorCut : tree.Factor → List Named → ℕ → Type 0
IsFactorCut f ns k = IsCutOff plain_factor factor_names f ns k

abbrev IsWordCut : tree.Word → List Named → ℕ → Type 0
IsWordCut w ns k = IsCutOff plain_word word_names w ns k

mutual
  base_cut : (b : tree.Base) (ns : List Named) (k : ℕ) → length ns ≡ name_count (tree.base_lexemes b) + k → IsBaseCut b ns k
  base_cut tree.name [] k e = absurd (omega (arith, e))
  base_cut tree.name (n ∷ ns) k e = record { whole = named n; rest = ns; is = refl; cut = refl; left = omega (arith, e) }
  base_cut tree.one ns k e = record { whole = one; rest = ns; is = refl; cut = refl; left = omega (arith, e) }
  base_cut (tree.round w) ns k e =
      let h = word_cut w ns k (omega (arith, e, name_count-append (tree.word_lexemes w) (lexeme.Mark mark.CloseRound ∷ []))) in
      record { whole = round h.whole; rest = h.rest; is = ap tree.round h.is; cut = h.cut; left = h.left }
  base_cut (tree.commutator u v) ns k e =
      let g = word_cut u ns (name_count (tree.word_lexemes v) + k)
      (omega (
        arith,
        e,
        name_count-append (tree.word_lexemes u) (lexeme.Mark mark.Comma ∷ (tree.word_lexemes v ++ lexeme.Mark mark.CloseSquare ∷ [])),
        name_count-append (tree.word_lexemes v) (lexeme.Mark mark.CloseSquare ∷ []),
      )) in
      let h = word_cut v g.rest k g.left in
      record {
        whole = commutator g.whole h.whole;
        rest = h.rest;
        is = ap (λ x. tree.commutator x (plain_word h.whole)) g.is ∙ ap (tree.commutator u) h.is;
        cut = g.cut ∙ ap (λ t. word_names g.whole ++ t) h.cut ∙ sym (append_assoc (word_names g.whole) (word_names h.whole) h.rest);
        left = h.left;
      }

  factor_cut : (f : tree.Factor) (ns : List Named) (k : ℕ) → length ns ≡ name_count (tree.factor_lexemes f) + k → IsFactorCut f ns k
  factor_cut (tree.bare b) ns k e =
      let h = base_cut b ns k e in
      record { whole = bare h.whole; rest = h.rest; is = ap tree.bare h.is; cut = h.cut; left = h.left }
  factor_cut (tree.power b true n) ns k e =
      let h = base_cut b ns k (omega (arith, e, name_count-append (tree.base_lexemes b) (lexeme.Mark mark.Caret ∷ lexeme.Mark mark.Minus ∷ lexeme.Number n ∷ []))) in
      record { whole = power h.whole true n; rest = h.rest; is = ap (λ x. tree.power x true n) h.is; cut = h.cut; left = h.left }
  factor_cut (tree.power b false n) ns k e =
      let h = base_cut b ns k (omega (arith, e, name_count-append (tree.base_lexemes b) (lexeme.Mark mark.Caret ∷ lexeme.Number n ∷ []))) in
      record { whole = power h.whole false n; rest = h.rest; is = ap (λ x. tree.power x false n) h.is; cut = h.cut; left = h.left }

  word_cut : (w : tree.Word) (ns : List Named) (k : ℕ) → length ns ≡ name_count (tree.word_lexemes w) + k → IsWordCut w ns k
  word_cut (tree.single f) ns k e =
      let h = factor_cut f ns k e in
      record { whole = single h.whole; rest = h.rest; is = ap tree.single h.is; cut = h.cut; left = h.left }
  word_cut (tree.times w true f) ns k e =
      let g = word_cut w ns (name_count (tree.factor_lexemes f) + k) (omega (arith, e, name_count-append (tree.word_lexemes w) (lexeme.Mark mark.Star ∷ tree.factor_lexemes f))) in
      let h = factor_cut f g.rest k g.left in
      record {
        whole = times g.whole true h.whole;
        rest = h.rest;
        is = ap (λ x. tree.times x true (plain_factor h.whole)) g.is ∙ ap (tree.times w true) h.is;
        cut = g.cut ∙ ap (λ t. word_names g.whole ++ t) h.cut ∙ sym (append_assoc (word_names g.whole) (factor_names h.whole) h.rest);
        left = h.left;
      }
  word_cut (tree.times w false f) ns k e =
      let g = word_cut w ns (name_count (tree.factor_lexemes f) + k) (omega (arith, e, name_count-append (tree.word_lexemes w) (tree.factor_lexemes f))) in
      let h = factor_cut f g.rest k g.left in
      record {
        whole = times g.whole false h.whole;
        rest = h.rest;
        is = ap (λ x. tree.times x false (plain_factor h.whole)) g.is ∙ ap (tree.times w false) h.is;
        cut = g.cut ∙ ap (λ t. word_names g.whole ++ t) h.cut ∙ sym (append_assoc (word_names g.whole) (factor_names h.whole) h.rest);
        left = h.left;
      }

-- lists
abbrev pub count_in : {B : Type 0} → (B → ℕ) → List B → ℕ
count_in count [] = 0
count_in count (b ∷ bs) = count b + count_in count bs

section_names : {A B : Type 0} (plain : A → B) (names : A → List Named) (count : B → ℕ) (cut_one : (b : B) (ns : List Named) (k : ℕ) → length ns ≡ count b + k → IsCutOff plain names b ns k) (bs : List B) (ns : List Named) (k : ℕ)
    → length ns ≡ count_in count bs + k → IsCutOff (map plain) (flat_map names) bs ns k
section_names plain names count cut_one [] ns k e = record { whole = []; rest = ns; is = refl; cut = refl; left = omega (arith, e) }
section_names plain names count cut_one (b ∷ bs) ns k e =
    let g = cut_one b ns (count_in count bs + k) (omega (arith, e)) in
    let h = section_names plain names count cut_one bs g.rest k g.left in
    record {
      whole = g.whole ∷ h.whole;
      rest = h.rest;
      is = ap (λ x. x ∷ map plain h.whole) g.is ∙ ap (λ xs. b ∷ xs) h.is;
      cut = g.cut ∙ ap (λ t. names g.whole ++ t) h.cut ∙ sym (append_assoc (names g.whole) (flat_map names h.whole) h.rest);
      left = h.left;
    }

-- how many names are in pieces
abbrev pub pieces_count : List Piece → ℕ
pieces_count ps = name_count (pieces_lexemes ps)

pub pieces_lexemes-append : (ps qs : List Piece) → pieces_lexemes (ps ++ qs) ≡ pieces_lexemes ps ++ pieces_lexemes qs
pieces_lexemes-append [] qs = refl
pieces_lexemes-append (p ∷ ps) qs =
    ap (λ t. piece_lexemes p ++ t) (pieces_lexemes-append ps qs) ∙ sym (append_assoc (piece_lexemes p) (pieces_lexemes ps) (pieces_lexemes qs))

pieces_count-append : (ps qs : List Piece) → pieces_count (ps ++ qs) ≡ pieces_count ps + pieces_count qs
pieces_count-append ps qs = ap name_count (pieces_lexemes-append ps qs) ∙ name_count-append (pieces_lexemes ps) (pieces_lexemes qs)

listed_on_count : {B : Type 0} (f : B → List Piece) (bs : List B) → pieces_count (listed_on (map f bs)) ≡ count_in (λ b. pieces_count (f b)) bs
listed_on_count f [] = refl
listed_on_count f (b ∷ bs) = omega (arith, pieces_count-append (f b) (listed_on (map f bs)), listed_on_count f bs)

listed_count : {B : Type 0} (f : B → List Piece) (bs : List B) → pieces_count (listed (map f bs)) ≡ count_in (λ b. pieces_count (f b)) bs
listed_count f [] = refl
listed_count f (b ∷ bs) = omega (arith, pieces_count-append (f b) (listed_on (map f bs)), listed_on_count f bs)

generators_on_count : (n : ℕ) → pieces_count (listed_on (generator_names n)) ≡ n
generators_on_count zero = refl
generators_on_count (suc n) = omega (arith, generators_on_count n)

generators_count : (n : ℕ) → pieces_count (listed (generator_names n)) ≡ n
generators_count zero = refl
generators_count (suc n) = omega (arith, generators_on_count n)

generators_cut : (n : ℕ) (ns : List Named) (k : ℕ) → length ns ≡ n + k → IsCutOff length (λ (gs : List Named). gs) n ns k
generators_cut zero ns k e = record { whole = []; rest = ns; is = refl; cut = refl; left = omega (arith, e) }
generators_cut (suc n) [] k e = absurd (omega (arith, e))
generators_cut (suc n) (m ∷ ns) k e =
    let h = generators_cut n ns k (omega (arith, e)) in
    record { whole = m ∷ h.whole; rest = h.rest; is = ap (λ j. suc j) h.is; cut = ap (λ t. m ∷ t) h.cut; left = h.left }

-- a word that is one piece, last among others
word_piece_count : (w : tree.Word) (ps : List Piece) → name_count (tree.word_lexemes w ++ pieces_lexemes ps) ≡ name_count (tree.word_lexemes w) + pieces_count ps
word_piece_count w ps = name_count-append (tree.word_lexemes w) (pieces_lexemes ps)

relation_cut : (r : grammar.Relation) (ns : List Named) (k : ℕ) → length ns ≡ pieces_count (relation_pieces r) + k → IsCutOff plain_relation relation_names r ns k
relation_cut (grammar.relator w) ns k e =
    let h = word_cut w ns k (omega (arith, e, word_piece_count w [])) in
    record { whole = relator h.whole; rest = h.rest; is = ap grammar.relator h.is; cut = h.cut; left = h.left }
relation_cut (grammar.equation u v) ns k e =
    let g = word_cut u ns (name_count (tree.word_lexemes v) + k)
    (omega (arith, e, word_piece_count u (the_mark mark.Equals ∷ grammar.term None (Some u) v ∷ []), word_piece_count v [])) in
    let h = word_cut v g.rest k g.left in
    record {
      whole = equation g.whole h.whole;
      rest = h.rest;
      is = ap (λ x. grammar.equation x (plain_word h.whole)) g.is ∙ ap (grammar.equation u) h.is;
      cut = g.cut ∙ ap (λ t. word_names g.whole ++ t) h.cut ∙ sym (append_assoc (word_names g.whole) (word_names h.whole) h.rest);
      left = h.left;
    }

member_cut : (w : tree.Word) (ns : List Named) (k : ℕ) → length ns ≡ pieces_count (member_pieces w) + k → IsWordCut w ns k
member_cut w ns k e = word_cut w ns k (omega (arith, e, word_piece_count w []))

arrow_cut : (w : tree.Word) (ns : List Named) (k : ℕ) → length ns ≡ pieces_count (arrow_pieces w) + k → IsCutOff (λ (a : Arrow). plain_word a.image) (λ (a : Arrow). a.generator ∷ word_names a.image) w ns k
arrow_cut w [] k e = absurd (omega (arith, e))
arrow_cut w (n ∷ ns) k e =
    let h = word_cut w ns k (omega (arith, e, word_piece_count w [])) in
    record { whole = record { generator = n; image = h.whole }; rest = h.rest; is = h.is; cut = ap (λ t. n ∷ t) h.cut; left = h.left }

bar_cut : (rs : Option (List grammar.Relation)) (ns : List Named) (k : ℕ) → length ns ≡ pieces_count (bar_pieces rs) + k → IsCutOff plain_bar bar_names rs ns k
bar_cut None ns k e = record { whole = None; rest = ns; is = refl; cut = refl; left = omega (arith, e) }
bar_cut (Some rs) ns k e =
    let h = section_names plain_relation relation_names (λ r. pieces_count (relation_pieces r)) relation_cut rs ns k (omega (arith, e, listed_count relation_pieces rs)) in
    record { whole = Some h.whole; rest = h.rest; is = ap (λ x. Some x) h.is; cut = h.cut; left = h.left }

-- the name that is the last
last_name : (ns : List Named) → length ns ≡ 1 → (n : Named) × (ns ≡ n ∷ [])
last_name [] e = absurd (omega (arith, e))
last_name (n ∷ []) e = (n, refl)
last_name (n ∷ (m ∷ ns)) e = absurd (omega (arith, e))

nothing_left : (ns : List Named) → length ns ≡ 0 → ns ≡ []
nothing_left [] e = refl
nothing_left (n ∷ ns) e = absurd (omega (arith, e))

abbrev in_name : List Piece
in_name = grammar.the_keyword keyword.In ∷ grammar.a_name ∷ []

question_cut : (q : grammar.Question) (ns : List Named) → length ns ≡ pieces_count (question_pieces q) → (s : Question) × (plain_question s ≡ q) × (question_names s ≡ ns)
question_cut (grammar.equal u v) ns e =
    let g = word_cut u ns (name_count (tree.word_lexemes v) + 1)
    (omega (arith, e, name_count-append (tree.word_lexemes u) (lexeme.Mark mark.Equals ∷ (tree.word_lexemes v ++ pieces_lexemes in_name)), name_count-append (tree.word_lexemes v) (pieces_lexemes in_name))) in
    let h = word_cut v g.rest 1 g.left in
    let l = last_name h.rest h.left in (
      equal g.whole h.whole l.0,
      ap (λ x. grammar.equal x (plain_word h.whole)) g.is ∙ ap (grammar.equal u) h.is,
      sym (g.cut ∙ ap (λ t. word_names g.whole ++ t) (h.cut ∙ ap (λ t. word_names h.whole ++ t) l.1)),
    )
question_cut (grammar.member w) ns e =
    let g = word_cut w ns 1 (omega (arith, e, word_piece_count w (grammar.the_keyword keyword.In ∷ grammar.a_name ∷ []))) in
    let l = last_name g.rest g.left in
    (member g.whole l.0, ap grammar.member g.is, sym (g.cut ∙ ap (λ t. word_names g.whole ++ t) l.1))
question_cut (grammar.vanishes w) ns e =
    let g = word_cut w ns 1 (omega (arith, e, word_piece_count w (grammar.the_keyword keyword.In ∷ grammar.the_keyword keyword.Kernel ∷ grammar.a_name ∷ []))) in
    let l = last_name g.rest g.left in
    (vanishes g.whole l.0, ap grammar.vanishes g.is, sym (g.cut ∙ ap (λ t. word_names g.whole ++ t) l.1))
question_cut (grammar.central w) ns e =
    let g = word_cut w ns 1 (omega (arith, e, word_piece_count w (grammar.the_keyword keyword.Central ∷ grammar.the_keyword keyword.In ∷ grammar.a_name ∷ []))) in
    let l = last_name g.rest g.left in
    (central g.whole l.0, ap grammar.central g.is, sym (g.cut ∙ ap (λ t. word_names g.whole ++ t) l.1))
question_cut (grammar.has p) ns e =
    let l = last_name ns e in
    (has l.0 p, refl, sym l.1)

-- statements
abbrev IsWhole : grammar.Statement → List Named → Type 0
IsWhole g ns = (s : Statement) × (plain_statement s ≡ g) × (statement_names s ≡ ns)

statement_cut : (g : grammar.Statement) (ns : List Named) → length ns ≡ name_count (statement_lexemes g) → IsWhole g ns
statement_cut (grammar.group n rs) [] e = absurd (omega (arith, e))
statement_cut (grammar.group n rs) (m ∷ ns) e =
    let g = generators_cut n ns (pieces_count (bar_pieces rs)) (omega (arith, e, generators_count n, pieces_count-append (listed (generator_names n)) (bar_pieces rs ++ the_mark mark.Greater ∷ []), pieces_count-append (bar_pieces rs) (the_mark mark.Greater ∷ []))) in
    let h = bar_cut rs g.rest 0 (omega (arith, g.left)) in (
      group m g.whole h.whole,
      ap (λ k. grammar.group k (plain_bar h.whole)) g.is ∙ ap (grammar.group n) h.is,
      ap (λ t. m ∷ t) (sym (g.cut ∙ ap (λ t. g.whole ++ t) (h.cut ∙ ap (λ t. bar_names h.whole ++ t) (nothing_left h.rest h.left) ∙ append-nil (bar_names h.whole)))),
    )
statement_cut (grammar.word w) [] e = absurd (omega (arith, e))
statement_cut (grammar.word w) (n ∷ []) e = absurd (omega (arith, e))
statement_cut (grammar.word w) (n ∷ (g ∷ ns)) e =
    let h = word_cut w ns 0 (omega (arith, e, word_piece_count w [])) in
    (word n g h.whole, ap grammar.word h.is, ap (λ t. n ∷ g ∷ t) (sym (h.cut ∙ ap (λ t. word_names h.whole ++ t) (nothing_left h.rest h.left) ∙ append-nil (word_names h.whole))))
statement_cut (grammar.subgroup ws) [] e = absurd (omega (arith, e))
statement_cut (grammar.subgroup ws) (n ∷ []) e = absurd (omega (arith, e))
statement_cut (grammar.subgroup ws) (n ∷ (g ∷ ns)) e =
    let h = section_names plain_word word_names (λ w. pieces_count (member_pieces w)) member_cut ws ns 0 (omega (arith, e, listed_count member_pieces ws, pieces_count-append (listed (map member_pieces ws)) (the_mark mark.Greater ∷ []))) in
    (subgroup n g h.whole, ap grammar.subgroup h.is, ap (λ t. n ∷ g ∷ t) (sym (h.cut ∙ ap (λ t. flat_map word_names h.whole ++ t) (nothing_left h.rest h.left) ∙ append-nil (flat_map word_names h.whole))))
statement_cut (grammar.mapping ws) [] e = absurd (omega (arith, e))
statement_cut (grammar.mapping ws) (n ∷ []) e = absurd (omega (arith, e))
statement_cut (grammar.mapping ws) (n ∷ (a ∷ [])) e = absurd (omega (arith, e))
statement_cut (grammar.mapping ws) (n ∷ (a ∷ (b ∷ ns))) e =
    let h = section_names (λ (a : Arrow). plain_word a.image) (λ (a : Arrow). a.generator ∷ word_names a.image) (λ w. pieces_count (arrow_pieces w)) arrow_cut ws ns 0
    (omega (arith, e, listed_count arrow_pieces ws, pieces_count-append (listed (map arrow_pieces ws)) (the_mark mark.CloseSquare ∷ []))) in (
      mapping n a b h.whole,
      ap grammar.mapping h.is,
      ap (λ t. n ∷ a ∷ b ∷ t) (sym (h.cut ∙ ap (λ t. flat_map (λ (a : Arrow). a.generator ∷ word_names a.image) h.whole ++ t) (nothing_left h.rest h.left) ∙ append-nil (flat_map (λ (a : Arrow). a.generator ∷ word_names a.image) h.whole))),
    )
statement_cut (grammar.ask q) [] e = absurd (omega (arith, e))
statement_cut (grammar.ask q) (n ∷ ns) e =
    let h = question_cut q ns (omega (arith, e)) in
    (ask n h.0, ap grammar.ask h.1, ap (λ t. n ∷ t) h.2)
statement_cut (grammar.fund units) ns e = (fund units, refl, sym (nothing_left ns e))
statement_cut (grammar.grant p units) ns e = let l = last_name ns e in (grant l.0 p units, refl, sym l.1)
statement_cut (grammar.run None) ns e = (run None, refl, sym (nothing_left ns e))
statement_cut (grammar.run (Some bound)) ns e = (run (Some bound), refl, sym (nothing_left ns e))
statement_cut (grammar.cancel p) ns e = let l = last_name ns e in (cancel l.0 p, refl, sym l.1)
statement_cut (grammar.report printed.Questions) ns e = (report printed.Questions, refl, sym (nothing_left ns e))
statement_cut (grammar.report printed.Facts) ns e = (report printed.Facts, refl, sym (nothing_left ns e))
statement_cut (grammar.report printed.Log) ns e = (report printed.Log, refl, sym (nothing_left ns e))

-- a line that is a statement has one with its names
pub there_is_one : (line : ScriptLine) (g : grammar.Statement) → statement_lexemes g ≡ line.lexemes → length line.lexemes ≡ length line.tokens → (s : Statement) × IsNamed line s × (plain_statement s ≡ g)
there_is_one line g written long =
    let h = statement_cut g (names_in line.bytes line.tokens line.lexemes) (names_count line.bytes line.tokens line.lexemes long ∙ ap name_count (sym written)) in
    (h.0, record { written = ap statement_lexemes h.1 ∙ written; names = h.2 }, h.1)

-- equal trees with equal names
mutual
  base_once : (a b : Base) (xs ys : List Named) → plain_base a ≡ plain_base b → base_names a ++ xs ≡ base_names b ++ ys → (a ≡ b) × (xs ≡ ys)
  base_once (named m) (named n) xs ys e f = (ap named cc, cc)
  base_once one one xs ys e f = (refl, f)
  base_once (round u) (round v) xs ys e f = let h = word_once u v xs ys (cc) f in (ap round h.0, h.1)
  base_once (commutator u v) (commutator s t) xs ys e f =
      let h = word_once u s (word_names v ++ xs) (word_names t ++ ys) (cc) (sym (append_assoc (word_names u) (word_names v) xs) ∙ f ∙ append_assoc (word_names s) (word_names t) ys) in
      let k = word_once v t xs ys (cc) h.1 in
      (ap (λ x. commutator x v) h.0 ∙ ap (commutator s) k.0, k.1)
  base_once _ _ xs ys e f = absurd cc

  factor_once : (a b : Factor) (xs ys : List Named) → plain_factor a ≡ plain_factor b → factor_names a ++ xs ≡ factor_names b ++ ys → (a ≡ b) × (xs ≡ ys)
  factor_once (bare a) (bare b) xs ys e f = let h = base_once a b xs ys (cc) f in (ap bare h.0, h.1)
  factor_once (power a m i) (power b n j) xs ys e f =
      let h = base_once a b xs ys (cc) f in
      let signs : m ≡ n = cc in
      let numbers : i ≡ j = cc in
      (ap (λ x. power x m i) h.0 ∙ ap (λ x. power b x i) signs ∙ ap (power b n) numbers, h.1)
  factor_once _ _ xs ys e f = absurd cc

  word_once : (u v : Word) (xs ys : List Named) → plain_word u ≡ plain_word v → word_names u ++ xs ≡ word_names v ++ ys → (u ≡ v) × (xs ≡ ys)
  word_once (single a) (single b) xs ys e f = let h = factor_once a b xs ys (cc) f in (ap single h.0, h.1)
  word_once (times u s a) (times v t b) xs ys e f =
      let h = word_once u v (factor_names a ++ xs) (factor_names b ++ ys) (cc) (sym (append_assoc (word_names u) (factor_names a) xs) ∙ f ∙ append_assoc (word_names v) (factor_names b) ys) in
      let k = factor_once a b xs ys (cc) h.1 in
      let stars : s ≡ t = cc in
      (ap (λ x. times x s a) h.0 ∙ ap (λ x. times v x a) stars ∙ ap (times v t) k.0, k.1)
  word_once _ _ xs ys e f = absurd cc

relation_once : (a b : Relation) (xs ys : List Named) → plain_relation a ≡ plain_relation b → relation_names a ++ xs ≡ relation_names b ++ ys → (a ≡ b) × (xs ≡ ys)
relation_once (relator u) (relator v) xs ys e f = let h = word_once u v xs ys (cc) f in (ap relator h.0, h.1)
relation_once (equation u v) (equation s t) xs ys e f =
    let h = word_once u s (word_names v ++ xs) (word_names t ++ ys) (cc) (sym (append_assoc (word_names u) (word_names v) xs) ∙ f ∙ append_assoc (word_names s) (word_names t) ys) in
    let k = word_once v t xs ys (cc) h.1 in
    (ap (λ x. equation x v) h.0 ∙ ap (equation s) k.0, k.1)
relation_once _ _ xs ys e f = absurd cc

arrow_once : (a b : Arrow) (xs ys : List Named) → plain_word a.image ≡ plain_word b.image → a.generator ∷ word_names a.image ++ xs ≡ b.generator ∷ word_names b.image ++ ys → (a ≡ b) × (xs ≡ ys)
arrow_once a b xs ys e f =
    let heads : a.generator ≡ b.generator = cc in
    let h = word_once a.image b.image xs ys e cc in
    (ap (λ (x : Named). record { generator = x; image = a.image }) heads ∙ ap (λ (x : Word). record { generator = b.generator; image = x }) h.0, h.1)

list_once : {A B : Type 0} (plain : A → B) (names : A → List Named) (once : (a b : A) (xs ys : List Named) → plain a ≡ plain b → names a ++ xs ≡ names b ++ ys → (a ≡ b) × (xs ≡ ys)) (ms ls : List A) (xs ys : List Named)
    → map plain ms ≡ map plain ls → flat_map names ms ++ xs ≡ flat_map names ls ++ ys → (ms ≡ ls) × (xs ≡ ys)
list_once plain names once [] [] xs ys e f = (refl, f)
list_once plain names once (a ∷ ms) (b ∷ ls) xs ys e f =
    let h = once a b (flat_map names ms ++ xs) (flat_map names ls ++ ys) (cc) (sym (append_assoc (names a) (flat_map names ms) xs) ∙ f ∙ append_assoc (names b) (flat_map names ls) ys) in
    let k = list_once plain names once ms ls xs ys (cc) h.1 in
    (ap (λ x. x ∷ ms) h.0 ∙ ap (λ x. b ∷ x) k.0, k.1)
list_once _ _ _ _ _ xs ys e f = absurd cc

generators_once : (ms ls xs ys : List Named) → length ms ≡ length ls → ms ++ xs ≡ ls ++ ys → (ms ≡ ls) × (xs ≡ ys)
generators_once [] [] xs ys e f = (refl, f)
generators_once [] (b ∷ ls) xs ys e f = absurd (omega (arith, e))
generators_once (a ∷ ms) [] xs ys e f = absurd (omega (arith, e))
generators_once (a ∷ ms) (b ∷ ls) xs ys e f =
    let heads : a ≡ b = cc in
    let h = generators_once ms ls xs ys (omega (arith, e)) cc in
    (ap (λ x. x ∷ ms) heads ∙ ap (λ x. b ∷ x) h.0, h.1)

bar_once : (a b : Option (List Relation)) → plain_bar a ≡ plain_bar b → bar_names a ≡ bar_names b → a ≡ b
bar_once None None e f = refl
bar_once (Some ms) (Some ls) e f =
    ap (λ x. Some x) (list_once plain_relation relation_names relation_once ms ls [] [] (cc) (append-nil (flat_map relation_names ms) ∙ f ∙ sym (append-nil (flat_map relation_names ls)))).0
bar_once _ _ e f = absurd cc

word_alone_once : (u v : Word) → plain_word u ≡ plain_word v → word_names u ≡ word_names v → u ≡ v
word_alone_once u v e f = (word_once u v [] [] e (append-nil (word_names u) ∙ f ∙ sym (append-nil (word_names v)))).0

question_once : (a b : Question) → plain_question a ≡ plain_question b → question_names a ≡ question_names b → a ≡ b
question_once (equal u v g) (equal s t h) e f =
    let i = word_once u s (word_names v ++ g ∷ []) (word_names t ++ h ∷ []) (cc) f in
    let j = word_once v t (g ∷ []) (h ∷ []) (cc) i.1 in
    let names : g ≡ h = cc j.1 in
    ap (λ x. equal x v g) i.0 ∙ ap (λ x. equal s x g) j.0 ∙ ap (equal s t) names
question_once (member w g) (member v h) e f =
    let i = word_once w v (g ∷ []) (h ∷ []) (cc) f in
    let names : g ≡ h = cc i.1 in
    ap (λ x. member x g) i.0 ∙ ap (member v) names
question_once (vanishes w g) (vanishes v h) e f =
    let i = word_once w v (g ∷ []) (h ∷ []) (cc) f in
    let names : g ≡ h = cc i.1 in
    ap (λ x. vanishes x g) i.0 ∙ ap (vanishes v) names
question_once (central w g) (central v h) e f =
    let i = word_once w v (g ∷ []) (h ∷ []) (cc) f in
    let names : g ≡ h = cc i.1 in
    ap (λ x. central x g) i.0 ∙ ap (central v) names
question_once (has m p) (has n q) e f =
    let names : m ≡ n = cc in
    let properties : p ≡ q = cc in
    ap (λ x. has x p) names ∙ ap (has n) properties
question_once _ _ e f = absurd cc

statement_once : (s t : Statement) → plain_statement s ≡ plain_statement t → statement_names s ≡ statement_names t → s ≡ t
statement_once (group m gs rs) (group n hs ss) e f =
    let names : m ≡ n = cc in
    let counts : length gs ≡ length hs = cc in
    let h = generators_once gs hs (bar_names rs) (bar_names ss) counts cc in
    let bars = bar_once rs ss (cc) h.1 in
    ap (λ x. group x gs rs) names ∙ ap (λ x. group n x rs) h.0 ∙ ap (group n hs) bars
statement_once (word m g u) (word n h v) e f =
    let names : m ≡ n = cc in
    let groups : g ≡ h = cc in
    ap (λ x. word x g u) names ∙ ap (λ x. word n x u) groups ∙ ap (word n h) (word_alone_once u v (cc) cc)
statement_once (subgroup m g us) (subgroup n h vs) e f =
    let names : m ≡ n = cc in
    let groups : g ≡ h = cc in
    let rest : flat_map word_names us ≡ flat_map word_names vs = cc in
    let words = (list_once plain_word word_names word_once us vs [] [] (cc) (append-nil (flat_map word_names us) ∙ rest ∙ sym (append-nil (flat_map word_names vs)))).0 in
    ap (λ x. subgroup x g us) names ∙ ap (λ x. subgroup n x us) groups ∙ ap (subgroup n h) words
statement_once (mapping m a b us) (mapping n c d vs) e f =
    let names : m ≡ n = cc in
    let sources : a ≡ c = cc in
    let targets : b ≡ d = cc in
    let of_arrow : Arrow → List Named = λ a. a.generator ∷ word_names a.image in
    let rest : flat_map of_arrow us ≡ flat_map of_arrow vs = cc in
    let words = (list_once (λ (a : Arrow). plain_word a.image) of_arrow arrow_once us vs [] [] (cc) (append-nil (flat_map of_arrow us) ∙ rest ∙ sym (append-nil (flat_map of_arrow vs)))).0 in
    ap (λ x. mapping x a b us) names ∙ ap (λ x. mapping n x b us) sources ∙ ap (λ x. mapping n c x us) targets ∙ ap (mapping n c d) words
statement_once (ask m p) (ask n q) e f =
    let names : m ≡ n = cc in
    ap (λ x. ask x p) names ∙ ap (ask n) (question_once p q (cc) cc)
statement_once (fund m) (fund n) e f = ap fund cc
statement_once (grant m p a) (grant n q b) e f =
    let names : m ≡ n = cc in
    let procedures : p ≡ q = cc in
    let units : a ≡ b = cc in
    ap (λ x. grant x p a) names ∙ ap (λ x. grant n x a) procedures ∙ ap (grant n q) units
statement_once (run m) (run n) e f = ap run cc
statement_once (cancel m p) (cancel n q) e f =
    let names : m ≡ n = cc in
    let procedures : p ≡ q = cc in
    ap (λ x. cancel x p) names ∙ ap (cancel n) procedures
statement_once (report p) (report q) e f = ap report cc
statement_once _ _ e f = absurd cc

-- and one only
pub one_named : (line : ScriptLine) (s t : Statement) → IsNamed line s → IsNamed line t → s ≡ t
one_named line s t a b =
    statement_once s t (one_statement (plain_statement s) (plain_statement t) (a.written ∙ sym b.written)) (a.names ∙ sym b.names)
