-- The signs of a line that is a statement are those of the statement.
use Rattle.std.proofs.Common.{◌≡◌, ℕ, ◌+◌, true, false, Option, Some, None, List, [], ◌∷◌, ◌++◌, length, map, drop, refl, sym, ap, subst, ◌∙◌, append_assoc, append-nil, arith, length-drop}
use Rattle.std.specs.List.{flat_map, AllByRecursion, AllZip}
use Rattle.mg_lex.specs.declared.token.Token.{Token}
use Rattle.mg_lex.specs.Line.{Cuts, IsLongest, AreBlanks, AreTokens, token_bytes}
use Rattle.std.proofs.lemmas.Slice.Zip.{AllZip-long}
use Rattle.mg_lex.specs.declared.keyword.Keyword.{Keyword}
use Rattle.mg_lex.specs.declared.keyword.Keyword.TheVariants as keyword
use Rattle.mg_lex.specs.declared.mark.Mark.{Mark}
use Rattle.mg_lex.specs.declared.mark.Mark.TheVariants as mark
use Rattle.mg_terms.specs.declared.lexeme.Lexeme.{Lexeme}
use Rattle.mg_terms.specs.declared.lexeme.Lexeme.TheVariants as lexeme
use Rattle.mg_terms.specs.Lexeme.{IsLexemeOf}
use Rattle.mg_terms.specs.Word.{word_lexemes, factor_lexemes, base_lexemes}
use Rattle.mg_script.specs.declared.counted.Counts.{Counts}
use Rattle.mg_script.specs.declared.form.Printed.{Printed}
use Rattle.mg_script.specs.declared.form.Printed.TheVariants as printed
use Rattle.mg_script.specs.declared.script.ScriptLine.{ScriptLine}
use Rattle.mg_script.specs.Script.{IsKept}
use Rattle.mg_script.specs.Statement as grammar
use Rattle.mg_names.specs.Named.{Named, Base, named, one, round, commutator, Factor, bare, power, Word, single, times, Relation, relator, equation, Arrow, Question, equal, member, vanishes, central, has, Statement, group, word, subgroup, mapping, ask, fund, grant, run, cancel, report, plain_base, plain_factor, plain_word, plain_relation, plain_bar, plain_question, plain_statement, base_names, factor_names, word_names, relation_names, bar_names, question_names, statement_names, names_in, IsNamed}
use Rattle.mg_names.specs.Sign.{Sign, a_name, a_lexeme, the_mark, the_keyword, the_number, signs_in, signs_of, IsInside, IsReadable, base_signs, factor_signs, word_signs, listed, listed_on, generator_signs, relation_signs, bar_signs, arrow_signs, question_signs, bound_signs, printed_signs, statement_signs}

-- lexemes with names for those that are names
abbrev pub woven : List Lexeme → List Named → List Sign
woven (lexeme.Name ∷ xs) (n ∷ ns) = a_name n ∷ woven xs ns
woven (lexeme.Name ∷ xs) [] = []
woven (x ∷ xs) ns = a_lexeme x ∷ woven xs ns
woven [] ns = []

line_woven : (bytes : List ℕ) (ts : List Token) (xs : List Lexeme) → length ts ≡ length xs → signs_in bytes ts xs ≡ woven xs (names_in bytes ts xs)
line_woven bytes [] [] e = refl
line_woven bytes [] (x ∷ xs) e = absurd (omega arith)
line_woven bytes (t ∷ ts) [] e = refl
line_woven bytes (t ∷ ts) (lexeme.Name ∷ xs) e = ap (λ (ss : List Sign). a_name (record { text = token_bytes bytes t; place = t.start }) ∷ ss) (line_woven bytes ts xs (omega arith))
line_woven bytes (t ∷ ts) (lexeme.Keyword k ∷ xs) e = ap (λ (ss : List Sign). the_keyword k ∷ ss) (line_woven bytes ts xs (omega arith))
line_woven bytes (t ∷ ts) (lexeme.RelatorSign ∷ xs) e = ap (λ (ss : List Sign). a_lexeme lexeme.RelatorSign ∷ ss) (line_woven bytes ts xs (omega arith))
line_woven bytes (t ∷ ts) (lexeme.Number n ∷ xs) e = ap (λ (ss : List Sign). the_number n ∷ ss) (line_woven bytes ts xs (omega arith))
line_woven bytes (t ∷ ts) (lexeme.Mark m ∷ xs) e = ap (λ (ss : List Sign). the_mark m ∷ ss) (line_woven bytes ts xs (omega arith))

-- what is written so, whatever stands behind it
pub record IsWoven (xs : List Lexeme) (ns : List Named) (ss : List Sign) : Type 0 where
  pub so : (ys : List Lexeme) (ms : List Named) → woven (xs ++ ys) (ns ++ ms) ≡ ss ++ woven ys ms

woven_nil : IsWoven [] [] []
woven_nil = record { so = λ ys ms. refl }

woven_both : {xs ys : List Lexeme} {ns ms : List Named} {ss rs : List Sign} → IsWoven xs ns ss → IsWoven ys ms rs → IsWoven (xs ++ ys) (ns ++ ms) (ss ++ rs)
woven_both {xs} {ys} {ns} {ms} {ss} {rs} f g = record {
  so = λ zs ks.
      ap (λ (l : List Lexeme). woven l ((ns ++ ms) ++ ks)) (append_assoc xs ys zs)
      ∙ (ap (λ (l : List Named). woven (xs ++ (ys ++ zs)) l) (append_assoc ns ms ks)
      ∙ (f.so (ys ++ zs) (ms ++ ks) ∙ (ap (λ (l : List Sign). ss ++ l) (g.so zs ks) ∙ sym (append_assoc ss rs (woven zs ks)))));
}

woven_mark : (m : Mark) {xs : List Lexeme} {ns : List Named} {ss : List Sign} → IsWoven xs ns ss → IsWoven (lexeme.Mark m ∷ xs) ns (the_mark m ∷ ss)
woven_mark m f = record { so = λ ys ms. ap (λ (l : List Sign). the_mark m ∷ l) (f.so ys ms) }

woven_keyword : (k : Keyword) {xs : List Lexeme} {ns : List Named} {ss : List Sign} → IsWoven xs ns ss → IsWoven (lexeme.Keyword k ∷ xs) ns (the_keyword k ∷ ss)
woven_keyword k f = record { so = λ ys ms. ap (λ (l : List Sign). the_keyword k ∷ l) (f.so ys ms) }

woven_number : (n : ℕ) {xs : List Lexeme} {ns : List Named} {ss : List Sign} → IsWoven xs ns ss → IsWoven (lexeme.Number n ∷ xs) ns (the_number n ∷ ss)
woven_number n f = record { so = λ ys ms. ap (λ (l : List Sign). the_number n ∷ l) (f.so ys ms) }

woven_name : (n : Named) {xs : List Lexeme} {ns : List Named} {ss : List Sign} → IsWoven xs ns ss → IsWoven (lexeme.Name ∷ xs) (n ∷ ns) (a_name n ∷ ss)
woven_name n f = record { so = λ ys ms. ap (λ (l : List Sign). a_name n ∷ l) (f.so ys ms) }

-- something without names behind it
woven_then : {xs ys : List Lexeme} {ns : List Named} {ss rs : List Sign} → IsWoven xs ns ss → IsWoven ys [] rs → IsWoven (xs ++ ys) ns (ss ++ rs)
woven_then {xs} {ys} {ns} {ss} {rs} f g = subst (λ (l : List Named). IsWoven (xs ++ ys) l (ss ++ rs)) (append-nil ns) (woven_both f g)

-- nothing behind it
woven_last : {xs : List Lexeme} {ns : List Named} {ss : List Sign} → IsWoven xs ns ss → IsWoven (xs ++ []) ns ss
woven_last {xs} {ns} {ss} f = subst (λ (l : List Lexeme). IsWoven l ns ss) (sym (append-nil xs)) f

mutual
  base_woven : (b : Base) → IsWoven (base_lexemes (plain_base b)) (base_names b) (base_signs b)
  base_woven (named n) = woven_name n woven_nil
  base_woven one = woven_number 1 woven_nil
  base_woven (round w) = woven_mark mark.OpenRound (woven_then (word_woven w) (woven_mark mark.CloseRound woven_nil))
  base_woven (commutator u v) =
      woven_mark mark.OpenSquare (woven_both (word_woven u) (woven_mark mark.Comma (woven_then (word_woven v) (woven_mark mark.CloseSquare woven_nil))))

  factor_woven : (f : Factor) → IsWoven (factor_lexemes (plain_factor f)) (factor_names f) (factor_signs f)
  factor_woven (bare b) = base_woven b
  factor_woven (power b true n) = woven_then (base_woven b) (woven_mark mark.Caret (woven_mark mark.Minus (woven_number n woven_nil)))
  factor_woven (power b false n) = woven_then (base_woven b) (woven_mark mark.Caret (woven_number n woven_nil))

  pub word_woven : (w : Word) → IsWoven (word_lexemes (plain_word w)) (word_names w) (word_signs w)
  word_woven (single f) = factor_woven f
  word_woven (times w true f) = woven_both (word_woven w) (woven_mark mark.Star (factor_woven f))
  word_woven (times w false f) = woven_both (word_woven w) (factor_woven f)

-- pieces of statements
pieces_append : (ps qs : List grammar.Piece) → grammar.pieces_lexemes (ps ++ qs) ≡ grammar.pieces_lexemes ps ++ grammar.pieces_lexemes qs
pieces_append [] qs = refl
pieces_append (p ∷ ps) qs =
    ap (λ (l : List Lexeme). grammar.piece_lexemes p ++ l) (pieces_append ps qs)
    ∙ sym (append_assoc (grammar.piece_lexemes p) (grammar.pieces_lexemes ps) (grammar.pieces_lexemes qs))

pieces_both : (ps qs : List grammar.Piece) {ns ms : List Named} {ss rs : List Sign} → IsWoven (grammar.pieces_lexemes ps) ns ss → IsWoven (grammar.pieces_lexemes qs) ms rs →
    IsWoven (grammar.pieces_lexemes (ps ++ qs)) (ns ++ ms) (ss ++ rs)
pieces_both ps qs {ns} {ms} {ss} {rs} f g = subst (λ (l : List Lexeme). IsWoven l (ns ++ ms) (ss ++ rs)) (sym (pieces_append ps qs)) (woven_both f g)

pieces_then : (ps qs : List grammar.Piece) {ns : List Named} {ss rs : List Sign} → IsWoven (grammar.pieces_lexemes ps) ns ss → IsWoven (grammar.pieces_lexemes qs) [] rs →
    IsWoven (grammar.pieces_lexemes (ps ++ qs)) ns (ss ++ rs)
pieces_then ps qs {ns} {ss} {rs} f g = subst (λ (l : List Lexeme). IsWoven l ns (ss ++ rs)) (sym (pieces_append ps qs)) (woven_then f g)

-- members of lists
module _ {X Y : Type 0} (plain : X → Y) (pieces : Y → List grammar.Piece) (names : X → List Named) (signs : X → List Sign)
    (one_woven : (x : X) → IsWoven (grammar.pieces_lexemes (pieces (plain x))) (names x) (signs x)) where
  more_woven : (xs : List X) → IsWoven (grammar.pieces_lexemes (grammar.listed_on (map pieces (map plain xs)))) (flat_map names xs) (listed_on (map signs xs))
  more_woven [] = woven_nil
  more_woven (x ∷ xs) = woven_mark mark.Comma (pieces_both (pieces (plain x)) (grammar.listed_on (map pieces (map plain xs))) (one_woven x) (more_woven xs))

  pub listed_woven : (xs : List X) → IsWoven (grammar.pieces_lexemes (grammar.listed (map pieces (map plain xs)))) (flat_map names xs) (listed (map signs xs))
  listed_woven [] = woven_nil
  listed_woven (x ∷ xs) = pieces_both (pieces (plain x)) (grammar.listed_on (map pieces (map plain xs))) (one_woven x) (more_woven xs)

more_generators : (ns : List Named) → IsWoven (grammar.pieces_lexemes (grammar.listed_on (grammar.generator_names (length ns)))) ns (listed_on (map generator_signs ns))
more_generators [] = woven_nil
more_generators (n ∷ ns) = woven_mark mark.Comma (woven_name n (more_generators ns))

generators_woven : (ns : List Named) → IsWoven (grammar.pieces_lexemes (grammar.listed (grammar.generator_names (length ns)))) ns (listed (map generator_signs ns))
generators_woven [] = woven_nil
generators_woven (n ∷ ns) = woven_name n (more_generators ns)

relation_woven : (r : Relation) → IsWoven (grammar.pieces_lexemes (grammar.relation_pieces (plain_relation r))) (relation_names r) (relation_signs r)
relation_woven (relator w) = woven_last (word_woven w)
relation_woven (equation u v) = woven_both (word_woven u) (woven_mark mark.Equals (woven_last (word_woven v)))

bar_woven : (rs : Option (List Relation)) → IsWoven (grammar.pieces_lexemes (grammar.bar_pieces (plain_bar rs))) (bar_names rs) (bar_signs rs)
bar_woven None = woven_nil
bar_woven (Some rs) = woven_mark mark.Bar (listed_woven plain_relation grammar.relation_pieces relation_names relation_signs relation_woven rs)

member_woven : (w : Word) → IsWoven (grammar.pieces_lexemes (grammar.member_pieces (plain_word w))) (word_names w) (word_signs w)
member_woven w = woven_last (word_woven w)

arrow_woven : (a : Arrow) → IsWoven (grammar.pieces_lexemes (grammar.arrow_pieces (plain_word a.image))) (a.generator ∷ word_names a.image) (arrow_signs a)
arrow_woven a = woven_name a.generator (woven_mark mark.Arrow (woven_last (word_woven a.image)))

question_woven : (q : Question) → IsWoven (grammar.pieces_lexemes (grammar.question_pieces (plain_question q))) (question_names q) (question_signs q)
question_woven (equal u v g) =
    woven_both (word_woven u) (woven_mark mark.Equals (woven_both (word_woven v) (woven_keyword keyword.In (woven_name g woven_nil))))
question_woven (member w h) = woven_both (word_woven w) (woven_keyword keyword.In (woven_name h woven_nil))
question_woven (vanishes w f) = woven_both (word_woven w) (woven_keyword keyword.In (woven_keyword keyword.Kernel (woven_name f woven_nil)))
question_woven (central w g) = woven_both (word_woven w) (woven_keyword keyword.Central (woven_keyword keyword.In (woven_name g woven_nil)))
question_woven (has n p) = woven_name n (woven_keyword (grammar.property_keyword p) woven_nil)

bound_woven : (bound : Option ℕ) → IsWoven (grammar.pieces_lexemes (grammar.bound_pieces bound)) [] (bound_signs bound)
bound_woven None = woven_nil
bound_woven (Some n) = woven_number n woven_nil

printed_woven : (p : Printed) → IsWoven (grammar.pieces_lexemes (grammar.printed_pieces p)) [] (printed_signs p)
printed_woven printed.Questions = woven_nil
printed_woven printed.Facts = woven_keyword keyword.Facts woven_nil
printed_woven printed.Log = woven_keyword keyword.Log woven_nil

pub statement_woven : (s : Statement) → IsWoven (grammar.statement_lexemes (plain_statement s)) (statement_names s) (statement_signs s)
statement_woven (group n generators rs) =
    woven_keyword keyword.Group (woven_name n (woven_mark mark.Equals (woven_mark mark.Less
    (pieces_both (grammar.listed (grammar.generator_names (length generators))) (grammar.bar_pieces (plain_bar rs) ++ grammar.the_mark mark.Greater ∷ []) (generators_woven generators)
    (pieces_then (grammar.bar_pieces (plain_bar rs)) (grammar.the_mark mark.Greater ∷ []) (bar_woven rs) (woven_mark mark.Greater woven_nil))))))
statement_woven (word n g w) =
    woven_keyword keyword.Word (woven_name n (woven_keyword keyword.In (woven_name g (woven_mark mark.Equals (woven_last (word_woven w))))))
statement_woven (subgroup n g ws) =
    woven_keyword keyword.Subgroup (woven_name n (woven_keyword keyword.Of (woven_name g (woven_mark mark.Equals (woven_mark mark.Less
    (pieces_then (grammar.listed (map grammar.member_pieces (map plain_word ws))) (grammar.the_mark mark.Greater ∷ [])
    (listed_woven plain_word grammar.member_pieces word_names word_signs member_woven ws) (woven_mark mark.Greater woven_nil)))))))
statement_woven (mapping n source target arrows) =
    woven_keyword keyword.Map (woven_name n (woven_mark mark.Colon (woven_name source (woven_mark mark.Arrow (woven_name target (woven_mark mark.Equals (woven_mark mark.OpenSquare
    (pieces_then (grammar.listed (map grammar.arrow_pieces (map (λ (a : Arrow). plain_word a.image) arrows))) (grammar.the_mark mark.CloseSquare ∷ [])
    (listed_woven (λ (a : Arrow). plain_word a.image) grammar.arrow_pieces (λ (a : Arrow). a.generator ∷ word_names a.image) arrow_signs arrow_woven arrows)
    (woven_mark mark.CloseSquare woven_nil)))))))))
statement_woven (ask n q) = woven_keyword keyword.Ask (woven_name n (woven_mark mark.Colon (question_woven q)))
statement_woven (fund units) = woven_keyword keyword.Fund (woven_number units woven_nil)
statement_woven (grant n p units) = woven_keyword keyword.Grant (woven_name n (woven_keyword (grammar.procedure_keyword p) (woven_number units woven_nil)))
statement_woven (run bound) = woven_keyword keyword.Run (bound_woven bound)
statement_woven (cancel n p) = woven_keyword keyword.Cancel (woven_name n (woven_keyword (grammar.procedure_keyword p) woven_nil))
statement_woven (report what) = woven_keyword keyword.Report (printed_woven what)

-- the signs of a line
whole : (xs : List Lexeme) (ns : List Named) (ss : List Sign) → IsWoven xs ns ss → woven xs ns ≡ ss
whole xs ns ss f =
    ap (λ (l : List Lexeme). woven l ns) (sym (append-nil xs))
    ∙ (ap (λ (l : List Named). woven (xs ++ []) l) (sym (append-nil ns)) ∙ (f.so [] [] ∙ append-nil ss))

pub line_signs : (line : ScriptLine) (s : Statement) → IsReadable line → IsNamed line s → signs_of line ≡ statement_signs s
line_signs line s readable known =
    line_woven line.bytes line.tokens line.lexemes readable.paired
    ∙ (ap (λ (l : List Named). woven line.lexemes l) (sym known.names)
    ∙ (ap (λ (l : List Lexeme). woven l (statement_names s)) (sym known.written)
    ∙ whole (grammar.statement_lexemes (plain_statement s)) (statement_names s) (statement_signs s) (statement_woven s)))

-- a kept line can be read
token_inside : (line : List ℕ) (from : ℕ) (t : Token) → AreBlanks line from t.start → IsLongest (drop t.start line) t.kind t.length → IsInside line t
token_inside line from t blanks longest =
    let a = blanks.within in let b = longest.within in let e = length-drop t.start line in omega arith

cuts_inside : (line : List ℕ) (from : ℕ) (ts : List Token) (to : ℕ) → Cuts line from ts to → AllByRecursion (IsInside line) ts
cuts_inside line from [] to h = tt
cuts_inside line from (t ∷ ts) to h = (token_inside line from t h.0 h.1, cuts_inside line (t.start + t.length) ts to h.2)

pub tokens_are_readable : (line : List ℕ) (kept : ScriptLine) → kept.bytes ≡ line → AreTokens line kept.tokens → AllZip (IsLexemeOf line) kept.tokens kept.lexemes → IsReadable kept
tokens_are_readable line kept e ts xs = record {
  inside = subst (λ (bytes : List ℕ). AllByRecursion (IsInside bytes) kept.tokens) (sym e) (cuts_inside line 0 kept.tokens ts.end ts.cut);
  paired = sym (AllZip-long (IsLexemeOf line) kept.tokens kept.lexemes xs);
}

pub kept_is_readable : (counts after : Counts) (number : ℕ) (line : List ℕ) (kept : ScriptLine) → IsKept counts number line kept after → IsReadable kept
kept_is_readable counts after number line kept h = tokens_are_readable line kept h.bytes h.tokens h.lexemes
