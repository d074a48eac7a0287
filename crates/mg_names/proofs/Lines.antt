-- The lines that a script keeps are statements within its limits, and no more lines than it has bytes.
use Rattle.std.proofs.Common.{◌≡◌, ◌≢◌, ⊎_elim, ℕ, zero, suc, ◌+◌, ◌<◌, ◌≤◌, Some, None, List, [], ◌∷◌, ◌++◌, map, length, refl, sym, ap, subst, ◌∙◌, arith}
use Rattle.std.specs.Prelude.{filter}
use Rattle.std.specs.List.{AllByRecursion, AllZip}
use Rattle.std.proofs.lemmas.List.{length-append, length-map}
use Rattle.std.proofs.lemmas.List.Elements.{filter-append}
use Rattle.std.proofs.lemmas.Slice.Zip.{AllZip-long}
use Rattle.mg_lex.specs.declared.limits.TheConstants.{LINE_LIMIT, NUMBER_LIMIT}
use Rattle.mg_lex.specs.declared.mark.Mark.TheVariants as mark
use Rattle.mg_lex.specs.declared.token.Token.{Token}
use Rattle.mg_lex.specs.Line.{IsWithinLimits}
use Rattle.mg_terms.specs.declared.lexeme.Lexeme.{Lexeme}
use Rattle.mg_terms.specs.declared.lexeme.Lexeme.TheVariants as lexeme
use Rattle.mg_terms.specs.Lexeme.{IsLexemeOf}
use Rattle.mg_terms.specs.Word as tree
use Rattle.mg_script.specs.declared.counted.Counted.{Counted}
use Rattle.mg_script.specs.declared.counted.Counted.TheVariants as counted
use Rattle.mg_script.specs.declared.counted.Counts.{Counts}
use Rattle.mg_script.specs.declared.script.ScriptLine.{ScriptLine}
use Rattle.mg_script.specs.Lines.{AreLines}
use Rattle.mg_script.specs.Count.{limit_of, is_counted, how_many, Adds, AreWithinLimits, IsBounded}
use Rattle.mg_script.specs.Script.{counted_anew, IsKept, AreKept, IsScript}
use Rattle.mg_script.specs.Statement as grammar
use Rattle.mg_script.specs.Statement.{Piece, listed, listed_on, generator_names, relation_pieces, member_pieces, arrow_pieces, bar_pieces, statement_pieces, statement_lexemes, the_mark}
use Rattle.mg_names.specs.Named.{Word, Relation, relator, equation, Arrow, Question, equal, member, vanishes, central, has, Statement, group, word, subgroup, mapping, ask, fund, grant, run, cancel, report, plain_word, plain_relation, plain_question, plain_statement}
use Rattle.mg_names.specs.Within.{IsSizedWord, IsSizedRelation, IsSizedQuestion, IsSizedGroup, AreSizedWords, IsSized, IsReadLine}
use Rattle.mg_names.proofs.Members.{all_left, all_right, all_more, all_unmap}
use Rattle.mg_names.proofs.Signs.{kept_is_readable}
use Rattle.mg_names.proofs.Trees.{there_is_one}

-- numbers in a line are not too large
abbrev IsSmall : Lexeme → Type 0
IsSmall (lexeme.Number n) = n ≤ NUMBER_LIMIT
IsSmall x = Unit {0}

small_one : (line : List ℕ) (t : Token) (x : Lexeme) → IsWithinLimits line t → IsLexemeOf line t x → IsSmall x
small_one line t lexeme.Name within is = tt
small_one line t (lexeme.Keyword k) within is = tt
small_one line t lexeme.RelatorSign within is = tt
small_one line t (lexeme.Number n) within is = let h = within.number is.0 in omega (arith, h, is.1)
small_one line t (lexeme.Mark m) within is = tt

small_all : (line : List ℕ) (ts : List Token) (xs : List Lexeme) → AllByRecursion (IsWithinLimits line) ts → AllZip (IsLexemeOf line) ts xs → AllByRecursion IsSmall xs
small_all line [] [] within is = tt
small_all line [] (x ∷ xs) within is = absurd is
small_all line (t ∷ ts) [] within is = tt
small_all line (t ∷ ts) (x ∷ xs) within is = (small_one line t x within.0 is.0, small_all line ts xs within.1 is.1)

-- how many pieces are counted as something
how_many-append : (k : Counted) (ps qs : List Piece) → how_many k (ps ++ qs) ≡ how_many k ps + how_many k qs
how_many-append k ps qs = ap length (filter-append (is_counted k) ps qs) ∙ length-append (filter (is_counted k) ps) (filter (is_counted k) qs)

listed_on_many : {B : Type 0} (k : Counted) (f : B → List Piece) → ((b : B) → how_many k (f b) ≡ 1) → (bs : List B) → how_many k (listed_on (map f bs)) ≡ length bs
listed_on_many k f one [] = refl
listed_on_many k f one (b ∷ bs) = omega (arith, how_many-append k (f b) (listed_on (map f bs)), one b, listed_on_many k f one bs)

listed_many : {B : Type 0} (k : Counted) (f : B → List Piece) → ((b : B) → how_many k (f b) ≡ 1) → (bs : List B) → how_many k (listed (map f bs)) ≡ length bs
listed_many k f one [] = refl
listed_many k f one (b ∷ bs) = omega (arith, how_many-append k (f b) (listed_on (map f bs)), one b, listed_on_many k f one bs)

generators_on_many : (n : ℕ) → how_many counted.Generators (listed_on (generator_names n)) ≡ n
generators_on_many zero = refl
generators_on_many (suc n) = omega (arith, generators_on_many n)

generators_many : (n : ℕ) → how_many counted.Generators (listed (generator_names n)) ≡ n
generators_many zero = refl
generators_many (suc n) = omega (arith, generators_on_many n)

one_relator : (r : grammar.Relation) → how_many counted.Relators (relation_pieces r) ≡ 1
one_relator (grammar.relator w) = refl
one_relator (grammar.equation u v) = refl

-- the words of the members of a list are bounded
listed_on_bounded : {B : Type 0} (f : B → List Piece) (bs : List B) → AllByRecursion IsBounded (listed_on (map f bs)) → AllByRecursion (λ b. AllByRecursion IsBounded (f b)) bs
listed_on_bounded f [] h = tt
listed_on_bounded f (b ∷ bs) h = (all_left IsBounded (f b) (listed_on (map f bs)) h.1, listed_on_bounded f bs (all_right IsBounded (f b) (listed_on (map f bs)) h.1))

listed_bounded : {B : Type 0} (f : B → List Piece) (bs : List B) → AllByRecursion IsBounded (listed (map f bs)) → AllByRecursion (λ b. AllByRecursion IsBounded (f b)) bs
listed_bounded f [] h = tt
listed_bounded f (b ∷ bs) h = (all_left IsBounded (f b) (listed_on (map f bs)) h, listed_on_bounded f bs (all_right IsBounded (f b) (listed_on (map f bs)) h))

relation_sized : (r : Relation) → AllByRecursion IsBounded (relation_pieces (plain_relation r)) → IsSizedRelation r
relation_sized (relator w) h = h.0
relation_sized (equation u v) h = (h.0, h.1.1.0)

-- what a counted statement comes to is within the limits
limited : (counts after : Counts) (ps : List Piece) (k : Counted) → Adds ps (counted_anew counts) after → AreWithinLimits after → how_many k ps ≤ limit_of k
limited counts after ps k adds within = let e = adds.counted k in let h = within.counted k in omega (arith, e, h)

group_sized : (counts after : Counts) (n : ℕ) (rs : List Relation) → Adds (statement_pieces (grammar.group n (Some (map plain_relation rs)))) (counted_anew counts) after → AreWithinLimits after
    → AllByRecursion IsBounded (statement_pieces (grammar.group n (Some (map plain_relation rs)))) → IsSizedGroup n (length rs) rs
group_sized counts after n rs adds within bounded =
    let ps : List Piece = statement_pieces (grammar.group n (Some (map plain_relation rs))) in
    let relations : List Piece = listed (map relation_pieces (map plain_relation rs)) in
    let back : List Piece = the_mark mark.Bar ∷ relations ++ the_mark mark.Greater ∷ [] in
    let generators : how_many counted.Generators ps ≤ limit_of counted.Generators = limited counts after ps counted.Generators adds within in
    let relators : how_many counted.Relators ps ≤ limit_of counted.Relators = limited counts after ps counted.Relators adds within in
    record {
      few_generators = omega (arith, generators, generators_many n, how_many-append counted.Generators (listed (generator_names n)) back);
      few_relations = omega (
        arith,
        relators,
        listed_many counted.Relators relation_pieces one_relator (map plain_relation rs),
        length-map rs plain_relation,
        how_many-append counted.Relators (listed (generator_names n)) back,
        how_many-append counted.Relators relations (the_mark mark.Greater ∷ []),
      );
      each = all_more (λ (r : Relation). AllByRecursion IsBounded (relation_pieces (plain_relation r))) IsSizedRelation relation_sized rs
          (all_unmap (λ (r : grammar.Relation). AllByRecursion IsBounded (relation_pieces r)) plain_relation rs
          (listed_bounded relation_pieces (map plain_relation rs) (all_left IsBounded relations (the_mark mark.Greater ∷ []) (all_right IsBounded (listed (generator_names n)) back bounded.1.1.1.1).1)));
    }

bare_group_sized : (counts after : Counts) (n : ℕ) → Adds (statement_pieces (grammar.group n None)) (counted_anew counts) after → AreWithinLimits after → IsSizedGroup n 0 []
bare_group_sized counts after n adds within =
    let ps : List Piece = statement_pieces (grammar.group n None) in
    let generators : how_many counted.Generators ps ≤ limit_of counted.Generators = limited counts after ps counted.Generators adds within in
    record {
      few_generators = omega (arith, generators, generators_many n, how_many-append counted.Generators (listed (generator_names n)) (the_mark mark.Greater ∷ []));
      few_relations = omega arith;
      each = tt;
    }

subgroup_sized : (counts after : Counts) (ws : List Word) → Adds (statement_pieces (grammar.subgroup (map plain_word ws))) (counted_anew counts) after → AreWithinLimits after
    → AllByRecursion IsBounded (statement_pieces (grammar.subgroup (map plain_word ws))) → AreSizedWords ws
subgroup_sized counts after ws adds within bounded =
    let ps : List Piece = statement_pieces (grammar.subgroup (map plain_word ws)) in
    let members : List Piece = listed (map member_pieces (map plain_word ws)) in
    let few : how_many counted.Members ps ≤ limit_of counted.Members = limited counts after ps counted.Members adds within in
    record {
      few = omega (arith, few, listed_many counted.Members member_pieces (λ w. refl) (map plain_word ws), length-map ws plain_word, how_many-append counted.Members members (the_mark mark.Greater ∷ []));
      each = all_more (λ (w : Word). AllByRecursion IsBounded (member_pieces (plain_word w))) IsSizedWord (λ w h. h.0) ws
          (all_unmap (λ w. AllByRecursion IsBounded (member_pieces w)) plain_word ws
          (listed_bounded member_pieces (map plain_word ws) (all_left IsBounded members (the_mark mark.Greater ∷ []) bounded.1.1.1.1.1.1)));
    }

mapping_sized : (arrows : List Arrow) → AllByRecursion IsBounded (statement_pieces (grammar.mapping (map (λ a. plain_word a.image) arrows))) → AllByRecursion (λ a. IsSizedWord a.image) arrows
mapping_sized arrows bounded =
    let image : Arrow → tree.Word = λ a. plain_word a.image in
    let members : List Piece = listed (map arrow_pieces (map image arrows)) in
    all_more (λ (a : Arrow). AllByRecursion IsBounded (arrow_pieces (image a))) (λ (a : Arrow). IsSizedWord a.image) (λ a h. h.1.1.0) arrows
    (all_unmap (λ w. AllByRecursion IsBounded (arrow_pieces w)) image arrows
    (listed_bounded arrow_pieces (map image arrows) (all_left IsBounded members (the_mark mark.CloseSquare ∷ []) bounded.1.1.1.1.1.1.1.1)))

question_sized : (q : Question) → AllByRecursion IsBounded (statement_pieces (grammar.ask (plain_question q))) → IsSizedQuestion q
question_sized (equal u v g) h = (h.1.1.1.0, h.1.1.1.1.1.0)
question_sized (member w g) h = h.1.1.1.0
question_sized (vanishes w f) h = h.1.1.1.0
question_sized (central w g) h = h.1.1.1.0
question_sized (has n p) h = tt

statement_sized : (counts after : Counts) (s : Statement) → Adds (statement_pieces (plain_statement s)) (counted_anew counts) after → AreWithinLimits after → AllByRecursion IsBounded (statement_pieces (plain_statement s))
    → AllByRecursion IsSmall (statement_lexemes (plain_statement s)) → IsSized s
statement_sized counts after (group n generators None) adds within bounded small = bare_group_sized counts after (length generators) adds within
statement_sized counts after (group n generators (Some rs)) adds within bounded small = group_sized counts after (length generators) rs adds within bounded
statement_sized counts after (word n g w) adds within bounded small = bounded.1.1.1.1.1.0
statement_sized counts after (subgroup n g ws) adds within bounded small = subgroup_sized counts after ws adds within bounded
statement_sized counts after (mapping n a b arrows) adds within bounded small = mapping_sized arrows bounded
statement_sized counts after (ask n q) adds within bounded small = question_sized q bounded
statement_sized counts after (fund units) adds within bounded small = small.1.0
statement_sized counts after (grant n p units) adds within bounded small = small.1.1.1.0
statement_sized counts after (run None) adds within bounded small = tt
statement_sized counts after (run (Some bound)) adds within bounded small = small.1.0
statement_sized counts after (cancel n p) adds within bounded small = tt
statement_sized counts after (report what) adds within bounded small = tt

-- a kept line
kept_is_read : (counts : Counts) (number : ℕ) (line : List ℕ) (kept : ScriptLine) (after : Counts) → IsKept (counted_anew counts) number line kept after → IsReadLine kept
kept_is_read counts number line kept after h =
    let long : length kept.lexemes ≡ length kept.tokens = AllZip-long (IsLexemeOf line) kept.tokens kept.lexemes h.lexemes in
    let one = there_is_one kept h.statement h.written long in
    let s : Statement = one.0 in
    let same : plain_statement s ≡ h.statement = one.2 in
    let small : AllByRecursion IsSmall kept.lexemes = small_all line kept.tokens kept.lexemes h.tokens.within_limits h.lexemes in
    record {
      statement = s;
      is_named = one.1;
      readable = kept_is_readable (counted_anew counts) after number line kept h;
      places = all_more (IsWithinLimits line) (λ (t : Token). t.start < LINE_LIMIT) (λ t w. w.begins) kept.tokens h.tokens.within_limits;
      sized = statement_sized counts after s (subst (λ (g : grammar.Statement). Adds (statement_pieces g) (counted_anew counts) after) (sym same) h.adds) h.within
          (subst (λ (g : grammar.Statement). AllByRecursion IsBounded (statement_pieces g)) (sym same) h.bounded) (subst (λ (xs : List Lexeme). AllByRecursion IsSmall xs) (sym one.1.written) small);
    }

kept_are_read : (counts : Counts) (number : ℕ) (lines : List (List ℕ)) (kept : List ScriptLine) (after : Counts) → AreKept counts number lines kept after → AllByRecursion IsReadLine kept
kept_are_read counts number [] kept after h = subst (λ (ks : List ScriptLine). AllByRecursion IsReadLine ks) (sym h.0) tt
kept_are_read counts number (line ∷ lines) kept after h =
    ⊎_elim (λ skipped. kept_are_read counts (number + 1) lines kept after skipped.1)
    (λ here. subst (λ (ks : List ScriptLine). AllByRecursion IsReadLine ks) (sym here.3)
    (kept_is_read counts number line here.0 here.2 here.4, kept_are_read here.2 (number + 1) lines here.1 after here.5)) h

pub all_read : (bytes : List ℕ) (script : List ScriptLine) → IsScript bytes script → AllByRecursion IsReadLine script
all_read bytes script is = kept_are_read _ 1 is.lines script is.counts is.kept

-- no more lines than bytes
kept_few : (counts : Counts) (number : ℕ) (lines : List (List ℕ)) (kept : List ScriptLine) (after : Counts) → AreKept counts number lines kept after → length kept ≤ length lines
kept_few counts number [] kept after h = omega (arith, ap length h.0)
kept_few counts number (line ∷ lines) kept after h =
    ⊎_elim (λ skipped. let less = kept_few counts (number + 1) lines kept after skipped.1 in omega (arith, less))
    (λ here. let less = kept_few here.2 (number + 1) lines here.1 after here.5 in omega (arith, less, ap length here.3)) h

some_bytes : (line : List ℕ) → line ≢ [] → 1 ≤ length line
some_bytes [] some = absurd (some refl)
some_bytes (b ∷ bs) some = omega arith

lines_few : (bytes : List ℕ) (lines : List (List ℕ)) → AreLines bytes lines → length lines ≤ length bytes
lines_few bytes [] h = omega arith
lines_few bytes (line ∷ lines) h =
    ⊎_elim
    (λ ended. let less = lines_few ended.0 lines ended.2 in
    ⊎_elim (λ feed. omega (arith, less, ap length feed.0, length-append line (10 ∷ ended.0)))
    (λ both. omega (arith, less, ap length both, length-append line (13 ∷ 10 ∷ ended.0))) ended.1.1)
    (λ last. let some = some_bytes line last.0.1 in omega (arith, some, ap length last.0.0, ap length last.1)) h

pub script_few : (bytes : List ℕ) (script : List ScriptLine) → IsScript bytes script → length script ≤ length bytes
script_few bytes script is =
    let kept = kept_few _ 1 is.lines script is.counts is.kept in
    let cut = lines_few bytes is.lines is.cut in
    omega (arith, kept, cut)
