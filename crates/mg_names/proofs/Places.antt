-- The causes of a statement stand at places of its line.
use Rattle.std.proofs.Common.{ℕ, ◌+◌, ◌<◌, Bool, true, false, Option, Some, None, List, [], ◌∷◌, ◌++◌, length, sym, subst, arith}
use Rattle.std.specs.Prelude.{nat_lt, if◌then◌else◌, ◌==◌, slice_get}
use Rattle.std.specs.List.{AllByRecursion, flat_map}
use Rattle.std.proofs.lemmas.List.Elements.{All-from_recursion, All-contains}
use Rattle.mg_lex.specs.declared.limits.TheConstants.{LINE_LIMIT}
use Rattle.mg_lex.specs.declared.refusal.Cause.TheVariants as cause
use Rattle.mg_lex.specs.declared.token.Token.{Token}
use Rattle.mg_terms.specs.declared.lexeme.Lexeme.{Lexeme}
use Rattle.mg_terms.specs.declared.lexeme.Lexeme.TheVariants as lexeme
use Rattle.mg_words.specs.declared.procedure.Procedure.{Procedure}
use Rattle.mg_script.specs.declared.form.Property.{Property}
use Rattle.mg_script.specs.declared.form.Property.TheVariants as property
use Rattle.mg_script.specs.declared.script.ScriptLine.{ScriptLine}
use Rattle.mg_present.specs.declared.ask.TheConstants.{MOST_GOALS}
use Rattle.mg_questions.specs.Goals.{goals_of}
use Rattle.mg_names.specs.declared.limits.TheConstants.{ASK_LETTER_LIMIT}
use Rattle.mg_names.specs.Plan.{PlanQuestion, Asked, plain}
use Rattle.mg_names.specs.Named.{Named, named, one, round, commutator, bare, power, Word, single, times, Relation, relator, equation, Arrow, Question, equal, member, vanishes, central, has, Statement, group, word, subgroup, mapping, ask, fund, grant, run, cancel, report, word_names, relation_names, bar_names, question_names, statement_names, names_in, IsNamed}
use Rattle.mg_names.specs.Scope.{Scope, Object, a_group, a_word, a_subgroup, a_map, a_question, Declared, lookup, generator_place}
use Rattle.mg_names.specs.Meaning.{Asking, ask_letters, relations_in, texts, group_at, question_named, is_named, ask_for}
use Rattle.mg_names.specs.Cause.{Shown, IsFirst, at, taken, taken_if, not_a_group, not_a_subgroup, not_a_map, not_a_question, no_letter, not_a_letter, no_word, in_word, in_relation, is_among, twice, twice_behind, of_group, of_subgroup, of_source, has_all, missing, lefts, last_place, third_place, in_mapping, not_the_subject, in_question, has_long, too_large, too_large_unless, applies, of_asked, not_applying, one_more_is_too_many, too_many_searches, not_applying_to, shown}
use Rattle.mg_names.proofs.Members.{all_append, all_left, all_right}

abbrev pub IsPlace : ℕ → Type 0
IsPlace k = k < LINE_LIMIT

abbrev IsIn : Shown → Type 0
IsIn s = IsPlace s.place

abbrev AreIn : List Shown → Type 0
AreIn ss = AllByRecursion IsIn ss

abbrev AreNamesIn : List Named → Type 0
AreNamesIn ns = AllByRecursion (λ n. IsPlace n.place) ns

both_in : (a b : List Shown) → AreIn a → AreIn b → AreIn (a ++ b)
both_in a b h k = all_append IsIn a b h k

if_in : (b : Bool) (ss : List Shown) → AreIn ss → AreIn (if b then ss else [])
if_in true ss h = h
if_in false ss h = tt

unless_in : (b : Bool) (ss : List Shown) → AreIn ss → AreIn (if b then [] else ss)
unless_in true ss h = tt
unless_in false ss h = h

taken_in : (n : Named) (found : Option Object) → IsPlace n.place → AreIn (taken_if n found)
taken_in n None h = tt
taken_in n (Some o) h = (h, tt)

group_in : (n : Named) (found : Option Object) → IsPlace n.place → AreIn (not_a_group n found)
group_in n None h = (h, tt)
group_in n (Some (a_group k)) h = tt
group_in n (Some (a_word k w)) h = (h, tt)
group_in n (Some (a_subgroup k ws)) h = (h, tt)
group_in n (Some (a_map j k ws)) h = (h, tt)
group_in n (Some (a_question k)) h = (h, tt)

subgroup_in : (n : Named) (found : Option Object) → IsPlace n.place → AreIn (not_a_subgroup n found)
subgroup_in n None h = (h, tt)
subgroup_in n (Some (a_group k)) h = (h, tt)
subgroup_in n (Some (a_word k w)) h = (h, tt)
subgroup_in n (Some (a_subgroup k ws)) h = tt
subgroup_in n (Some (a_map j k ws)) h = (h, tt)
subgroup_in n (Some (a_question k)) h = (h, tt)

map_in : (n : Named) (found : Option Object) → IsPlace n.place → AreIn (not_a_map n found)
map_in n None h = (h, tt)
map_in n (Some (a_group k)) h = (h, tt)
map_in n (Some (a_word k w)) h = (h, tt)
map_in n (Some (a_subgroup k ws)) h = (h, tt)
map_in n (Some (a_map j k ws)) h = tt
map_in n (Some (a_question k)) h = (h, tt)

question_in : (n : Named) (found : Option Object) → IsPlace n.place → AreIn (not_a_question n found)
question_in n None h = (h, tt)
question_in n (Some (a_group k)) h = (h, tt)
question_in n (Some (a_word k w)) h = (h, tt)
question_in n (Some (a_subgroup k ws)) h = (h, tt)
question_in n (Some (a_map j k ws)) h = (h, tt)
question_in n (Some (a_question k)) h = tt

letter_in : (n : Named) (found : Option Object) (o : Option ℕ) → IsPlace n.place → AreIn (no_letter n found o)
letter_in n None None h = (h, tt)
letter_in n None (Some i) h = tt
letter_in n (Some x) None h = (h, tt)
letter_in n (Some x) (Some i) h = tt

word_or_in : (place : ℕ) (n : Named) (found : Option Object) (o : Option ℕ) → IsPlace n.place → AreIn (no_word place n found o)
word_or_in place n None (Some i) h = tt
word_or_in place n None None h = (h, tt)
word_or_in place n (Some (a_group k)) (Some i) h = tt
word_or_in place n (Some (a_group k)) None h = (h, tt)
word_or_in place n (Some (a_word k w)) (Some i) h = tt
word_or_in place n (Some (a_word k w)) None h = unless_in (place == k) (at cause.WrongKind n.place) (h, tt)
word_or_in place n (Some (a_subgroup k ws)) (Some i) h = tt
word_or_in place n (Some (a_subgroup k ws)) None h = (h, tt)
word_or_in place n (Some (a_map j k ws)) (Some i) h = tt
word_or_in place n (Some (a_map j k ws)) None h = (h, tt)
word_or_in place n (Some (a_question k)) (Some i) h = tt
word_or_in place n (Some (a_question k)) None h = (h, tt)

letters_in : (ds : List Declared) (gs : List (List ℕ)) (ns : List Named) → AreNamesIn ns → AreIn (flat_map (not_a_letter ds gs) ns)
letters_in ds gs [] h = tt
letters_in ds gs (n ∷ ns) h = both_in (not_a_letter ds gs n) (flat_map (not_a_letter ds gs) ns) (letter_in n (lookup ds n.text) (generator_place gs n.text) h.0) (letters_in ds gs ns h.1)

names_in_word : (ds : List Declared) (place : ℕ) (gs : List (List ℕ)) (w : Word) → AreNamesIn (word_names w) → AreIn (in_word ds place gs w)
names_in_word ds place gs (single (bare (named n))) h = word_or_in place n (lookup ds n.text) (generator_place gs n.text) h.0
names_in_word ds place gs (single (bare one)) h = tt
names_in_word ds place gs (single (bare (round w))) h = letters_in ds gs (word_names w) h
names_in_word ds place gs (single (bare (commutator u v))) h = letters_in ds gs (word_names (single (bare (commutator u v)))) h
names_in_word ds place gs (single (power b negative k)) h = letters_in ds gs (word_names (single (power b negative k))) h
names_in_word ds place gs (times w star f) h = letters_in ds gs (word_names (times w star f)) h

section_in : {X : Type 0} (f : X → List Shown) (names : X → List Named) → ((x : X) → AreNamesIn (names x) → AreIn (f x)) → (xs : List X) → AreNamesIn (flat_map names xs) → AreIn (flat_map f xs)
section_in f names one_in [] h = tt
section_in f names one_in (x ∷ xs) h =
    both_in (f x) (flat_map f xs) (one_in x (all_left (λ (n : Named). IsPlace n.place) (names x) (flat_map names xs) h)) (section_in f names one_in xs (all_right (λ (n : Named). IsPlace n.place) (names x) (flat_map names xs) h))

relation_in : (ds : List Declared) (place : ℕ) (gs : List (List ℕ)) (r : Relation) → AreNamesIn (relation_names r) → AreIn (in_relation ds place gs r)
relation_in ds place gs (relator w) h = names_in_word ds place gs w h
relation_in ds place gs (equation u v) h =
    both_in (in_word ds place gs u) (in_word ds place gs v) (names_in_word ds place gs u (all_left (λ (n : Named). IsPlace n.place) (word_names u) (word_names v) h))
    (names_in_word ds place gs v (all_right (λ (n : Named). IsPlace n.place) (word_names u) (word_names v) h))

bar_in : (ds : List Declared) (place : ℕ) (gs : List (List ℕ)) (rs : Option (List Relation)) → AreNamesIn (bar_names rs) → AreIn (flat_map (in_relation ds place gs) (relations_in rs))
bar_in ds place gs None h = tt
bar_in ds place gs (Some rs) h = section_in (in_relation ds place gs) relation_names (relation_in ds place gs) rs h

twice_in : (earlier : List (List ℕ)) (ns : List Named) → AreNamesIn ns → AreIn (twice_behind earlier ns)
twice_in earlier [] h = tt
twice_in earlier (n ∷ ns) h =
    both_in (if is_among earlier n.text then at cause.GeneratorTwice n.place else []) (twice_behind (earlier ++ n.text ∷ []) ns) (if_in (is_among earlier n.text) (at cause.GeneratorTwice n.place) (h.0, tt)) (twice_in (earlier ++ n.text ∷ []) ns h.1)

of_group_in : (scope : Scope) (f : ℕ → List (List ℕ) → List Shown) (found : Option Object) → ((place : ℕ) (gs : List (List ℕ)) → AreIn (f place gs)) → AreIn (of_group scope f found)
of_group_in scope f None h = tt
of_group_in scope f (Some (a_group k)) h = h k (group_at scope k).generators
of_group_in scope f (Some (a_word k w)) h = tt
of_group_in scope f (Some (a_subgroup k ws)) h = tt
of_group_in scope f (Some (a_map j k ws)) h = tt
of_group_in scope f (Some (a_question k)) h = tt

of_subgroup_in : (scope : Scope) (f : ℕ → List (List ℕ) → List Shown) (found : Option Object) → ((place : ℕ) (gs : List (List ℕ)) → AreIn (f place gs)) → AreIn (of_subgroup scope f found)
of_subgroup_in scope f None h = tt
of_subgroup_in scope f (Some (a_group k)) h = tt
of_subgroup_in scope f (Some (a_word k w)) h = tt
of_subgroup_in scope f (Some (a_subgroup k ws)) h = h k (group_at scope k).generators
of_subgroup_in scope f (Some (a_map j k ws)) h = tt
of_subgroup_in scope f (Some (a_question k)) h = tt

of_source_in : (scope : Scope) (f : ℕ → List (List ℕ) → List Shown) (found : Option Object) → ((place : ℕ) (gs : List (List ℕ)) → AreIn (f place gs)) → AreIn (of_source scope f found)
of_source_in scope f None h = tt
of_source_in scope f (Some (a_group k)) h = tt
of_source_in scope f (Some (a_word k w)) h = tt
of_source_in scope f (Some (a_subgroup k ws)) h = tt
of_source_in scope f (Some (a_map j k ws)) h = h j (group_at scope j).generators
of_source_in scope f (Some (a_question k)) h = tt

lefts_in : (arrows : List Arrow) → AreNamesIn (flat_map (λ a. a.generator ∷ word_names a.image) arrows) → AreNamesIn (lefts arrows)
lefts_in [] h = tt
lefts_in (a ∷ arrows) h = (h.0, lefts_in arrows (all_right (λ (n : Named). IsPlace n.place) (word_names a.image) (flat_map (λ (b : Arrow). b.generator ∷ word_names b.image) arrows) h.1))

mapping_in : (scope : Scope) (line : ScriptLine) (arrows : List Arrow) (from to : Option Object) → IsPlace (last_place line.tokens) → AreNamesIn (flat_map (λ a. a.generator ∷ word_names a.image) arrows) → AreIn (in_mapping scope line arrows from to)
mapping_in scope line arrows from to last h =
    let left : AreNamesIn (lefts arrows) = lefts_in arrows h in
    all_append IsIn (of_group scope (λ place gs. flat_map (not_a_letter scope.names gs) (lefts arrows)) from) _
    (of_group_in scope (λ place gs. flat_map (not_a_letter scope.names gs) (lefts arrows)) from (λ place gs. letters_in scope.names gs (lefts arrows) left))
    (all_append IsIn (twice (lefts arrows)) _ (twice_in [] (lefts arrows) left)
    (all_append IsIn (of_group scope (λ place gs. missing (texts (lefts arrows)) (last_place line.tokens) gs) from) _
    (of_group_in scope (λ place gs. missing (texts (lefts arrows)) (last_place line.tokens) gs) from (λ place gs. unless_in (has_all (texts (lefts arrows)) gs) (at cause.ImageMissing (last_place line.tokens)) (last, tt)))
    (of_group_in scope (λ place gs. flat_map (λ a. in_word scope.names place gs a.image) arrows) to
    (λ place gs. section_in (λ (a : Arrow). in_word scope.names place gs a.image) (λ (a : Arrow). a.generator ∷ word_names a.image) (λ a k. names_in_word scope.names place gs a.image k.1) arrows h))))

subject_in : (p : Property) (n : Named) (found : Option Object) → IsPlace n.place → AreIn (not_the_subject p n found)
subject_in property.Trivial n found h = group_in n found h
subject_in property.Abelian n found h = group_in n found h
subject_in property.Normal n found h = subgroup_in n found h
subject_in property.Extends n found h = map_in n found h
subject_in property.Onto n found h = map_in n found h

last_in : (ns : List Named) (n : Named) → AreNamesIn (ns ++ n ∷ []) → AreNamesIn ns × IsPlace n.place
last_in ns n h = (all_left (λ (m : Named). IsPlace m.place) ns (n ∷ []) h, (all_right (λ (m : Named). IsPlace m.place) ns (n ∷ []) h).0)

asked_in : (scope : Scope) (q : Question) → AreNamesIn (question_names q) → AreIn (in_question scope q)
asked_in scope (equal u v g) h =
    let first = all_left (λ (n : Named). IsPlace n.place) (word_names u) (word_names v ++ g ∷ []) h in
    let rest = last_in (word_names v) g (all_right (λ (n : Named). IsPlace n.place) (word_names u) (word_names v ++ g ∷ []) h) in
    both_in (not_a_group g (lookup scope.names g.text)) (of_group scope (λ place gs. in_word scope.names place gs u ++ in_word scope.names place gs v) (lookup scope.names g.text)) (group_in g (lookup scope.names g.text) rest.1)
    (of_group_in scope (λ place gs. in_word scope.names place gs u ++ in_word scope.names place gs v) (lookup scope.names g.text)
    (λ place gs. both_in (in_word scope.names place gs u) (in_word scope.names place gs v) (names_in_word scope.names place gs u first) (names_in_word scope.names place gs v rest.0)))
asked_in scope (member w g) h =
    let rest = last_in (word_names w) g h in
    both_in (not_a_subgroup g (lookup scope.names g.text)) (of_subgroup scope (λ place gs. in_word scope.names place gs w) (lookup scope.names g.text)) (subgroup_in g (lookup scope.names g.text) rest.1)
    (of_subgroup_in scope (λ place gs. in_word scope.names place gs w) (lookup scope.names g.text) (λ place gs. names_in_word scope.names place gs w rest.0))
asked_in scope (vanishes w g) h =
    let rest = last_in (word_names w) g h in
    both_in (not_a_map g (lookup scope.names g.text)) (of_source scope (λ place gs. in_word scope.names place gs w) (lookup scope.names g.text)) (map_in g (lookup scope.names g.text) rest.1)
    (of_source_in scope (λ place gs. in_word scope.names place gs w) (lookup scope.names g.text) (λ place gs. names_in_word scope.names place gs w rest.0))
asked_in scope (central w g) h =
    let rest = last_in (word_names w) g h in
    both_in (not_a_group g (lookup scope.names g.text)) (of_group scope (λ place gs. in_word scope.names place gs w) (lookup scope.names g.text)) (group_in g (lookup scope.names g.text) rest.1)
    (of_group_in scope (λ place gs. in_word scope.names place gs w) (lookup scope.names g.text) (λ place gs. names_in_word scope.names place gs w rest.0))
asked_in scope (has n p) h = subject_in p n (lookup scope.names n.text) h.0

large_in : (scope : Scope) (n : Named) (a : Option Asking) → IsPlace n.place → AreIn (too_large scope n a)
large_in scope n None h = tt
large_in scope n (Some a) h =
    let long : Bool = has_long (goals_of a.question) in
    let many : Bool = nat_lt MOST_GOALS (length (goals_of a.question)) in
    let letters : Bool = nat_lt ASK_LETTER_LIMIT (scope.letters + ask_letters (ask_for a.question)) in
    let too_many : List Shown = at cause.TooMany n.place in
    let too_long : List Shown = at cause.WordTooLong n.place in
    all_append IsIn (if long then too_long else []) ((if many then too_many else []) ++ (if letters then too_many else [])) (if_in long too_long (h, tt))
    (all_append IsIn (if many then too_many else []) (if letters then too_many else []) (if_in many too_many (h, tt)) (if_in letters too_many (h, tt)))

unless_large_in : (ss : List Shown) (scope : Scope) (n : Named) (a : Option Asking) → IsPlace n.place → AreIn (too_large_unless ss scope n a)
unless_large_in [] scope n a h = large_in scope n a h
unless_large_in (s ∷ ss) scope n a h = tt

asked_one_in : (p : Procedure) (place : ℕ) (a : Asked) → IsPlace place → AreIn (of_asked p place a)
asked_one_in p place (plain a) h = unless_in (applies p a) (at cause.ProcedureDoesNotApply place) (h, tt)

applying_in : (p : Procedure) (place : ℕ) (q : Option PlanQuestion) → IsPlace place → AreIn (not_applying p place q)
applying_in p place None h = tt
applying_in p place (Some q) h = asked_one_in p place q.asked h

searches_in : (scope : Scope) (p : Procedure) (place : ℕ) (found : Option Object) → IsPlace place → AreIn (too_many_searches scope p place found)
searches_in scope p place None h = tt
searches_in scope p place (Some (a_group k)) h = tt
searches_in scope p place (Some (a_word k w)) h = tt
searches_in scope p place (Some (a_subgroup k ws)) h = tt
searches_in scope p place (Some (a_map j k ws)) h = tt
searches_in scope p place (Some (a_question k)) h = unless_in (is_named scope.searches k p) (if one_more_is_too_many scope.searches p then at cause.TooMany place else []) (if_in (one_more_is_too_many scope.searches p) (at cause.TooMany place) (h, tt))

applying_to_in : (scope : Scope) (p : Procedure) (place : ℕ) (found : Option Object) → IsPlace place → AreIn (not_applying_to scope p place found)
applying_to_in scope p place None h = tt
applying_to_in scope p place (Some (a_group k)) h = tt
applying_to_in scope p place (Some (a_word k w)) h = tt
applying_to_in scope p place (Some (a_subgroup k ws)) h = tt
applying_to_in scope p place (Some (a_map j k ws)) h = tt
applying_to_in scope p place (Some (a_question k)) h = applying_in p place (slice_get scope.plan.questions k) h

shown_in : (scope : Scope) (line : ScriptLine) (s : Statement) → IsPlace (last_place line.tokens) → IsPlace (third_place line.tokens) → AreNamesIn (statement_names s) → AreIn (shown scope line s)
shown_in scope line (group n gs rs) last third h =
    let P : Named → Type 0 = λ m. IsPlace m.place in
    all_append IsIn (taken scope n) _ (taken_in n (lookup scope.names n.text) h.0)
    (all_append IsIn (twice gs) _ (twice_in [] gs (all_left P gs (bar_names rs) h.1)) (bar_in scope.names (length scope.plan.groups) (texts gs) rs (all_right P gs (bar_names rs) h.1)))
shown_in scope line (word n g w) last third h =
    all_append IsIn (taken scope n) _ (taken_in n (lookup scope.names n.text) h.0)
    (all_append IsIn (not_a_group g (lookup scope.names g.text)) _ (group_in g (lookup scope.names g.text) h.1.0)
    (of_group_in scope (λ place gs. in_word scope.names place gs w) (lookup scope.names g.text) (λ place gs. names_in_word scope.names place gs w h.1.1)))
shown_in scope line (subgroup n g ws) last third h =
    all_append IsIn (taken scope n) _ (taken_in n (lookup scope.names n.text) h.0)
    (all_append IsIn (not_a_group g (lookup scope.names g.text)) _ (group_in g (lookup scope.names g.text) h.1.0)
    (of_group_in scope (λ place gs. flat_map (in_word scope.names place gs) ws) (lookup scope.names g.text)
    (λ place gs. section_in (in_word scope.names place gs) word_names (names_in_word scope.names place gs) ws h.1.1)))
shown_in scope line (mapping n a b arrows) last third h =
    all_append IsIn (taken scope n) _ (taken_in n (lookup scope.names n.text) h.0)
    (all_append IsIn (not_a_group a (lookup scope.names a.text)) _ (group_in a (lookup scope.names a.text) h.1.0)
    (all_append IsIn (not_a_group b (lookup scope.names b.text)) _ (group_in b (lookup scope.names b.text) h.1.1.0)
    (mapping_in scope line arrows (lookup scope.names a.text) (lookup scope.names b.text) last h.1.1.1)))
shown_in scope line (ask n q) last third h =
    all_append IsIn (taken scope n) _ (taken_in n (lookup scope.names n.text) h.0)
    (all_append IsIn (in_question scope q) _ (asked_in scope q h.1) (unless_large_in (in_question scope q) scope n (question_named scope q) h.0))
shown_in scope line (grant n p units) last third h =
    all_append IsIn (not_a_question n (lookup scope.names n.text)) _ (question_in n (lookup scope.names n.text) h.0)
    (all_append IsIn (too_many_searches scope p (third_place line.tokens) (lookup scope.names n.text)) _ (searches_in scope p (third_place line.tokens) (lookup scope.names n.text) third)
    (applying_to_in scope p (third_place line.tokens) (lookup scope.names n.text) third))
shown_in scope line (cancel n p) last third h =
    all_append IsIn (not_a_question n (lookup scope.names n.text)) _ (question_in n (lookup scope.names n.text) h.0) (applying_to_in scope p (third_place line.tokens) (lookup scope.names n.text) third)
shown_in scope line (fund units) last third h = tt
shown_in scope line (run bound) last third h = tt
shown_in scope line (report what) last third h = tt

-- the tokens of a line
last_token_in : (ts : List Token) → AllByRecursion (λ t. IsPlace t.start) ts → IsPlace (last_place ts)
last_token_in [] h = omega arith
last_token_in (t ∷ []) h = h.0
last_token_in (t ∷ (u ∷ ts)) h = last_token_in (u ∷ ts) h.1

third_token_in : (ts : List Token) → AllByRecursion (λ t. IsPlace t.start) ts → IsPlace (third_place ts)
third_token_in [] h = omega arith
third_token_in (s ∷ []) h = omega arith
third_token_in (s ∷ (t ∷ [])) h = omega arith
third_token_in (s ∷ (t ∷ (u ∷ ts))) h = h.1.1.0

line_names_in : (bytes : List ℕ) (ts : List Token) (xs : List Lexeme) → AllByRecursion (λ t. IsPlace t.start) ts → AreNamesIn (names_in bytes ts xs)
line_names_in bytes [] [] h = tt
line_names_in bytes [] (x ∷ xs) h = tt
line_names_in bytes (t ∷ ts) [] h = tt
line_names_in bytes (t ∷ ts) (lexeme.Name ∷ xs) h = (h.0, line_names_in bytes ts xs h.1)
line_names_in bytes (t ∷ ts) (lexeme.Keyword k ∷ xs) h = line_names_in bytes ts xs h.1
line_names_in bytes (t ∷ ts) (lexeme.RelatorSign ∷ xs) h = line_names_in bytes ts xs h.1
line_names_in bytes (t ∷ ts) (lexeme.Number n ∷ xs) h = line_names_in bytes ts xs h.1
line_names_in bytes (t ∷ ts) (lexeme.Mark m ∷ xs) h = line_names_in bytes ts xs h.1

pub first_within : (scope : Scope) (line : ScriptLine) (s : Statement) (f : Shown) → IsNamed line s → AllByRecursion (λ t. t.start < LINE_LIMIT) line.tokens → IsFirst (shown scope line s) f → f.place < LINE_LIMIT
first_within scope line s f is_named tokens first =
    let all : AreIn (shown scope line s) = shown_in scope line s (last_token_in line.tokens tokens) (third_token_in line.tokens tokens)
    (subst AreNamesIn (sym is_named.names) (line_names_in line.bytes line.tokens line.lexemes tokens)) in
    All-contains IsIn (shown scope line s) f (All-from_recursion IsIn (shown scope line s) all) first.among
