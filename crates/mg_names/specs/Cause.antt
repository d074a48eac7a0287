-- Why a statement is refused that the grammar has accepted, and where.
use Rattle.std.specs.Prelude.{◌≡◌, ℕ, ℤ, zero, suc, ◌+◌, ◌<◌, ◌≤◌, ◌⊎◌, ◌==◌, ◌&&◌, not, nat_lt, if◌then◌else◌, Bool, true, false, Option, Some, None, List, [], ◌∷◌, ◌++◌, length, map, filter, slice_get, Contains}
use Rattle.std.specs.List.{flat_map, AllByRecursion}
use Rattle.mg_lex.specs.declared.refusal.Cause.{Cause}
use Rattle.mg_lex.specs.declared.refusal.Cause.TheVariants as cause
use Rattle.mg_lex.specs.Cause.{cause_number}
use Rattle.mg_lex.specs.declared.token.Token.{Token}
use Rattle.mg_words.specs.declared.procedure.Procedure.{Procedure}
use Rattle.mg_words.specs.declared.procedure.Procedure.TheVariants as procedure
use Rattle.mg_present.specs.declared.ask.TheConstants.{MOST_GOALS}
use Rattle.mg_present.specs.Ask.{Inquiry}
use Rattle.mg_questions.specs.declared.question.TheConstants.{MOST_GOAL_LETTERS}
use Rattle.mg_questions.specs.Goals.{goals_of}
use Rattle.mg_script.specs.declared.form.Property.{Property}
use Rattle.mg_script.specs.declared.form.Property.TheVariants as property
use Rattle.mg_script.specs.declared.script.ScriptLine.{ScriptLine}
use Rattle.mg_names.specs.declared.limits.TheConstants.{ASK_LETTER_LIMIT, REWRITE_LIMIT, COSET_LIMIT}
use Rattle.mg_names.specs.declared.plan.TheConstants.{MOST_SEARCHES}
use Rattle.mg_names.specs.Plan.{PlanQuestion, Asked, plain}
use Rattle.mg_names.specs.Named.{Named, Word, word_names, Relation, relator, equation, Arrow, Question, equal, member, vanishes, central, has, Statement, group, word, subgroup, mapping, ask, fund, grant, run, cancel, report}
use Rattle.mg_names.specs.Scope.{Object, a_group, a_word, a_subgroup, a_map, a_question, Declared, Scope, same_text, lookup, generator_place}
use Rattle.mg_names.specs.Meaning.{alone, relations_in, texts, group_at, Asking, question_named, ask_for, ask_letters, same_procedure, is_named}

-- a cause, and the place from 0 where it stands
pub record Shown : Type 0 where
  pub place : ℕ
  pub cause : Cause

abbrev pub at : Cause → ℕ → List Shown
at c place = record { place = place; cause = c } ∷ []

-- a name that is declared is there already
abbrev pub taken_if : Named → Option Object → List Shown
taken_if n None = []
taken_if n (Some object) = at cause.NameTaken n.place

abbrev pub taken : Scope → Named → List Shown
taken scope n = taken_if n (lookup scope.names n.text)

-- a name that isn't declared, or stands for another kind of object than its place needs
abbrev pub not_a_group : Named → Option Object → List Shown
not_a_group n None = at cause.UnknownName n.place
not_a_group n (Some (a_group place)) = []
not_a_group n (Some _) = at cause.WrongKind n.place

abbrev pub not_a_subgroup : Named → Option Object → List Shown
not_a_subgroup n None = at cause.UnknownName n.place
not_a_subgroup n (Some (a_subgroup place words)) = []
not_a_subgroup n (Some _) = at cause.WrongKind n.place

abbrev pub not_a_map : Named → Option Object → List Shown
not_a_map n None = at cause.UnknownName n.place
not_a_map n (Some (a_map source target images)) = []
not_a_map n (Some _) = at cause.WrongKind n.place

abbrev pub not_a_question : Named → Option Object → List Shown
not_a_question n None = at cause.UnknownName n.place
not_a_question n (Some (a_question place)) = []
not_a_question n (Some _) = at cause.WrongKind n.place

-- a name that is no generator, where a generator must stand
abbrev pub no_letter : Named → Option Object → Option ℕ → List Shown
no_letter n found (Some i) = []
no_letter n None None = at cause.UnknownGenerator n.place
no_letter n (Some object) None = at cause.WrongKind n.place

abbrev pub not_a_letter : List Declared → List (List ℕ) → Named → List Shown
not_a_letter names generators n = no_letter n (lookup names n.text) (generator_place generators n.text)

-- a name alone that is no generator, and no declared word of the group at the place
abbrev pub no_word : ℕ → Named → Option Object → Option ℕ → List Shown
no_word place n found (Some i) = []
no_word place n None None = at cause.UnknownGenerator n.place
no_word place n (Some (a_word home w)) None = if place == home then [] else at cause.WrongKind n.place
no_word place n (Some _) None = at cause.WrongKind n.place

-- the names of a word in the group at a place, whose generators have these names
abbrev pub in_word_or_alone : List Declared → ℕ → List (List ℕ) → Word → Option Named → List Shown
in_word_or_alone names place generators w None = flat_map (not_a_letter names generators) (word_names w)
in_word_or_alone names place generators w (Some n) = no_word place n (lookup names n.text) (generator_place generators n.text)

abbrev pub in_word : List Declared → ℕ → List (List ℕ) → Word → List Shown
in_word names place generators w = in_word_or_alone names place generators w (alone w)

abbrev pub in_relation : List Declared → ℕ → List (List ℕ) → Relation → List Shown
in_relation names place generators (relator w) = in_word names place generators w
in_relation names place generators (equation u v) = in_word names place generators u ++ in_word names place generators v

-- a name that stands already among those before it
abbrev pub is_among : List (List ℕ) → List ℕ → Bool
is_among [] text = false
is_among (t ∷ ts) text = if same_text t text then true else is_among ts text

abbrev pub twice_behind : List (List ℕ) → List Named → List Shown
twice_behind earlier [] = []
twice_behind earlier (n ∷ ns) =
    (if is_among earlier n.text then at cause.GeneratorTwice n.place else []) ++ twice_behind (earlier ++ n.text ∷ []) ns

abbrev pub twice : List Named → List Shown
twice ns = twice_behind [] ns

-- words of the group that an object is; of another object nothing is looked up
abbrev pub of_group : Scope → (ℕ → List (List ℕ) → List Shown) → Option Object → List Shown
of_group scope f (Some (a_group place)) = f place (group_at scope place).generators
of_group scope f _ = []

abbrev pub of_subgroup : Scope → (ℕ → List (List ℕ) → List Shown) → Option Object → List Shown
of_subgroup scope f (Some (a_subgroup place words)) = f place (group_at scope place).generators
of_subgroup scope f _ = []

abbrev pub of_source : Scope → (ℕ → List (List ℕ) → List Shown) → Option Object → List Shown
of_source scope f (Some (a_map source target images)) = f source (group_at scope source).generators
of_source scope f _ = []

-- a generator of the source that no arrow names
abbrev pub has_all : List (List ℕ) → List (List ℕ) → Bool
has_all there [] = true
has_all there (g ∷ gs) = is_among there g && has_all there gs

abbrev pub missing : List (List ℕ) → ℕ → List (List ℕ) → List Shown
missing lefts close generators = if has_all lefts generators then [] else at cause.ImageMissing close

abbrev pub lefts : List Arrow → List Named
lefts arrows = map (λ a. a.generator) arrows

-- the place of the last token
abbrev pub last_place : List Token → ℕ
last_place [] = 0
last_place (t ∷ []) = t.start
last_place (t ∷ u ∷ ts) = last_place (u ∷ ts)

-- the place of the third token, which in a grant or cancel is the procedure
abbrev pub third_place : List Token → ℕ
third_place (s ∷ t ∷ u ∷ ts) = u.start
third_place _ = 0

abbrev pub in_mapping : Scope → ScriptLine → List Arrow → Option Object → Option Object → List Shown
in_mapping scope line arrows source target =
    of_group scope (λ place generators. flat_map (not_a_letter scope.names generators) (lefts arrows)) source
    ++ (twice (lefts arrows)
    ++ (of_group scope (λ place generators. missing (texts (lefts arrows)) (last_place line.tokens) generators) source
    ++ of_group scope (λ place generators. flat_map (λ a. in_word scope.names place generators a.image) arrows) target))

-- a question that is asked of what it can't be, and the names in its words
abbrev pub not_the_subject : Property → Named → Option Object → List Shown
not_the_subject property.Trivial n found = not_a_group n found
not_the_subject property.Abelian n found = not_a_group n found
not_the_subject property.Normal n found = not_a_subgroup n found
not_the_subject property.Extends n found = not_a_map n found
not_the_subject property.Onto n found = not_a_map n found

abbrev pub in_question : Scope → Question → List Shown
in_question scope (equal u v g) =
    not_a_group g (lookup scope.names g.text)
    ++ of_group scope (λ place generators. in_word scope.names place generators u ++ in_word scope.names place generators v) (lookup scope.names g.text)
in_question scope (member w h) =
    not_a_subgroup h (lookup scope.names h.text)
    ++ of_subgroup scope (λ place generators. in_word scope.names place generators w) (lookup scope.names h.text)
in_question scope (vanishes w f) =
    not_a_map f (lookup scope.names f.text)
    ++ of_source scope (λ place generators. in_word scope.names place generators w) (lookup scope.names f.text)
in_question scope (central w g) =
    not_a_group g (lookup scope.names g.text)
    ++ of_group scope (λ place generators. in_word scope.names place generators w) (lookup scope.names g.text)
in_question scope (has n p) = not_the_subject p n (lookup scope.names n.text)

-- a question whose goals are too many or too long, or whose Ask has too many letters with those before
abbrev pub has_long : List (List ℤ) → Bool
has_long [] = false
has_long (w ∷ ws) = if nat_lt MOST_GOAL_LETTERS (length w) then true else has_long ws

abbrev pub too_large : Scope → Named → Option Asking → List Shown
too_large scope n None = []
too_large scope n (Some a) =
    (if has_long (goals_of a.question) then at cause.WordTooLong n.place else [])
    ++ ((if nat_lt MOST_GOALS (length (goals_of a.question)) then at cause.TooMany n.place else [])
    ++ (if nat_lt ASK_LETTER_LIMIT (scope.letters + ask_letters (ask_for a.question)) then at cause.TooMany n.place else []))

-- where the words of a question show a cause it has no Ask
abbrev pub too_large_unless : List Shown → Scope → Named → Option Asking → List Shown
too_large_unless [] scope n a = too_large scope n a
too_large_unless (s ∷ ss) scope n a = []

-- whether a procedure can be used on an Ask
abbrev pub is_empty : List (List ℤ) → Bool
is_empty [] = true
is_empty (w ∷ ws) = false

abbrev pub has_generator : ℕ → Bool
has_generator zero = false
has_generator (suc m) = true

abbrev pub applies : Procedure → Inquiry → Bool
applies procedure.Act a = has_generator a.group.generators
applies procedure.Residue a = has_generator a.group.generators
applies procedure.Cosets a = has_generator a.group.generators
applies procedure.Rewrite a = is_empty a.subgroup
applies procedure.Nielsen a = is_empty a.group.relators
applies procedure.Derive a = true
applies procedure.Recall a = true

abbrev pub of_asked : Procedure → ℕ → Asked → List Shown
of_asked p place (plain a) = if applies p a then [] else at cause.ProcedureDoesNotApply place

abbrev pub not_applying : Procedure → ℕ → Option PlanQuestion → List Shown
not_applying p place None = []
not_applying p place (Some q) = of_asked p place q.asked

-- a search more than there may be, of all procedures or of one
abbrev pub of_procedure : Procedure → List (ℕ × Procedure) → ℕ
of_procedure p ss = length (filter (λ s. same_procedure s.1 p) ss)

abbrev pub one_more_is_too_many : List (ℕ × Procedure) → Procedure → Bool
one_more_is_too_many ss procedure.Rewrite = if nat_lt (of_procedure procedure.Rewrite ss) REWRITE_LIMIT then not (nat_lt (length ss) MOST_SEARCHES) else true
one_more_is_too_many ss procedure.Cosets = if nat_lt (of_procedure procedure.Cosets ss) COSET_LIMIT then not (nat_lt (length ss) MOST_SEARCHES) else true
one_more_is_too_many ss _ = not (nat_lt (length ss) MOST_SEARCHES)

abbrev pub too_many_searches : Scope → Procedure → ℕ → Option Object → List Shown
too_many_searches scope p place (Some (a_question q)) =
    if is_named scope.searches q p then [] else if one_more_is_too_many scope.searches p then at cause.TooMany place else []
too_many_searches scope p place _ = []

abbrev pub not_applying_to : Scope → Procedure → ℕ → Option Object → List Shown
not_applying_to scope p place (Some (a_question q)) = not_applying p place (slice_get scope.plan.questions q)
not_applying_to scope p place _ = []

-- all causes that a statement shows, with their places
abbrev pub shown : Scope → ScriptLine → Statement → List Shown
shown scope line (group n generators rs) =
    taken scope n ++ (twice generators
    ++ flat_map (in_relation scope.names (length scope.plan.groups) (texts generators)) (relations_in rs))
shown scope line (word n g w) =
    taken scope n ++ (not_a_group g (lookup scope.names g.text)
    ++ of_group scope (λ place generators. in_word scope.names place generators w) (lookup scope.names g.text))
shown scope line (subgroup n g ws) =
    taken scope n ++ (not_a_group g (lookup scope.names g.text)
    ++ of_group scope (λ place generators. flat_map (in_word scope.names place generators) ws) (lookup scope.names g.text))
shown scope line (mapping n source target arrows) =
    taken scope n ++ (not_a_group source (lookup scope.names source.text) ++ (not_a_group target (lookup scope.names target.text)
    ++ in_mapping scope line arrows (lookup scope.names source.text) (lookup scope.names target.text)))
shown scope line (ask n q) =
    taken scope n ++ (in_question scope q ++ too_large_unless (in_question scope q) scope n (question_named scope q))
shown scope line (grant n p units) =
    not_a_question n (lookup scope.names n.text)
    ++ (too_many_searches scope p (third_place line.tokens) (lookup scope.names n.text)
    ++ not_applying_to scope p (third_place line.tokens) (lookup scope.names n.text))
shown scope line (cancel n p) =
    not_a_question n (lookup scope.names n.text) ++ not_applying_to scope p (third_place line.tokens) (lookup scope.names n.text)
shown scope line (fund units) = []
shown scope line (run bound) = []
shown scope line (report what) = []

-- the first of some causes: none stands before its place, and none with a less number stands there
pub record IsFirst (all : List Shown) (first : Shown) : Type 0 where
  pub among : Contains all first
  pub least : AllByRecursion (λ s. (first.place < s.place) ⊎ ((first.place ≡ s.place) × (cause_number first.cause ≤ cause_number s.cause))) all
