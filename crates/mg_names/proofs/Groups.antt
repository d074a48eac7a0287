-- Reading the generators and the relations of a group.
use Rattle.std.proofs.Common.{◌≡◌, ◌≢◌, ℕ, ◌<◌, ◌≤◌, ℤ, Bool, true, false, Option, Some, None, is_some, Result, Ok, Err, IfOk, OnOk, List, [], ◌∷◌, ◌++◌, map, length, drop, refl, sym, ap, subst, ◌∙◌, append_assoc, append-nil, arith}
use Rattle.std.specs.Prelude.{if◌then◌else◌}
use Rattle.std.specs.List.{flat_map, AllByRecursion}
use Rattle.std.proofs.lemmas.List.{map-append, length-append, length-map}
use Rattle.mg_lex.specs.declared.mark.Mark.TheVariants as mark
use Rattle.mg_lex.specs.declared.refusal.Cause.TheVariants as cause
use Rattle.mg_terms.specs.declared.lexeme.Lexeme.{Lexeme}
use Rattle.mg_terms.specs.declared.lexeme.Lexeme.TheVariants as lexeme
use Rattle.mg_words.specs.Word.{Held, inv, IsOver, IsReduced}
use Rattle.mg_words.specs.Chain.{FreelyEqual}
use Rattle.mg_words.proofs.Chains.{IsOver-append, IsOver-inv}
use Rattle.mg_words.specs.Reduction.{free_form}
use Rattle.mg_words.proofs.Free.{free_form-reduced, same_form}
use Rattle.mg_script.specs.Count.{IsBoundedTerm}
use Rattle.mg_names.specs.declared.home.Home.{Home}
use Rattle.mg_names.specs.declared.grouping.Parts.{Parts}
use Rattle.mg_names.specs.declared.resolver.Resolver.{Resolver}
use Rattle.mg_names.specs.Plan.{Plan, PlanGroup}
use Rattle.mg_names.specs.Keeping.{Keeps, IsSound}
use Rattle.mg_present.specs.Presentation.{Group, Fits}
use Rattle.mg_script.specs.declared.script.ScriptLine.{ScriptLine}
use Rattle.mg_names.specs.Named.{Named, Word, Relation, relator, equation, group, plain_word}
use Rattle.mg_names.specs.Scope.{Scope, Object, a_group, Declared, lookup, same_text, generator_place, next_place}
use Rattle.mg_names.specs.Meaning.{after, declared_group, declaring, with_group, value, relator_of, relations_in, texts}
use Rattle.mg_names.specs.Cause.{Shown, at, shown, taken_if, in_word, in_relation, is_among, twice, twice_behind}
use Rattle.mg_names.specs.Sign.{Sign, a_name, the_mark, first_lexeme, Stops, listed, listed_on, generator_signs, factor_signs, word_signs, relation_signs, bar_signs}
use Rattle.mg_names.specs.Least.{IsLeastOf, Gets}
use Rattle.mg_names.specs.Reads.{IsWordAhead}
use Rattle.mg_names.specs.Within.{IsGroupAt, IsObject, IsPlanGroup, IsSized, IsSizedWord, IsSizedRelation}
use Rattle.mg_names.specs.Grouped.{again, EndsRelation, EndsList, AreGeneratorsRead, IsNewHome, IsRelationAhead, IsRelationRead, AreRelationsAhead, AreRelationsRead, group_signs, group_with, IsGroupRead}
use Rattle.mg_names.proofs.Bounds.{value_given}
use Rattle.mg_names.proofs.Leasts.{gets_none, gets_both, gets_more, gets_one, gets_same}
use Rattle.mg_names.proofs.Members.{all_right, get_past}
use Rattle.mg_names.proofs.Causes.{found_all}
use Rattle.mg_names.proofs.Scopes.{group_keeps}
use Rattle.mg_names.proofs.Tails.{factor_first, factor_begins, factor_goes_on, stops_at, word_split, head_of, tail_of, tail_signs}

-- commas and bars
pub comma_skipped : (old : List Sign) (members : List (List Sign)) (rest : List Sign) → first_lexeme old ≡ Some (lexeme.Mark mark.Comma) → old ≡ listed_on members ++ rest → EndsList rest → drop 1 old ≡ listed members ++ rest
comma_skipped old [] rest is e ends = absurd (ends.no_comma (ap first_lexeme (sym e) ∙ is))
comma_skipped old (x ∷ xs) rest is e ends = ap (drop 1) e

pub comma_none : (old : List Sign) (members : List (List Sign)) (rest : List Sign) → first_lexeme old ≢ Some (lexeme.Mark mark.Comma) → old ≡ listed_on members ++ rest → old ≡ listed members ++ rest
comma_none old [] rest other e = e
comma_none old (x ∷ xs) rest other e = absurd (other (ap first_lexeme e))

abbrev pub closing : List Sign
closing = the_mark mark.Greater ∷ []

pub bar_skipped : (old : List Sign) (rs : Option (List Relation)) → first_lexeme old ≡ Some (lexeme.Mark mark.Bar) → old ≡ bar_signs rs ++ closing → drop 1 old ≡ listed (map relation_signs (relations_in rs)) ++ closing
bar_skipped old None is e = let h : Some (lexeme.Mark mark.Greater) ≡ Some (lexeme.Mark mark.Bar) = ap first_lexeme (sym e) ∙ is in absurd cc
bar_skipped old (Some rs) is e = ap (drop 1) e

pub bar_none : (old : List Sign) (rs : Option (List Relation)) → first_lexeme old ≢ Some (lexeme.Mark mark.Bar) → old ≡ bar_signs rs ++ closing → old ≡ listed (map relation_signs (relations_in rs)) ++ closing
bar_none old None other e = e
bar_none old (Some rs) other e = absurd (other (ap first_lexeme e))

pub closing_ends : EndsList closing
closing_ends = record { ends = record { stops = refl; no_equals = λ e. cc }; no_comma = λ e. cc }

pub bar_ends : (rs : Option (List Relation)) → EndsList (bar_signs rs ++ closing)
bar_ends None = closing_ends
bar_ends (Some rs) = record { ends = record { stops = refl; no_equals = λ e. cc }; no_comma = λ e. cc }

-- texts among others
among_head : (b c : Bool) (o : Option ℕ) → c ≡ is_some o → (if b then true else c) ≡ is_some (if b then Some 0 else next_place o)
among_head true c o e = refl
among_head false c None e = e
among_head false c (Some i) e = e

pub among_place : (ts : List (List ℕ)) (text : List ℕ) → is_among ts text ≡ is_some (generator_place ts text)
among_place [] text = refl
among_place (t ∷ ts) text = among_head (same_text t text) (is_among ts text) (generator_place ts text) (among_place ts text)

-- the names of generators, one more at a time
pub again_gets : (earlier : List (List ℕ)) (n : Named) (b : Bool) (o p : Option Shown) → b ≡ is_among earlier n.text → b ≡ true → Gets (at cause.GeneratorTwice n.place) o p → Gets (again earlier n) o p
again_gets earlier n b o p says is h =
    gets_same (again earlier n) (at cause.GeneratorTwice n.place) o p (ap (λ (x : Bool). if x then at cause.GeneratorTwice n.place else []) (sym says ∙ is)) h

pub again_none : (earlier : List (List ℕ)) (n : Named) (b : Bool) (o : Option Shown) → b ≡ is_among earlier n.text → b ≡ false → Gets (again earlier n) o o
again_none earlier n b o says is =
    gets_same (again earlier n) [] o o (ap (λ (x : Bool). if x then at cause.GeneratorTwice n.place else []) (sym says ∙ is)) (gets_none o)

twice_last : (earlier : List (List ℕ)) (ns : List Named) (n : Named) → twice_behind earlier (ns ++ n ∷ []) ≡ twice_behind earlier ns ++ again (earlier ++ texts ns) n
twice_last earlier [] n = append-nil (again earlier n) ∙ ap (λ (ts : List (List ℕ)). again ts n) (sym (append-nil earlier))
twice_last earlier (k ∷ ns) n =
    ap (λ (xs : List Shown). again earlier k ++ xs) (twice_last (earlier ++ k.text ∷ []) ns n)
    ∙ (ap (λ (ts : List (List ℕ)). again earlier k ++ (twice_behind (earlier ++ k.text ∷ []) ns ++ again ts n)) (append_assoc earlier (k.text ∷ []) (texts ns))
    ∙ sym (append_assoc (again earlier k) (twice_behind (earlier ++ k.text ∷ []) ns) (again (earlier ++ texts (k ∷ ns)) n)))

pub record AreGeneratorsUpTo (ns : List Named) (rest : List Sign) (before : Option Shown) (names : List (List ℕ)) (left : List Sign) (after : Option Shown) : Type 0 where
  pub done : List Named
  pub more : List Named
  pub whole : done ++ more ≡ ns
  pub ahead : left ≡ listed (map generator_signs more) ++ rest
  pub names_are : names ≡ texts done
  pub causes : Gets (twice done) before after

pub no_generators : (ns : List Named) (rest : List Sign) (found : Option Shown) (old : List Sign) (names : List (List ℕ)) → names ≡ [] → old ≡ listed (map generator_signs ns) ++ rest → AreGeneratorsUpTo ns rest found names old found
no_generators ns rest found old names none e = record { done = []; more = ns; whole = refl; ahead = e; names_are = none; causes = gets_none found }

abbrev pub SkipsComma : List Sign → List Sign → Type 0
SkipsComma old new = (members : List (List Sign)) (rest : List Sign) → old ≡ listed_on members ++ rest → EndsList rest → new ≡ listed members ++ rest

module _ (ns : List Named) (rest : List Sign) (before mid after : Option Shown) (names new_names : List (List ℕ)) (left behind skipped : List Sign) (m : Named) where
  next_generator : (done more : List Named) → done ++ more ≡ ns → left ≡ listed (map generator_signs more) ++ rest → names ≡ texts done → Gets (twice done) before mid → EndsList rest →
      left ≡ a_name m ∷ behind → SkipsComma behind skipped → new_names ≡ names ++ m.text ∷ [] → Gets (again names m) mid after → AreGeneratorsUpTo ns rest before new_names skipped after
  next_generator done [] whole ahead same causes ends is skips added one =
      let h : true ≡ false = subst (λ (ss : List Sign). Stops ss) (sym ahead ∙ is) ends.ends.stops in absurd cc
  next_generator done (n ∷ more) whole ahead same causes ends is skips added one =
      let both : ◌≡◌ {A = List Sign} (a_name m ∷ behind) (a_name n ∷ (listed_on (map generator_signs more) ++ rest)) = sym is ∙ ahead in
      let name : m ≡ n = cc in
      let tail : behind ≡ listed_on (map generator_signs more) ++ rest = cc in
      let found : Gets (again (texts done) n) mid after =
      subst (λ (k : Named). Gets (again (texts done) k) mid after) name (subst (λ (ts : List (List ℕ)). Gets (again ts m) mid after) same one) in
      record {
        done = done ++ n ∷ [];
        more = more;
        whole = append_assoc done (n ∷ []) more ∙ whole;
        ahead = skips (map generator_signs more) rest tail ends;
        names_are =
            added ∙ (ap (λ (ts : List (List ℕ)). ts ++ m.text ∷ []) same ∙ (ap (λ (k : Named). texts done ++ k.text ∷ []) name ∙ sym (map-append (λ (k : Named). k.text) done (n ∷ []))));
        causes = gets_same (twice (done ++ n ∷ [])) (twice done ++ again (texts done) n) before after (twice_last [] done n) (gets_both (twice done) (again (texts done) n) before mid after causes found);
      }

  pub generator_added : AreGeneratorsUpTo ns rest before names left mid → EndsList rest → left ≡ a_name m ∷ behind → SkipsComma behind skipped → new_names ≡ names ++ m.text ∷ [] → Gets (again names m) mid after →
      AreGeneratorsUpTo ns rest before new_names skipped after
  generator_added h = next_generator h.done h.more h.whole h.ahead h.names_are h.causes

module _ (ns : List Named) (rest : List Sign) (before after : Option Shown) (names : List (List ℕ)) (left new : List Sign) where
  last_generator : (done more : List Named) → done ++ more ≡ ns → left ≡ listed (map generator_signs more) ++ rest → names ≡ texts done → Gets (twice done) before after →
      first_lexeme left ≢ Some lexeme.Name → new ≡ left → AreGeneratorsRead ns rest before names new after
  last_generator done [] whole ahead same causes other is =
      let all : done ≡ ns = sym (append-nil done) ∙ whole in
      record {
        names_are = same ∙ ap texts all;
        rest_is = is ∙ ahead;
        causes = subst (λ (ms : List Named). Gets (twice ms) before after) all causes;
      }
  last_generator done (n ∷ more) whole ahead same causes other is = absurd (other (ap first_lexeme ahead))

  pub generators_read : AreGeneratorsUpTo ns rest before names left after → first_lexeme left ≢ Some lexeme.Name → new ≡ left → AreGeneratorsRead ns rest before names new after
  generators_read h = last_generator h.done h.more h.whole h.ahead h.names_are h.causes

-- words of relations
abbrev pub behind_equals : Word → List Sign → List Sign
behind_equals v rest = the_mark mark.Equals ∷ (word_signs v ++ rest)

equation_ahead : (old : List Sign) (u v : Word) (rest : List Sign) → old ≡ relation_signs (equation u v) ++ rest → old ≡ word_signs u ++ behind_equals v rest
equation_ahead old u v rest e = e ∙ append_assoc (word_signs u) (the_mark mark.Equals ∷ word_signs v) rest

first_word : (old : List Sign) (r : Relation) (rest : List Sign) → old ≡ relation_signs r ++ rest → EndsRelation rest → IsSizedRelation r → IsWordAhead old
first_word old (relator w) rest e ends sized = record { word = w; rest = rest; written = e; stops = ends.stops; bounded = sized }
first_word old (equation u v) rest e ends sized = record { word = u; rest = behind_equals v rest; written = equation_ahead old u v rest e; stops = refl; bounded = sized.0 }

pub word_first : (old : List Sign) → IsRelationAhead old → IsWordAhead old
word_first old h = first_word old h.relation h.rest h.written h.ends h.sized

alone_sized : (u v : Word) → IsBoundedTerm (Some (plain_word u)) (plain_word v) → IsSizedWord v
alone_sized u v h = record { within = h.within; relation = omega (arith, h.relation) }

-- what the call for a word brings
abbrev pub WordBrings : List Sign → (Word → Type 0) → Type 0
WordBrings old P = (w : Word) (rest : List Sign) → old ≡ word_signs w ++ rest → Stops rest → P w

abbrev pub WordLeaves : List Sign → List Sign → Type 0
WordLeaves old left = (w : Word) (rest : List Sign) → old ≡ word_signs w ++ rest → Stops rest → left ≡ rest

module _ (home : Home) where
  abbrev pub IsValue : List ℤ → Word → Type 0
  IsValue letters w = letters ≡ value home.names.now home.place home.generators.now w

  abbrev pub GetsWord : Option Shown → Option Shown → Word → Type 0
  GetsWord before after w = Gets (in_word home.names.now home.place home.generators.now w) before after

module _ (old mid : List Sign) (leaves : WordLeaves old mid) where
  pub behind_word : (r : Relation) (rest : List Sign) → old ≡ relation_signs r ++ rest → EndsRelation rest → first_lexeme mid ≡ Some (lexeme.Mark mark.Equals) →
      (u : Word) × (v : Word) × (r ≡ equation u v) × (mid ≡ behind_equals v rest)
  behind_word (relator w) rest e ends is = absurd (ends.no_equals (ap first_lexeme (sym (leaves w rest e ends.stops)) ∙ is))
  behind_word (equation u v) rest e ends is = (u, v, refl, leaves u (behind_equals v rest) (equation_ahead old u v rest e) refl)

  module _ (skipped : List Sign) (is : first_lexeme mid ≡ Some (lexeme.Mark mark.Equals)) (skip : skipped ≡ drop 1 mid) where
    next_word : (r : Relation) (rest : List Sign) → old ≡ relation_signs r ++ rest → EndsRelation rest → IsSizedRelation r → IsWordAhead skipped
    next_word (relator w) rest e ends sized = absurd (ends.no_equals (ap first_lexeme (sym (leaves w rest e ends.stops)) ∙ is))
    next_word (equation u v) rest e ends sized = record {
      word = v;
      rest = rest;
      written = skip ∙ ap (drop 1) (leaves u (behind_equals v rest) (equation_ahead old u v rest e) refl);
      stops = ends.stops;
      bounded = alone_sized u v sized.1;
    }

    pub word_second : IsRelationAhead old → IsWordAhead skipped
    word_second h = next_word h.relation h.rest h.written h.ends h.sized

    -- its letters are those of generators
    left_is : (home : Home) (left : List ℤ) → IsNewHome home → WordBrings old (IsValue home left) → (r : Relation) (rest : List Sign) → old ≡ relation_signs r ++ rest → EndsRelation rest → IsSizedRelation r → IsOver (length home.generators.now) left
    left_is home left is_new lefts (relator w) rest e ends sized = absurd (ends.no_equals (ap first_lexeme (sym (leaves w rest e ends.stops)) ∙ is))
    left_is home left is_new lefts (equation u v) rest e ends sized =
        subst (λ (xs : List ℤ). IsOver (length home.generators.now) xs) (sym (lefts u (behind_equals v rest) (equation_ahead old u v rest e) refl))
        (value_given is_new.plan home.names.now home.place home.generators.now u is_new.objects (λ g there. absurd (is_new.new g there)) sized.0).over

    pub left_over : (home : Home) (left : List ℤ) → IsNewHome home → WordBrings old (IsValue home left) → IsRelationAhead old → IsOver (length home.generators.now) left
    left_over home left is_new lefts h = left_is home left is_new lefts h.relation h.rest h.written h.ends h.sized

    right_is : (home : Home) (right : List ℤ) → IsNewHome home → WordBrings skipped (IsValue home right) → (r : Relation) (rest : List Sign) → old ≡ relation_signs r ++ rest → EndsRelation rest → IsSizedRelation r → IsOver (length home.generators.now) right
    right_is home right is_new rights (relator w) rest e ends sized = absurd (ends.no_equals (ap first_lexeme (sym (leaves w rest e ends.stops)) ∙ is))
    right_is home right is_new rights (equation u v) rest e ends sized =
        subst (λ (xs : List ℤ). IsOver (length home.generators.now) xs)
        (sym (rights v rest (skip ∙ ap (drop 1) (leaves u (behind_equals v rest) (equation_ahead old u v rest e) refl)) ends.stops))
        (value_given is_new.plan home.names.now home.place home.generators.now v is_new.objects (λ g there. absurd (is_new.new g there)) (alone_sized u v sized.1)).over

    pub right_over : (home : Home) (right : List ℤ) → IsNewHome home → WordBrings skipped (IsValue home right) → IsRelationAhead old → IsOver (length home.generators.now) right
    right_over home right is_new rights h = right_is home right is_new rights h.relation h.rest h.written h.ends h.sized

    pub equation_read : (home : Home) (before between after : Option Shown) (left right product : List ℤ) (new : List Sign) → WordBrings old (IsValue home left) → WordBrings old (GetsWord home before between) →
        WordBrings skipped (IsValue home right) → WordLeaves skipped new → WordBrings skipped (GetsWord home between after) → product ≡ free_form (left ++ inv right) →
        (r : Relation) (rest : List Sign) → old ≡ relation_signs r ++ rest → EndsRelation rest → IsRelationRead home r rest before product new after
    equation_read home before between after left right product new lefts left_causes rights right_leaves right_causes same (relator w) rest e ends =
        absurd (ends.no_equals (ap first_lexeme (sym (leaves w rest e ends.stops)) ∙ is))
    equation_read home before between after left right product new lefts left_causes rights right_leaves right_causes same (equation u v) rest e ends =
        let first : old ≡ word_signs u ++ behind_equals v rest = equation_ahead old u v rest e in
        let second : skipped ≡ word_signs v ++ rest = skip ∙ ap (drop 1) (leaves u (behind_equals v rest) first refl) in
        record {
          relator_is =
              same ∙ (ap (λ (xs : List ℤ). free_form (xs ++ inv right)) (lefts u (behind_equals v rest) first refl)
              ∙ ap (λ (xs : List ℤ). free_form (value home.names.now home.place home.generators.now u ++ inv xs)) (rights v rest second ends.stops));
          rest_is = right_leaves v rest second ends.stops;
          causes = gets_both (in_word home.names.now home.place home.generators.now u) (in_word home.names.now home.place home.generators.now v) before between after
              (left_causes u (behind_equals v rest) first refl) (right_causes v rest second ends.stops);
        }

  pub relator_read : (home : Home) (before after : Option Shown) (left : List ℤ) → first_lexeme mid ≢ Some (lexeme.Mark mark.Equals) → WordBrings old (IsValue home left) → WordBrings old (GetsWord home before after) →
      (r : Relation) (rest : List Sign) → old ≡ relation_signs r ++ rest → EndsRelation rest → IsRelationRead home r rest before left mid after
  relator_read home before after left other lefts causes (relator w) rest e ends =
      record { relator_is = lefts w rest e ends.stops; rest_is = leaves w rest e ends.stops; causes = causes w rest e ends.stops }
  relator_read home before after left other lefts causes (equation u v) rest e ends =
      absurd (other (ap first_lexeme (leaves u (behind_equals v rest) (equation_ahead old u v rest e) refl)))

-- relations, one more at a time
some_signs : (ss : List Sign) (x : Lexeme) → first_lexeme ss ≡ Some x → 1 ≤ length ss
some_signs [] x e = absurd cc
some_signs (s ∷ ss) x e = omega arith

word_some : (w : Word) → 1 ≤ length (word_signs w)
word_some w = some_signs (word_signs w) (factor_first (head_of w)) (ap first_lexeme (word_split w) ∙ factor_begins (head_of w) (tail_signs (tail_of w)))

relation_some : (r : Relation) → 1 ≤ length (relation_signs r)
relation_some (relator w) = word_some w
relation_some (equation u v) = let h = word_some u in omega (arith, h, length-append (word_signs u) (the_mark mark.Equals ∷ word_signs v))

-- what stands behind a relation of a list
abbrev pub behind_relation : List Relation → List Sign → List Sign
behind_relation more rest = listed_on (map relation_signs more) ++ rest

relation_ends : (more : List Relation) (rest : List Sign) → EndsList rest → EndsRelation (behind_relation more rest)
relation_ends [] rest ends = ends.ends
relation_ends (r ∷ more) rest ends = record { stops = refl; no_equals = λ e. cc }

pub record AreRelationsUpTo (home : Home) (rs : List Relation) (rest : List Sign) (before : Option Shown) (relators : List (List ℤ)) (left : List Sign) (after : Option Shown) : Type 0 where
  pub done : List Relation
  pub more : List Relation
  pub whole : done ++ more ≡ rs
  pub ahead : left ≡ listed (map relation_signs more) ++ rest
  pub relators_are : relators ≡ map (relator_of home.names.now home.place home.generators.now) done
  pub causes : Gets (flat_map (in_relation home.names.now home.place home.generators.now) done) before after

pub no_relations : (home : Home) (rs : List Relation) (rest : List Sign) (found : Option Shown) (old : List Sign) (relators : List (List ℤ)) → relators ≡ [] → old ≡ listed (map relation_signs rs) ++ rest → AreRelationsUpTo home rs rest found relators old found
no_relations home rs rest found old relators none e = record { done = []; more = rs; whole = refl; ahead = e; relators_are = none; causes = gets_none found }

-- the relation that stands there, and those behind it
pub record HasNext (rs : List Relation) (rest left : List Sign) : Type 0 where
  pub relation : Relation
  pub more : List Relation
  pub written : left ≡ relation_signs relation ++ behind_relation more rest
  pub sized : AllByRecursion IsSizedRelation rs → IsSizedRelation relation

module _ (home : Home) (rs : List Relation) (rest left : List Sign) where
  has_next : (done more : List Relation) → done ++ more ≡ rs → left ≡ listed (map relation_signs more) ++ rest → EndsList rest → (Stops left → ⊥) → HasNext rs rest left
  has_next done [] whole ahead ends on = absurd (on (subst (λ (ss : List Sign). Stops ss) (sym ahead) ends.ends.stops))
  has_next done (r ∷ more) whole ahead ends on = record {
    relation = r;
    more = more;
    written = ahead ∙ append_assoc (relation_signs r) (listed_on (map relation_signs more)) rest;
    sized = λ all. (all_right IsSizedRelation done (r ∷ more) (subst (λ (xs : List Relation). AllByRecursion IsSizedRelation xs) (sym whole) all)).0;
  }

  module _ (before after : Option Shown) (relators : List (List ℤ)) (h : AreRelationsUpTo home rs rest before relators left after) (ends : EndsList rest) (on : Stops left → ⊥) where
    pub next_there : HasNext rs rest left
    next_there = has_next h.done h.more h.whole h.ahead ends on

    pub next_ahead : AllByRecursion IsSizedRelation rs → IsRelationAhead left
    next_ahead all = record {
      relation = next_there.relation;
      rest = behind_relation next_there.more rest;
      written = next_there.written;
      ends = relation_ends next_there.more rest ends;
      sized = next_there.sized all;
    }

    pub next_shorter : (mid skipped : List Sign) → ((r : Relation) (behind : List Sign) → left ≡ relation_signs r ++ behind → EndsRelation behind → mid ≡ behind) → length skipped ≤ length mid → length skipped < length left
    next_shorter mid skipped leaves short =
        let same = ap length (leaves next_there.relation (behind_relation next_there.more rest) next_there.written (relation_ends next_there.more rest ends)) in
        let some = relation_some next_there.relation in
        let all = ap length next_there.written in
        omega (arith, same, some, all, short, length-append (relation_signs next_there.relation) (behind_relation next_there.more rest))

-- what the call for a relation brings
abbrev pub ReadsRelation : Home → List Sign → Option Shown → List ℤ → List Sign → Option Shown → Type 0
ReadsRelation home old before product left after =
    (r : Relation) (rest : List Sign) → old ≡ relation_signs r ++ rest → EndsRelation rest → IsRelationRead home r rest before product left after

module _ (home : Home) (rs : List Relation) (rest : List Sign) (before mid after : Option Shown) (relators new_relators : List (List ℤ)) (left behind skipped : List Sign) (letters : List ℤ) where
  next_relation : (done more : List Relation) → done ++ more ≡ rs → left ≡ listed (map relation_signs more) ++ rest → relators ≡ map (relator_of home.names.now home.place home.generators.now) done →
      Gets (flat_map (in_relation home.names.now home.place home.generators.now) done) before mid → EndsList rest → (Stops left → ⊥) → ReadsRelation home left mid letters behind after →
      SkipsComma behind skipped → new_relators ≡ relators ++ letters ∷ [] → AreRelationsUpTo home rs rest before new_relators skipped after
  next_relation done [] whole ahead same causes ends on reads skips added = absurd (on (subst (λ (ss : List Sign). Stops ss) (sym ahead) ends.ends.stops))
  next_relation done (r ∷ more) whole ahead same causes ends on reads skips added =
      let f : Relation → List ℤ = relator_of home.names.now home.place home.generators.now in
      let read = reads r (behind_relation more rest) (ahead ∙ append_assoc (relation_signs r) (listed_on (map relation_signs more)) rest) (relation_ends more rest ends) in
      record {
        done = done ++ r ∷ [];
        more = more;
        whole = append_assoc done (r ∷ []) more ∙ whole;
        ahead = skips (map relation_signs more) rest read.rest_is ends;
        relators_are = added ∙ (ap (λ (xs : List (List ℤ)). xs ++ letters ∷ []) same ∙ (ap (λ (w : List ℤ). map f done ++ w ∷ []) read.relator_is ∙ sym (map-append f done (r ∷ []))));
        causes = gets_more (in_relation home.names.now home.place home.generators.now) done (r ∷ []) before mid after causes
            (gets_one (in_relation home.names.now home.place home.generators.now) r mid after read.causes);
      }

  pub relation_added : AreRelationsUpTo home rs rest before relators left mid → EndsList rest → (Stops left → ⊥) → ReadsRelation home left mid letters behind after → SkipsComma behind skipped →
      new_relators ≡ relators ++ letters ∷ [] → AreRelationsUpTo home rs rest before new_relators skipped after
  relation_added h = next_relation h.done h.more h.whole h.ahead h.relators_are h.causes

module _ (home : Home) (rs : List Relation) (rest : List Sign) (before after : Option Shown) (relators : List (List ℤ)) (left : List Sign) where
  last_relation : (done more : List Relation) → done ++ more ≡ rs → left ≡ listed (map relation_signs more) ++ rest → relators ≡ map (relator_of home.names.now home.place home.generators.now) done →
      Gets (flat_map (in_relation home.names.now home.place home.generators.now) done) before after → Stops left → AreRelationsRead home.names.now home.place home.generators.now rs before relators after
  last_relation done [] whole ahead same causes stops =
      let all : done ≡ rs = sym (append-nil done) ∙ whole in
      record {
        relators_are = same ∙ ap (map (relator_of home.names.now home.place home.generators.now)) all;
        causes = subst (λ (xs : List Relation). Gets (flat_map (in_relation home.names.now home.place home.generators.now) xs) before after) all causes;
      }
  last_relation done (r ∷ more) whole ahead same causes stops = absurd (starts r (listed_on (map relation_signs more) ++ rest) (subst (λ (ss : List Sign). Stops ss) (ahead ∙ append_assoc (relation_signs r) (listed_on (map relation_signs more)) rest) stops))
    where
      word_starts : (w : Word) (ss : List Sign) → Stops (word_signs w ++ ss) → ⊥
      word_starts w ss h =
          let e : first_lexeme (word_signs w ++ ss) ≡ Some (factor_first (head_of w)) =
          ap first_lexeme (ap (λ (xs : List Sign). xs ++ ss) (word_split w) ∙ append_assoc (factor_signs (head_of w)) (tail_signs (tail_of w)) ss) ∙ factor_begins (head_of w) (tail_signs (tail_of w) ++ ss) in
          let f : true ≡ false = sym (factor_goes_on (head_of w)) ∙ stops_at (word_signs w ++ ss) (factor_first (head_of w)) e h in
          cc

      starts : (q : Relation) (ss : List Sign) → Stops (relation_signs q ++ ss) → ⊥
      starts (relator w) ss h = word_starts w ss h
      starts (equation u v) ss h = word_starts u ((the_mark mark.Equals ∷ word_signs v) ++ ss) (subst (λ (xs : List Sign). Stops xs) (append_assoc (word_signs u) (the_mark mark.Equals ∷ word_signs v) ss) h)

  pub relations_read : AreRelationsUpTo home rs rest before relators left after → Stops left → AreRelationsRead home.names.now home.place home.generators.now rs before relators after
  relations_read h = last_relation h.done h.more h.whole h.ahead h.relators_are h.causes

-- the product of a word and the inverse of another
formed : (m : ℕ) (xs ys : List ℤ) → IsOver m xs → ((k : ℕ) → IsOver k xs → FreelyEqual k xs ys) → IsReduced ys → ys ≡ free_form xs
formed m xs ys over equal reduced = sym (free_form-reduced ys reduced) ∙ sym (same_form m xs ys (equal m over))

pub quotient_is : {E : Type 0} (m : ℕ) (u v w xs : List ℤ) (r : Result Held E) → w ≡ inv v → xs ≡ u ++ w → IsOver m u → IsOver m v → IfOk r (λ y. (k : ℕ) → IsOver k xs → FreelyEqual k xs y.letters) →
    IfOk r (λ y. IsReduced y.letters) → IfOk r (λ y. y.letters ≡ free_form (u ++ inv v))
quotient_is m u v w xs (Ok y) e f left right equal reduced =
    let same : xs ≡ u ++ inv v = f ∙ ap (λ (zs : List ℤ). u ++ zs) e in
    let over : IsOver m xs = subst (λ (zs : List ℤ). IsOver m zs) (sym same) (IsOver-append m u (inv v) left (IsOver-inv m v right)) in
    formed m xs y.letters over equal reduced ∙ ap free_form same
quotient_is m u v w xs (Err x) e f left right equal reduced = tt

-- a home is new where the groups end
pub new_home : (home : Home) (r : Resolver) → IsSound r → home.names.now ≡ r.names → home.place ≡ length r.plan.groups → IsNewHome home
new_home home r sound names place = record {
  plan = sound.scope.plan;
  objects = subst (λ (ds : List Declared). AllByRecursion (λ d. IsObject sound.scope.plan d.object) ds) (sym (names ∙ sound.keeps.names)) sound.within.names;
  new = λ g there. get_past sound.scope.plan.groups g (subst (λ (k : ℕ). IsGroupAt sound.scope.plan k g) (place ∙ ap (λ (p : Plan). length p.groups) sound.keeps.plan) there);
}

-- what is read of a group
pub group_ends : (old new : List Sign) (generators : List Named) (rs : Option (List Relation)) → old ≡ group_signs generators rs → new ≡ drop 2 old → new ≡ listed (map generator_signs generators) ++ (bar_signs rs ++ closing)
group_ends old new generators rs e skip = skip ∙ ap (drop 2) e

pub relations_ahead : (ss : List Sign) (rs : List Relation) → ss ≡ listed (map relation_signs rs) ++ closing → AllByRecursion IsSizedRelation rs → AreRelationsAhead ss
relations_ahead ss rs e sized = record { relations = rs; rest = closing; written = e; ends = closing_ends; sized = sized }

pub few_texts : (ts : List (List ℕ)) (ns : List Named) → ts ≡ texts ns → length ns ≤ 64 → length ts ≤ 64
few_texts ts ns e h = let same : length ts ≡ length ns = ap length e ∙ length-map ns (λ (n : Named). n.text) in omega (arith, same, h)

pub group_read : (ds : List Declared) (place : ℕ) (ns : List Named) (rs : List Relation) (before mid after : Option Shown) (parts : Parts) (rest left : List Sign) → AreGeneratorsRead ns rest before parts.generators left mid →
    AreRelationsRead ds place parts.generators rs mid parts.relators after → IsGroupRead ds place ns rs before parts after
group_read ds place ns rs before mid after parts rest left first second =
    let same : AreRelationsRead ds place (texts ns) rs mid parts.relators after = subst (λ (ts : List (List ℕ)). AreRelationsRead ds place ts rs mid parts.relators after) first.names_are second in
    record {
      generators_are = first.names_are;
      relators_are = same.relators_are;
      causes = gets_both (twice ns) (flat_map (in_relation ds place (texts ns)) rs) before mid after first.causes same.causes;
    }

-- what is declared
pub not_taken : (n : Named) (found : Option Object) (others : List Shown) → taken_if n found ++ others ≡ [] → found ≡ None
not_taken n None others e = refl
not_taken n (Some x) others e = absurd cc

abbrev pub other_causes : List Declared → ℕ → List Named → List Relation → List Shown
other_causes ds place ns rs = twice ns ++ flat_map (in_relation ds place (texts ns)) rs

abbrev pub group_causes : List Declared → ℕ → Named → List Named → List Relation → List Shown
group_causes ds place n ns rs = taken_if n (lookup ds n.text) ++ (twice ns ++ flat_map (in_relation ds place (texts ns)) rs)

pub group_gets : (ds : List Declared) (place : ℕ) (n : Named) (ns : List Named) (rs : List Relation) (mid after : Option Shown) (parts : Parts) (before : Option Shown) → before ≡ None → Gets (taken_if n (lookup ds n.text)) before mid → IsGroupRead ds place ns rs mid parts after →
    Gets (group_causes ds place n ns rs) None after
group_gets ds place n ns rs mid after parts before none first read =
    subst (λ (o : Option Shown). Gets (group_causes ds place n ns rs) o after) none
    (gets_both (taken_if n (lookup ds n.text)) (twice ns ++ flat_map (in_relation ds place (texts ns)) rs) before mid after first read.causes)

-- in the scope that is kept
pub scope_causes : (scope : Scope) (r : Resolver) (line : ScriptLine) (n : Named) (ns : List Named) (rs : Option (List Relation)) → Keeps scope r → group_causes r.names (length r.plan.groups) n ns (relations_in rs) ≡ shown scope line (group n ns rs)
scope_causes scope r line n ns rs keeps =
    ap (λ (ds : List Declared). group_causes ds (length r.plan.groups) n ns (relations_in rs)) keeps.names
    ∙ ap (λ (p : Plan). group_causes scope.names (length p.groups) n ns (relations_in rs)) keeps.plan

pub group_least : (scope : Scope) (r : Resolver) (line : ScriptLine) (n m : Named) (ns : List Named) (rs : Option (List Relation)) (o : Option Shown) → Keeps scope r → m ≡ n → Gets (group_causes r.names (length r.plan.groups) m ns (relations_in rs)) None o →
    IsLeastOf (shown scope line (group n ns rs)) o
group_least scope r line n m ns rs o keeps name g =
    found_all (shown scope line (group n ns rs)) o
    (subst (λ (xs : List Shown). Gets xs None o) (ap (λ (k : Named). group_causes r.names (length r.plan.groups) k ns (relations_in rs)) name ∙ scope_causes scope r line n ns rs keeps) g)

abbrev pub with_parts : List ℕ → List (List ℕ) → ℕ → List (List ℤ) → PlanGroup
with_parts text ts m ws = record { name = text; generators = ts; group = record { generators = m; relators = ws } }

pub parts_are : (scope : Scope) (r : Resolver) (n : Named) (ns : List Named) (rs : List Relation) (before after : Option Shown) (parts : Parts) → Keeps scope r → IsGroupRead r.names (length r.plan.groups) ns rs before parts after → group_with n parts ≡ declared_group scope n ns rs
parts_are scope r n ns rs before after parts keeps read =
    let count : length parts.generators ≡ length ns = ap length read.generators_are ∙ length-map ns (λ (k : Named). k.text) in
    let relators : parts.relators ≡ map (relator_of scope.names (length scope.plan.groups) (texts ns)) rs =
    read.relators_are ∙ (ap (λ (ds : List Declared). map (relator_of ds (length r.plan.groups) (texts ns)) rs) keeps.names
    ∙ ap (λ (p : Plan). map (relator_of scope.names (length p.groups) (texts ns)) rs) keeps.plan) in
    ap (λ (ts : List (List ℕ)). with_parts n.text ts (length parts.generators) parts.relators) read.generators_are
    ∙ (ap (λ (k : ℕ). with_parts n.text (texts ns) k parts.relators) count
    ∙ ap (with_parts n.text (texts ns) (length ns)) relators)

pub group_fits : (r : Resolver) (sound : IsSound r) (n : Named) (ns : List Named) (rs : Option (List Relation)) (before after : Option Shown) (parts : Parts) → IsSized (group n ns rs) → IsGroupRead r.names (length r.plan.groups) ns (relations_in rs) before parts after →
    Fits (length parts.generators) parts.relators
group_fits r sound n ns rs before after parts sized read =
    let all = group_keeps sound.lines sound.scope sound.within n ns (relations_in rs) sized in
    let g : PlanGroup = declared_group sound.scope n ns (relations_in rs) in
    let last : IsPlanGroup g = (all_right IsPlanGroup sound.scope.plan.groups (g ∷ []) all.groups).0 in
    let same : g ≡ group_with n parts = sym (parts_are sound.scope r n ns (relations_in rs) before after parts sound.keeps read) in
    subst (λ (h : PlanGroup). Fits h.group.generators h.group.relators) same last.presented

pub group_after : (scope : Scope) (r new : Resolver) (n m : Named) (ns : List Named) (rs : Option (List Relation)) (before last : Option Shown) (parts : Parts) → Keeps scope r → m ≡ n → IsGroupRead r.names (length r.plan.groups) ns (relations_in rs) before parts last →
    Keeps (declaring (with_group scope (group_with m parts)) m (a_group (length scope.plan.groups))) new → Keeps (after scope (group n ns rs)) new
group_after scope r new n m ns rs before last parts keeps name read h =
    subst (λ (g : PlanGroup). Keeps (declaring (with_group scope g) n (a_group (length scope.plan.groups))) new) (parts_are scope r n ns (relations_in rs) before last parts keeps read)
    (subst (λ (k : Named). Keeps (declaring (with_group scope (group_with k parts)) k (a_group (length scope.plan.groups))) new) name h)

pub fits_count : (m n : ℕ) (ws : List (List ℤ)) → m ≡ n → Fits n ws → Fits m ws
fits_count m n ws e h = subst (λ (k : ℕ). Fits k ws) (sym e) h

pub still_new : (scope : Scope) (old new : Resolver) (g : PlanGroup) (text : List ℕ) → Keeps scope old → Keeps (with_group scope g) new → lookup old.names text ≡ None → lookup new.names text ≡ None
still_new scope old new g text first second h = ap (λ (ds : List Declared). lookup ds text) (second.names ∙ sym first.names) ∙ h

pub added_is : (n : Named) (parts : Parts) (text : List ℕ) (p : Group) (count : ℕ) → text ≡ n.text → p.generators ≡ count → p.relators ≡ parts.relators → count ≡ length parts.generators →
    record { name = text; generators = parts.generators; group = p } ≡ group_with n parts
added_is n parts text p count name generators relators counted =
    ap (λ (t : List ℕ). with_parts t parts.generators p.generators p.relators) name
    ∙ (ap (λ (m : ℕ). with_parts n.text parts.generators m p.relators) (generators ∙ counted)
    ∙ ap (with_parts n.text parts.generators (length parts.generators)) relators)

pub declared_with : {E : Type 0} (scope : Scope) (r new : Resolver) (n : Named) (parts : Parts) (g : PlanGroup) (place : ℕ) (result : Result (Unit {0}) E) → Keeps scope r → g ≡ group_with n parts → place ≡ length r.plan.groups →
    OnOk result (Keeps (declaring (with_group scope g) n (a_group place)) new) → OnOk result (Keeps (declaring (with_group scope (group_with n parts)) n (a_group (length scope.plan.groups))) new)
declared_with scope r new n parts g place result keeps same at h =
    subst (λ (x : PlanGroup). OnOk result (Keeps (declaring (with_group scope x) n (a_group (length scope.plan.groups))) new)) same
    (subst (λ (k : ℕ). OnOk result (Keeps (declaring (with_group scope g) n (a_group k)) new)) (at ∙ ap (λ (p : Plan). length p.groups) keeps.plan) h)

-- what stands behind the name
pub behind_name : (old new : List Sign) (n m : Named) (generators : List Named) (rs : Option (List Relation)) → old ≡ a_name m ∷ new → old ≡ a_name n ∷ group_signs generators rs → (m ≡ n) × (new ≡ group_signs generators rs)
behind_name old new n m generators rs e f =
    let name : m ≡ n = cc in
    let tail : new ≡ group_signs generators rs = cc in
    (name, tail)
