-- Reading a map.
use Rattle.std.proofs.Common.{◌≡◌, ◌≢◌, ℕ, zero, suc, ℤ, ◌+◌, ◌<◌, ◌≤◌, Bool, true, false, cond, not, Bor, Option, Some, None, Result, Ok, Err, OnOk, List, [], ◌∷◌, ◌++◌, map, length, position, nat_eq, take, get_or, refl, sym, ap, subst, ◌∙◌, true≢false, append_assoc, append-nil, arith}
use Rattle.std.specs.Prelude.{if◌then◌else◌, slice_get, IfSome, IfNone}
use Rattle.std.specs.Cmp.Lexicographic.{pointwise}
use Rattle.std.specs.Option.{is_some}
use Rattle.std.proofs.lemmas.Iterator.Adapters.{position_from-zero}
use Rattle.std.specs.List.{AllByRecursion, flat_map, position_from}
use Rattle.std.proofs.lemmas.List.{length-append, map-append, take_more}
use Rattle.std.proofs.lemmas.Option.{slice_get_within}
use Rattle.mg_lex.specs.declared.mark.Mark.TheVariants as mark
use Rattle.mg_lex.specs.declared.refusal.Cause.TheVariants as cause
use Rattle.mg_lex.specs.declared.token.TokenKind.TheVariants as kind
use Rattle.mg_script.specs.declared.script.ScriptLine.{ScriptLine}
use Rattle.mg_terms.specs.declared.lexeme.Lexeme.TheVariants as lexeme
use Rattle.mg_names.specs.declared.cursor.Name.{Name}
use Rattle.mg_names.specs.declared.home.Home.{Home}
use Rattle.mg_names.specs.declared.mapping.Arrows.{Arrows}
use Rattle.mg_names.specs.declared.resolver.Resolver.{Resolver}
use Rattle.mg_names.specs.Asked.{IsHome}
use Rattle.mg_names.specs.Cause.{Shown, at, in_word, in_mapping, is_among, has_all, lefts, last_place, missing, not_a_group, not_a_letter, of_group, shown, taken_if, twice, twice_behind}
use Rattle.mg_names.specs.Keeping.{Keeps, IsSound}
use Rattle.mg_names.specs.Least.{IsLeastOf, Gets}
use Rattle.mg_names.specs.Mapped.{value_at, causes_at, closing, arrows_signs, further_signs, IsArrowAhead, IsOneRead, AreRead, IsHomeOf, NamesGroup, IsMap, IsMapOf}
use Rattle.mg_names.specs.Meaning.{after, declares_map, declaring, group_at, image_of_generator, images, texts, value, value_or_none}
use Rattle.mg_names.specs.Name.{named_of}
use Rattle.mg_names.specs.Plan.{Plan}
use Rattle.mg_names.specs.Named.{Named, Word, Arrow, mapping}
use Rattle.mg_names.specs.Objects.{object_of}
use Rattle.mg_names.specs.declared.scope.Object as declared
use Rattle.mg_names.specs.Scope.{Scope, Object, a_group, a_word, a_subgroup, a_map, a_question, Declared, lookup, same_text, generator_place, next_place}
use Rattle.mg_names.specs.Sign.{Sign, Stops, first_lexeme, arrow_signs, listed_on}
use Rattle.mg_names.specs.Within.{IsSizedWord}
use Rattle.mg_names.proofs.Causes.{found_all}
use Rattle.mg_names.proofs.Leasts.{gets_none, gets_same, gets_both, gets_one, gets_more, gets_turned}
use Rattle.mg_names.proofs.Lookups.{place_found, texts_agree}
use Rattle.mg_names.proofs.Members.{none_right}
use Rattle.mg_names.proofs.Scopes.{name_object}

-- the place of a name, and that of its text
position_named : (i : ℕ) (text : List ℕ) (ns : List Name) → position_from (λ (n : Name). pointwise nat_eq n.text.now text) i ns ≡ position_from (λ (g : List ℕ). pointwise nat_eq g text) i (texts (map named_of ns))
position_named i text [] = refl
position_named i text (n ∷ ns) = ap (λ (r : Option ℕ). cond (pointwise nat_eq n.text.now text) (Some i) r) (position_named (i + 1) text ns)

pub name_placed : (ns : List Name) (text : List ℕ) → position (λ (n : Name). pointwise nat_eq n.text.now text) ns ≡ generator_place (texts (map named_of ns)) text
name_placed ns text =
    position_from-zero (λ (n : Name). pointwise nat_eq n.text.now text) ns
    ∙ (position_named 0 text ns ∙ (sym (position_from-zero (λ (g : List ℕ). pointwise nat_eq g text) (texts (map named_of ns))) ∙ place_found (texts (map named_of ns)) text))

-- a text that has a place is among them
next_there : (o : Option ℕ) → is_some (next_place o) ≡ is_some o
next_there None = refl
next_there (Some i) = refl

head_there : (b : Bool) (o : Option ℕ) → is_some (if b then Some 0 else next_place o) ≡ (if b then true else is_some o)
head_there true o = refl
head_there false o = next_there o

among_there : (ts : List (List ℕ)) (text : List ℕ) → is_some (generator_place ts text) ≡ is_among ts text
among_there [] text = refl
among_there (t ∷ ts) text = head_there (same_text t text) (generator_place ts text) ∙ ap (λ (b : Bool). if same_text t text then true else b) (among_there ts text)

-- a name that stands already among those before it
twice-last : (earlier : List (List ℕ)) (ns : List Named) (n : Named) →
    twice_behind earlier (ns ++ n ∷ []) ≡ twice_behind earlier ns ++ (if is_among (earlier ++ texts ns) n.text then at cause.GeneratorTwice n.place else [])
twice-last earlier [] n =
    append-nil (if is_among earlier n.text then at cause.GeneratorTwice n.place else [])
    ∙ ap (λ (ts : List (List ℕ)). if is_among ts n.text then at cause.GeneratorTwice n.place else []) (sym (append-nil earlier))
twice-last earlier (m ∷ ns) n =
    ap (λ (xs : List Shown). (if is_among earlier m.text then at cause.GeneratorTwice m.place else []) ++ xs)
    (twice-last (earlier ++ m.text ∷ []) ns n
    ∙ ap (λ (ts : List (List ℕ)). twice_behind (earlier ++ m.text ∷ []) ns ++ (if is_among ts n.text then at cause.GeneratorTwice n.place else [])) (append_assoc earlier (m.text ∷ []) (texts ns)))
    ∙ sym (append_assoc (if is_among earlier m.text then at cause.GeneratorTwice m.place else []) (twice_behind (earlier ++ m.text ∷ []) ns) (if is_among (earlier ++ m.text ∷ texts ns) n.text then at cause.GeneratorTwice n.place else []))

named-last : (ns : List Name) (n : Name) → map named_of (ns ++ n ∷ []) ≡ map named_of ns ++ named_of n ∷ []
named-last ns n = map-append named_of ns (n ∷ [])

pub among_named : (ns : List Name) (text : List ℕ) → is_some (position (λ (n : Name). pointwise nat_eq n.text.now text) ns) ≡ is_among (texts (map named_of ns)) text
among_named ns text = ap is_some (name_placed ns text) ∙ among_there (texts (map named_of ns)) text

-- the causes of names, one after another
pub when_gets : (b : Bool) (shown : List Shown) (o p : Option Shown) → b ≡ true → Gets shown o p → Gets (if b then shown else []) o p
when_gets b shown o p e h = subst (λ (c : Bool). Gets (if c then shown else []) o p) (sym e) h

pub unless_gets : (b : Bool) (shown : List Shown) (o : Option Shown) → b ≡ false → Gets (if b then shown else []) o o
unless_gets b shown o e = subst (λ (c : Bool). Gets (if c then shown else []) o o) (sym e) (gets_none o)

-- a text is among some and one more where it is that one, or is among those
either_first : (b c r : Bool) → (if b then true else (if c then true else r)) ≡ (if c then true else (if b then true else r))
either_first true true r = refl
either_first true false r = refl
either_first false c r = refl

among_last : (ts : List (List ℕ)) (t text : List ℕ) → is_among (ts ++ t ∷ []) text ≡ (if same_text t text then true else is_among ts text)
among_last [] t text = refl
among_last (u ∷ ts) t text = ap (λ (b : Bool). if same_text u text then true else b) (among_last ts t text) ∙ either_first (same_text u text) (same_text t text) (is_among ts text)

-- whether a text is among those of some names
abbrev pub is_named : List Name → List ℕ → Bool
is_named ns text = is_among (texts (map named_of ns)) text

-- the names up to a place, and what stands there
named_at : (ns : List Name) (i : ℕ) (d : Name) (text : List ℕ) → i < length ns → is_named (take (i + 1) ns) text ≡ cond (pointwise nat_eq (get_or ns i d).text.now text) true (is_named (take i ns) text)
named_at ns i d text less =
    let n : Name = get_or ns i d in
    ap (λ (ms : List Name). is_named ms text) (take_more ns i d less)
    ∙ (ap (λ (ms : List Named). is_among (texts ms) text) (named-last (take i ns) n)
    ∙ (ap (λ (ts : List (List ℕ)). is_among ts text) (map-append _ (map named_of (take i ns)) (named_of n ∷ []))
    ∙ (among_last (texts (map named_of (take i ns))) n.text.now text
    ∙ ap (λ (b : Bool). if b then true else is_named (take i ns) text) (texts_agree n.text.now text))))

pub twice_at : (ns : List Name) (i : ℕ) (d : Name) (o p q : Option Shown) → i < length ns → Gets (twice (map named_of (take i ns))) o p
    → Gets (if is_among (texts (map named_of (take i ns))) (get_or ns i d).text.now then at cause.GeneratorTwice (get_or ns i d).place else []) p q → Gets (twice (map named_of (take (i + 1) ns))) o q
twice_at ns i d o p q less g h =
    let front : List Name = take i ns in
    let n : Name = get_or ns i d in
    let last : List Shown = if is_among (texts (map named_of front)) n.text.now then at cause.GeneratorTwice n.place else [] in
    gets_same (twice (map named_of (take (i + 1) ns))) (twice (map named_of front) ++ last) o q
    (ap (λ (ms : List Name). twice (map named_of ms)) (take_more ns i d less) ∙ (ap twice (named-last front n) ∙ twice-last [] (map named_of front) (named_of n)))
    (gets_both (twice (map named_of front)) last o p q g h)

-- one more name, whose text stands among those before it or not
if_not_new : (new there : Bool) → new ≡ not there → new ≡ false → there ≡ true
if_not_new new true e h = refl
if_not_new new false e h = absurd (true≢false (sym e ∙ h))

if_new : (new there : Bool) → new ≡ not there → new ≡ true → there ≡ false
if_new new true e h = absurd (true≢false (sym h ∙ e))
if_new new false e h = refl

pub twice_again : (ns : List Name) (i : ℕ) (d : Name) (o p q : Option Shown) (new : Bool) (kept : Bor (List ℕ) → Bool) → i < length ns → Gets (twice (map named_of (take i ns))) o p → ((text : Bor (List ℕ)) → kept text ≡ is_named (take i ns) text.now)
    → new ≡ not (kept (get_or ns i d).text) → new ≡ false → Gets (at cause.GeneratorTwice (get_or ns i d).place) p q → Gets (twice (map named_of (take (i + 1) ns))) o q
twice_again ns i d o p q new kept less g same said e h =
    let n : Name = get_or ns i d in
    twice_at ns i d o p q less g (when_gets (is_named (take i ns) n.text.now) (at cause.GeneratorTwice n.place) p q (sym (same n.text) ∙ if_not_new new (kept n.text) said e) h)

pub twice_new : (ns : List Name) (i : ℕ) (d : Name) (o p : Option Shown) (new : Bool) (kept : Bor (List ℕ) → Bool) → i < length ns → Gets (twice (map named_of (take i ns))) o p → ((text : Bor (List ℕ)) → kept text ≡ is_named (take i ns) text.now)
    → new ≡ not (kept (get_or ns i d).text) → new ≡ true → Gets (twice (map named_of (take (i + 1) ns))) o p
twice_new ns i d o p new kept less g same said e =
    let n : Name = get_or ns i d in
    twice_at ns i d o p p less g (unless_gets (is_named (take i ns) n.text.now) (at cause.GeneratorTwice n.place) p (sym (same n.text) ∙ if_new new (kept n.text) said e))

pub named_more : (ns : List Name) (i : ℕ) (d : Name) (text : Bor (List ℕ)) (kept : Bor (List ℕ) → Bool) (now : Bool) → i < length ns → ((text : Bor (List ℕ)) → kept text ≡ is_named (take i ns) text.now)
    → now ≡ cond (pointwise nat_eq (get_or ns i d).text.now text.now) true (kept text) → now ≡ is_named (take (i + 1) ns) text.now
named_more ns i d text kept now less same is =
    is ∙ (ap (λ (b : Bool). cond (pointwise nat_eq (get_or ns i d).text.now text.now) true b) (same text) ∙ sym (named_at ns i d text.now less))

pub generators_at : (f : Named → List Shown) (ns ms : List Name) (i : ℕ) (d : Name) (o p q : Option Shown) → ms ≡ ns → i < length ms → Gets (flat_map f (map named_of (take i ns))) o p → Gets (f (named_of (get_or ms i d))) p q
    → Gets (flat_map f (map named_of (take (i + 1) ns))) o q
generators_at f ns ms i d o p q same less g h =
    let front : List Name = take i ms in
    let n : Name = get_or ms i d in
    gets_same (flat_map f (map named_of (take (i + 1) ns))) (flat_map f (map named_of front ++ named_of n ∷ [])) o q
    (ap (λ (xs : List Name). flat_map f (map named_of (take (i + 1) xs))) (sym same) ∙ (ap (λ (xs : List Name). flat_map f (map named_of xs)) (take_more ms i d less) ∙ ap (flat_map f) (named-last front n)))
    (gets_more f (map named_of front) (named_of n ∷ []) o p q (subst (λ (xs : List Name). Gets (flat_map f (map named_of (take i xs))) o p) (sym same) g) (gets_one f (named_of n) p q h))

pub missing_gets : (ts gs : List (List ℕ)) (close : ℕ) (o p : Option Shown) → has_all ts gs ≡ false → Gets (at cause.ImageMissing close) o p → Gets (missing ts close gs) o p
missing_gets ts gs close o p e h = gets_same (missing ts close gs) (at cause.ImageMissing close) o p (ap (λ (b : Bool). if b then [] else at cause.ImageMissing close) e) h

pub all_gets : (ts gs : List (List ℕ)) (close : ℕ) (o : Option Shown) → has_all ts gs ≡ true → Gets (missing ts close gs) o o
all_gets ts gs close o e = gets_same (missing ts close gs) [] o o (ap (λ (b : Bool). if b then [] else at cause.ImageMissing close) e) (gets_none o)

-- the image of a generator is that of the first arrow with its name
abbrev or_nothing : (Word → List ℤ) → Option Word → List ℤ
or_nothing f None = []
or_nothing f (Some w) = f w

no_next : (o : Option ℕ) → next_place o ≡ None → o ≡ None
no_next None e = refl
no_next (Some i) e = absurd cc

no_image_head : (b : Bool) (w : Word) (o : Option ℕ) (r : Option Word) → (o ≡ None → r ≡ None) → (if b then Some 0 else next_place o) ≡ None → (if b then Some w else r) ≡ None
no_image_head true w o r h e = absurd cc
no_image_head false w o r h e = h (no_next o e)

no_image : (all : List Arrow) (text : List ℕ) → generator_place (texts (lefts all)) text ≡ None → image_of_generator all text ≡ None
no_image [] text e = refl
no_image (a ∷ all) text e = no_image_head (same_text a.generator.text text) a.image (generator_place (texts (lefts all)) text) (image_of_generator all text) (no_image all text) e

image_next : (f : Word → List ℤ) (all : List Arrow) (r : Option Word) (o : Option ℕ) (w : List ℤ) (i : ℕ) (u : Word) → ((j : ℕ) → o ≡ Some j → slice_get (map (λ (a : Arrow). f a.image) all) j ≡ Some w → or_nothing f r ≡ w) → next_place o ≡ Some i
    → slice_get (f u ∷ map (λ (a : Arrow). f a.image) all) i ≡ Some w → or_nothing f r ≡ w
image_next f all r None w i u h e g = absurd cc
image_next f all r (Some j) w zero u h e g = let k : j + 1 ≡ 0 = cc in absurd (omega (arith, k))
image_next f all r (Some j) w (suc i) u h e g =
    let k : j + 1 ≡ suc i = cc in
    let same : j ≡ i = omega (arith, k) in
    h i (ap Some same) g

image_head : (f : Word → List ℤ) (b : Bool) (all : List Arrow) (u : Word) (r : Option Word) (o : Option ℕ) (w : List ℤ) (i : ℕ) → ((j : ℕ) → o ≡ Some j → slice_get (map (λ (a : Arrow). f a.image) all) j ≡ Some w → or_nothing f r ≡ w)
    → (if b then Some 0 else next_place o) ≡ Some i → slice_get (f u ∷ map (λ (a : Arrow). f a.image) all) i ≡ Some w → or_nothing f (if b then Some u else r) ≡ w
image_head f true all u r o w i h e g =
    let k : 0 ≡ i = cc in
    let there : Some (f u) ≡ Some w = subst (λ (n : ℕ). slice_get (f u ∷ map (λ (a : Arrow). f a.image) all) n ≡ Some w) (sym k) g in
    cc
image_head f false all u r o w i h e g = image_next f all r o w i u h e g

image_there : (f : Word → List ℤ) (all : List Arrow) (text : List ℕ) (w : List ℤ) (i : ℕ) → generator_place (texts (lefts all)) text ≡ Some i → slice_get (map (λ (a : Arrow). f a.image) all) i ≡ Some w → or_nothing f (image_of_generator all text) ≡ w
image_there f [] text w i e g = absurd cc
image_there f (a ∷ all) text w i e g =
    image_head f (same_text a.generator.text text) all a.image (image_of_generator all text) (generator_place (texts (lefts all)) text) w i
    (λ j h k. image_there f all text w j h k) e g

or_none : (scope : Scope) (place : ℕ) (o : Option Word) → value_or_none scope place o ≡ or_nothing (value scope.names place (group_at scope place).generators) o
or_none scope place None = refl
or_none scope place (Some w) = refl

image_is : (scope : Scope) (target : ℕ) (all : List Arrow) (names : List Named) (found : List (List ℤ)) (text : List ℕ) (w : List ℤ) (i : ℕ) → names ≡ lefts all → found ≡ map (λ (a : Arrow). value scope.names target (group_at scope target).generators a.image) all
    → generator_place (texts names) text ≡ Some i → slice_get found i ≡ Some w → w ≡ value_or_none scope target (image_of_generator all text)
image_is scope target all names found text w i e f g h =
    sym (or_none scope target (image_of_generator all text) ∙ image_there (value scope.names target (group_at scope target).generators) all text w i
    (ap (λ (ns : List Named). generator_place (texts ns) text) (sym e) ∙ g) (ap (λ (ws : List (List ℤ)). slice_get ws i) (sym f) ∙ h))

image_none : (scope : Scope) (target : ℕ) (all : List Arrow) (names : List Named) (text : List ℕ) → names ≡ lefts all → generator_place (texts names) text ≡ None → [] ≡ value_or_none scope target (image_of_generator all text)
image_none scope target all names text e g =
    ap (value_or_none scope target) (sym (no_image all text (ap (λ (ns : List Named). generator_place (texts ns) text) (sym e) ∙ g)))

abbrev place_in : List Name → List ℕ → Option ℕ
place_in ns text = position (λ (n : Name). pointwise nat_eq n.text.now text) ns

pub image_at : (scope : Scope) (target : ℕ) (all : List Arrow) (ns ms : List Name) (found : List (List ℤ)) (text : List ℕ) (w : List ℤ) (o : Option ℕ) (i : ℕ) → ms ≡ ns → map named_of ns ≡ lefts all
    → found ≡ map (λ (a : Arrow). value scope.names target (group_at scope target).generators a.image) all → o ≡ place_in ms text → o ≡ Some i → slice_get found i ≡ Some w → w ≡ value_or_none scope target (image_of_generator all text)
image_at scope target all ns ms found text w o i same e f g k h =
    image_is scope target all (map named_of ns) found text w i e f (sym (name_placed ns text) ∙ (ap (λ (xs : List Name). place_in xs text) (sym same) ∙ (sym g ∙ k))) h

pub image_empty : (scope : Scope) (target : ℕ) (all : List Arrow) (ns ms : List Name) (text : List ℕ) (o : Option ℕ) → ms ≡ ns → map named_of ns ≡ lefts all → o ≡ place_in ms text → o ≡ None
    → [] ≡ value_or_none scope target (image_of_generator all text)
image_empty scope target all ns ms text o same e g k =
    image_none scope target all (map named_of ns) text e (sym (name_placed ns text) ∙ (ap (λ (xs : List Name). place_in xs text) (sym same) ∙ (sym g ∙ k)))

-- the arrows read so far, and those still to come
pub record IsReadUpTo (target : Option Home) (all : List Arrow) (before : Option Shown) (left : List Sign) (arrows : Arrows) (now : Option Shown) : Type 0 where
  pub done : List Arrow
  pub todo : List Arrow
  pub split : all ≡ done ++ todo
  pub rest : left ≡ arrows_signs todo
  pub so_far : AreRead target done before arrows now

further_stops : (all : List Arrow) → Stops (further_signs all)
further_stops [] = refl
further_stops (a ∷ all) = refl

arrow_front : (a : Arrow) (all : List Arrow) → arrows_signs (a ∷ all) ≡ arrow_signs a ++ further_signs all
arrow_front a all = append_assoc (arrow_signs a) (listed_on (map arrow_signs all)) closing

further_behind : (all : List Arrow) → length (arrows_signs all) ≤ length (further_signs all)
further_behind [] = omega arith
further_behind (a ∷ all) = omega arith

pub arrows_shorter : (a : Arrow) (all : List Arrow) → length (arrows_signs all) < length (arrows_signs (a ∷ all))
arrows_shorter a all = omega (arith, ap length (arrow_front a all), length-append (arrow_signs a) (further_signs all), further_behind all)

all_head : (xs ys : List Arrow) (a : Arrow) → AllByRecursion (λ (b : Arrow). IsSizedWord b.image) (xs ++ a ∷ ys) → IsSizedWord a.image
all_head [] ys a h = h.0
all_head (x ∷ xs) ys a h = all_head xs ys a h.1

pub read_start : (target : Option Home) (all : List Arrow) (before : Option Shown) (left : List Sign) (arrows : Arrows) → left ≡ arrows_signs all → arrows.names ≡ [] → arrows.images ≡ [] → IsReadUpTo target all before left arrows before
read_start target all before left arrows e f g = record {
  done = [];
  todo = all;
  split = refl;
  rest = e;
  so_far = record { names = ap (map named_of) f; images = g; causes = gets_none before };
}

todo_head : (left : List Sign) (todo : List Arrow) → left ≡ arrows_signs todo → first_lexeme left ≢ Some (lexeme.Mark mark.CloseSquare) → (a : Arrow) × (more : List Arrow) × (todo ≡ a ∷ more)
todo_head left [] e n = absurd (n (ap first_lexeme e))
todo_head left (a ∷ more) e n = (a, more, refl)

no_todo : (todo : List Arrow) → first_lexeme (arrows_signs todo) ≡ Some (lexeme.Mark mark.CloseSquare) → todo ≡ []
no_todo [] e = refl
no_todo (a ∷ more) e = absurd cc

module _ (target : Option Home) (all : List Arrow) (before : Option Shown) (left : List Sign) (old : Arrows) (o : Option Shown) (h : IsReadUpTo target all before left old o) where
  pub all_read : first_lexeme left ≡ Some (lexeme.Mark mark.CloseSquare) → AreRead target all before old o
  all_read e =
      let none = no_todo h.todo (sym (ap first_lexeme h.rest) ∙ e) in
      let same : all ≡ h.done = h.split ∙ (ap (λ (xs : List Arrow). h.done ++ xs) none ∙ append-nil h.done) in
      subst (λ (xs : List Arrow). AreRead target xs before old o) (sym same) h.so_far

  module _ (open_yet : first_lexeme left ≢ Some (lexeme.Mark mark.CloseSquare)) where
    front : (a : Arrow) × (more : List Arrow) × (h.todo ≡ a ∷ more) × (left ≡ arrow_signs a ++ further_signs more)
    front = let t = todo_head left h.todo h.rest open_yet in (t.0, t.1, t.2, h.rest ∙ (ap arrows_signs t.2 ∙ arrow_front t.0 t.1))

    pub arrow_ahead : AllByRecursion (λ (a : Arrow). IsSizedWord a.image) all → IsArrowAhead left
    arrow_ahead sized = let t = front in record {
      arrow = t.0;
      rest = further_signs t.1;
      written = t.3;
      stops = further_stops t.1;
      sized = all_head h.done t.1 t.0 (subst (λ (xs : List Arrow). AllByRecursion (λ (a : Arrow). IsSizedWord a.image) xs) (h.split ∙ ap (λ (xs : List Arrow). h.done ++ xs) t.2) sized);
    }

    module _ (next last : List Sign) (new : Arrows) (p : Option Shown) (one : (a : Arrow) (rest : List Sign) → left ≡ arrow_signs a ++ rest → Stops rest → IsOneRead target a rest o old next new p)
        (comma : (more : List Arrow) → next ≡ further_signs more → last ≡ arrows_signs more) where
      pub stepped : IsReadUpTo target all before last new p
      stepped =
          let t = front in
          let r = one t.0 (further_signs t.1) t.3 (further_stops t.1) in
          record {
            done = h.done ++ t.0 ∷ [];
            todo = t.1;
            split = h.split ∙ (ap (λ (xs : List Arrow). h.done ++ xs) t.2 ∙ sym (append_assoc h.done (t.0 ∷ []) t.1));
            rest = comma t.1 r.rest_is;
            so_far = record {
              names = r.names ∙ (ap (λ (ns : List Named). ns ++ t.0.generator ∷ []) h.so_far.names ∙ sym (map-append (λ (a : Arrow). a.generator) h.done (t.0 ∷ [])));
              images = r.images ∙ (ap (λ (ws : List (List ℤ)). ws ++ value_at target t.0.image ∷ []) h.so_far.images ∙ sym (map-append (λ (a : Arrow). value_at target a.image) h.done (t.0 ∷ [])));
              causes = gets_more (λ (a : Arrow). causes_at target a.image) h.done (t.0 ∷ []) before o p h.so_far.causes (gets_one (λ (a : Arrow). causes_at target a.image) t.0 o p r.causes);
            };
          }

      pub left_shorter : length last < length left
      left_shorter =
          let t = front in
          let r = one t.0 (further_signs t.1) t.3 (further_stops t.1) in
          let less = arrows_shorter t.0 t.1 in
          omega (arith, less, ap length (comma t.1 r.rest_is), ap length (h.rest ∙ ap arrows_signs t.2))

-- groups that names stand for
outside : (scope : Scope) (f : ℕ → List (List ℕ) → List Shown) (found : Option Object) → ((k : ℕ) → found ≢ Some (a_group k)) → of_group scope f found ≡ []
outside scope f None other = refl
outside scope f (Some (a_group k)) other = absurd (other k refl)
outside scope f (Some (a_word k w)) other = refl
outside scope f (Some (a_subgroup k ws)) other = refl
outside scope f (Some (a_map j k ws)) other = refl
outside scope f (Some (a_question k)) other = refl

pub stands : (found : Option Object) (o : Option ℕ) → IfSome o (λ place. found ≡ Some (a_group place)) → IfNone o ((place : ℕ) → found ≢ Some (a_group place)) → NamesGroup found o
stands found None some none = none
stands found (Some place) some none = some

pub stands_in : (scope : Scope) (ds : List Declared) (text : List ℕ) (o : Option ℕ) → ds ≡ scope.names → NamesGroup (lookup ds text) o → NamesGroup (lookup scope.names text) o
stands_in scope ds text o e h = subst (λ (xs : List Declared). NamesGroup (lookup xs text) o) e h

pub group_within : (r : Resolver) → IsSound r → (text : List ℕ) (o : Option ℕ) → NamesGroup (lookup r.names text) o → IfSome o (λ place. place < length r.plan.groups)
group_within r sound text None h = tt
group_within r sound text (Some place) h =
    let g = name_object sound.lines sound.scope sound.within text (a_group place) (subst (λ (ds : List Declared). lookup ds text ≡ Some (a_group place)) sound.keeps.names h) in
    subst (λ (p : Plan). place < length p.groups) (sym sound.keeps.plan) (slice_get_within sound.scope.plan.groups place g.0 g.1)

-- words in the target
none_shown : (all : List Arrow) → flat_map (λ (a : Arrow). causes_at None a.image) all ≡ []
none_shown [] = refl
none_shown (a ∷ all) = none_shown all

home_shown : (scope : Scope) (place : ℕ) (home : Home) (all : List Arrow) → IsHome scope place home →
    flat_map (λ (a : Arrow). causes_at (Some home) a.image) all ≡ flat_map (λ (a : Arrow). in_word scope.names place (group_at scope place).generators a.image) all
home_shown scope place home all is =
    ap (λ (ds : List Declared). flat_map (λ (a : Arrow). in_word ds home.place home.generators.now a.image) all) is.names
    ∙ (ap (λ (k : ℕ). flat_map (λ (a : Arrow). in_word scope.names k home.generators.now a.image) all) is.place_is
    ∙ ap (λ (gs : List (List ℕ)). flat_map (λ (a : Arrow). in_word scope.names place gs a.image) all) is.generators)

home_values : (scope : Scope) (place : ℕ) (home : Home) (all : List Arrow) → IsHome scope place home →
    map (λ (a : Arrow). value_at (Some home) a.image) all ≡ map (λ (a : Arrow). value scope.names place (group_at scope place).generators a.image) all
home_values scope place home all is =
    ap (λ (ds : List Declared). map (λ (a : Arrow). value ds home.place home.generators.now a.image) all) is.names
    ∙ (ap (λ (k : ℕ). map (λ (a : Arrow). value scope.names k home.generators.now a.image) all) is.place_is
    ∙ ap (λ (gs : List (List ℕ)). map (λ (a : Arrow). value scope.names place gs a.image) all) is.generators)

abbrev in_target : Scope → List Arrow → Option Object → List Shown
in_target scope all to = of_group scope (λ place generators. flat_map (λ a. in_word scope.names place generators a.image) all) to

words_shown : (scope : Scope) (to : Option Object) (t : Option ℕ) (home : Option Home) (all : List Arrow) → IsHomeOf scope t home → NamesGroup to t → flat_map (λ (a : Arrow). causes_at home a.image) all ≡ in_target scope all to
words_shown scope to (Some place) (Some home) all is h = home_shown scope place home all is ∙ ap (in_target scope all) (sym h)
words_shown scope to None None all is h = none_shown all ∙ sym (outside scope (λ place generators. flat_map (λ a. in_word scope.names place generators a.image) all) to h)
words_shown scope to (Some place) None all is h = absurd is
words_shown scope to None (Some home) all is h = absurd is

pub values_are : (scope : Scope) (t : ℕ) (o : Option ℕ) (home : Option Home) (all : List Arrow) → o ≡ Some t → IsHomeOf scope o home → map (λ (a : Arrow). value_at home a.image) all ≡ map (λ (a : Arrow). value scope.names t (group_at scope t).generators a.image) all
values_are scope t None home all e is = absurd cc
values_are scope t (Some place) None all e is = absurd is
values_are scope t (Some place) (Some home) all e is =
    let same : place ≡ t = cc in
    home_values scope t home all (subst (λ (k : ℕ). IsHome scope k home) same is)

abbrev pub left_causes : List Declared → List (List ℕ) → ℕ → List Named → List Shown
left_causes ds gs close names = flat_map (not_a_letter ds gs) names ++ (twice names ++ missing (texts names) close gs)

-- where the source is known
pub known_source : (scope : Scope) (line : ScriptLine) (all : List Arrow) (from to : Option Object) (s t : Option ℕ) (source : Home) (target : Option Home) (names : List Named) (close : ℕ) (o p q : Option Shown) → NamesGroup from s → IsHomeOf scope s (Some source) → NamesGroup to t
    → IsHomeOf scope t target → names ≡ lefts all → close ≡ last_place line.tokens → Gets (flat_map (λ (a : Arrow). causes_at target a.image) all) o p → Gets (left_causes source.names.now source.generators.now close names) p q
    → Gets (in_mapping scope line all from to) o q
known_source scope line all from to None t source target names close o p q stand is h k e last words lefts_shown = absurd is
known_source scope line all from to (Some s) t source target names close o p q stand is h k e last words lefts_shown =
    let gs : List (List ℕ) = (group_at scope s).generators in
    let right : Gets (in_target scope all to) o p = gets_same (in_target scope all to) (flat_map (λ (a : Arrow). causes_at target a.image) all) o p (sym (words_shown scope to t target all k h)) words in
    let same : left_causes scope.names gs (last_place line.tokens) (lefts all) ≡ left_causes source.names.now source.generators.now close names =
    sym (ap (λ (ds : List Declared). left_causes ds source.generators.now close names) is.names
    ∙ (ap (λ (xs : List (List ℕ)). left_causes scope.names xs close names) is.generators
    ∙ (ap (λ (n : ℕ). left_causes scope.names gs n names) last
    ∙ ap (λ (ns : List Named). left_causes scope.names gs (last_place line.tokens) ns) e))) in
    let left : Gets (left_causes scope.names gs (last_place line.tokens) (lefts all)) p q = gets_same (left_causes scope.names gs (last_place line.tokens) (lefts all)) (left_causes source.names.now source.generators.now close names) p q same lefts_shown in
    let both = gets_turned (in_target scope all to) (left_causes scope.names gs (last_place line.tokens) (lefts all)) o q
    (gets_both (in_target scope all to) (left_causes scope.names gs (last_place line.tokens) (lefts all)) o p q right left) in
    gets_same (in_mapping scope line all from to) (left_causes scope.names gs (last_place line.tokens) (lefts all) ++ in_target scope all to) o q
    (ap (λ (f : Option Object). in_mapping scope line all f to) stand
    ∙ sym (append_assoc (flat_map (not_a_letter scope.names gs) (lefts all)) (twice (lefts all) ++ missing (texts (lefts all)) (last_place line.tokens) gs) (in_target scope all to)
    ∙ ap (λ (xs : List Shown). flat_map (not_a_letter scope.names gs) (lefts all) ++ xs) (append_assoc (twice (lefts all)) (missing (texts (lefts all)) (last_place line.tokens) gs) (in_target scope all to))))
    both

-- where it isn't
pub unknown_source : (scope : Scope) (line : ScriptLine) (all : List Arrow) (from to : Option Object) (s t : Option ℕ) (target : Option Home) (names : List Named) (o p q : Option Shown) → NamesGroup from s → IsHomeOf scope s None → NamesGroup to t
    → IsHomeOf scope t target → names ≡ lefts all → Gets (flat_map (λ (a : Arrow). causes_at target a.image) all) o p → Gets (twice names) p q → Gets (in_mapping scope line all from to) o q
unknown_source scope line all from to (Some s) t target names o p q stand is h k e words left = absurd is
unknown_source scope line all from to None t target names o p q stand is h k e words left =
    let right : Gets (in_target scope all to) o p = gets_same (in_target scope all to) (flat_map (λ (a : Arrow). causes_at target a.image) all) o p (sym (words_shown scope to t target all k h)) words in
    let both = gets_turned (in_target scope all to) (twice names) o q (gets_both (in_target scope all to) (twice names) o p q right left) in
    gets_same (in_mapping scope line all from to) (twice names ++ in_target scope all to) o q
    (ap (λ (xs : List Shown). xs ++ (twice (lefts all) ++ (of_group scope (λ place generators. missing (texts (lefts all)) (last_place line.tokens) generators) from ++ in_target scope all to)))
    (outside scope (λ place generators. flat_map (not_a_letter scope.names generators) (lefts all)) from stand)
    ∙ (ap (λ (xs : List Shown). twice (lefts all) ++ (xs ++ in_target scope all to)) (outside scope (λ place generators. missing (texts (lefts all)) (last_place line.tokens) generators) from stand)
    ∙ ap (λ (ns : List Named). twice ns ++ in_target scope all to) (sym e)))
    both

pub images_are : (scope : Scope) (s t : ℕ) (o : Option ℕ) (source : Home) (all : List Arrow) (gs : List (List ℕ)) → o ≡ Some s → IsHomeOf scope o (Some source) → gs ≡ source.generators.now
    → map (λ (g : List ℕ). value_or_none scope t (image_of_generator all g)) gs ≡ images scope s t all
images_are scope s t None source all gs e is h = absurd cc
images_are scope s t (Some place) source all gs e is h =
    let same : place ≡ s = cc in
    ap (map (λ (g : List ℕ). value_or_none scope t (image_of_generator all g))) (h ∙ is.generators) ∙ ap (λ (k : ℕ). images scope k t all) same

-- what holds in any case
pub always : {T E : Type 0} (r : Result T E) (P : Type 0) → P → OnOk r P
always (Ok x) P h = h
always (Err e) P h = tt

-- the names on the left show what they must
pub lefts_checked : (source : Home) (ns ms : List Name) (gs : List (List ℕ)) (close : ℕ) (o p q v : Option Shown) → ms ≡ ns → gs ≡ source.generators.now → Gets (flat_map (not_a_letter source.names.now source.generators.now) (map named_of ns)) o p
    → Gets (twice (map named_of ms)) p q → Gets (missing (texts (map named_of ns)) close gs) q v → Gets (left_causes source.names.now source.generators.now close (map named_of ns)) o v
lefts_checked source ns ms gs close o p q v e f g h k =
    gets_both (flat_map (not_a_letter source.names.now source.generators.now) (map named_of ns)) (twice (map named_of ns) ++ missing (texts (map named_of ns)) close source.generators.now) o p v g
    (gets_both (twice (map named_of ns)) (missing (texts (map named_of ns)) close source.generators.now) p q v
    (subst (λ (xs : List Name). Gets (twice (map named_of xs)) p q) e h)
    (subst (λ (xs : List (List ℕ)). Gets (missing (texts (map named_of ns)) close xs) q v) f k))

-- what a map shows behind its own name
abbrev pub map_causes : Scope → ScriptLine → List Arrow → Named → Named → List Shown
map_causes scope line all a b =
    not_a_group a (lookup scope.names a.text) ++ (not_a_group b (lookup scope.names b.text) ++ in_mapping scope line all (lookup scope.names a.text) (lookup scope.names b.text))

pub map_shown : (scope : Scope) (r : Resolver) (line : ScriptLine) (all : List Arrow) (a b : Named) (s t : Option ℕ) (o p q v : Option Shown) → Keeps scope r → NamesGroup (lookup r.names a.text) s → NamesGroup (lookup r.names b.text) t
    → Gets (not_a_group a (lookup r.names a.text)) o p → Gets (not_a_group b (lookup r.names b.text)) p q → ((from to : Option Object) → NamesGroup from s → NamesGroup to t → Gets (in_mapping scope line all from to) q v)
    → Gets (map_causes scope line all a b) o v
map_shown scope r line all a b s t o p q v keeps sa sb ga gb rest =
    let from : Option Object = lookup scope.names a.text in
    let to : Option Object = lookup scope.names b.text in
    gets_both (not_a_group a from) (not_a_group b to ++ in_mapping scope line all from to) o p v
    (subst (λ (ds : List Declared). Gets (not_a_group a (lookup ds a.text)) o p) keeps.names ga)
    (gets_both (not_a_group b to) (in_mapping scope line all from to) p q v
    (subst (λ (ds : List Declared). Gets (not_a_group b (lookup ds b.text)) p q) keeps.names gb)
    (rest from to (stands_in scope r.names a.text s keeps.names sa) (stands_in scope r.names b.text t keeps.names sb)))

-- a map as a whole, read by names that are those of the statement
module _ (scope : Scope) (r : Resolver) (line : ScriptLine) (all : List Arrow) (n a b n' a' b' : Named) (keeps : Keeps scope r) (en : n' ≡ n) (ea : a' ≡ a) (eb : b' ≡ b) (o p q : Option Shown) (start : o ≡ None)
    (own : Gets (taken_if n' (lookup r.names n'.text)) o p) (others : Gets (map_causes scope line all a' b') p q) where
  pub map_least : IsLeastOf (shown scope line (mapping n a b all)) q
  map_least =
      let first : Gets (taken_if n (lookup scope.names n.text)) None p =
      subst (λ (x : Option Shown). Gets (taken_if n (lookup scope.names n.text)) x p) start
      (subst (λ (m : Named). Gets (taken_if m (lookup scope.names m.text)) o p) en
      (subst (λ (ds : List Declared). Gets (taken_if n' (lookup ds n'.text)) o p) keeps.names own)) in
      let second : Gets (map_causes scope line all a b) p q =
      subst (λ (m : Named). Gets (map_causes scope line all a m) p q) eb (subst (λ (m : Named). Gets (map_causes scope line all m b') p q) ea others) in
      found_all (shown scope line (mapping n a b all)) q (gets_both (taken_if n (lookup scope.names n.text)) (map_causes scope line all a b) None p q first second)

  pub none_shown_here : q ≡ None → shown scope line (mapping n a b all) ≡ []
  none_shown_here e = subst (λ (x : Option Shown). IsLeastOf (shown scope line (mapping n a b all)) x) e map_least

  pub map_new : q ≡ None → lookup r.names n'.text ≡ None
  map_new e =
      ap (λ (m : Named). lookup r.names m.text) en ∙ (ap (λ (ds : List Declared). lookup ds n.text) keeps.names
      ∙ new_name n (lookup scope.names n.text) (map_causes scope line all a b) (none_shown_here e))
    where
      new_name : (m : Named) (found : Option Object) (rest : List Shown) → taken_if m found ++ rest ≡ [] → found ≡ None
      new_name m None rest f = refl
      new_name m (Some x) rest f = absurd cc

  pub map_there : q ≡ None → IsMapOf scope all a' b' None → ⊥
  map_there e none =
      subst (λ (m : Named). IsMapOf scope all a m None) eb (subst (λ (m : Named). IsMapOf scope all m b' None) ea none)
      (in_mapping scope line all (lookup scope.names a.text) (lookup scope.names b.text)) (none_right (taken_if n (lookup scope.names n.text)) (map_causes scope line all a b) (none_shown_here e))

pub map_after : (scope : Scope) (new : Resolver) (all : List Arrow) (n a b n' a' b' : Named) (x : declared.Object) → n' ≡ n → a' ≡ a → b' ≡ b → IsMap scope all a' b' x → Keeps (declaring scope n' (object_of x)) new → Keeps (after scope (mapping n a b all)) new
map_after scope new all n a b n' a' b' x en ea eb is keeps =
    let to : lookup scope.names b.text ≡ Some (a_group is.target) = ap (λ (m : Named). lookup scope.names m.text) (sym eb) ∙ is.to in
    let from : lookup scope.names a.text ≡ Some (a_group is.source) = ap (λ (m : Named). lookup scope.names m.text) (sym ea) ∙ is.from in
    let same : after scope (mapping n a b all) ≡ declaring scope n (a_map is.source is.target (images scope is.source is.target all)) =
    ap (λ (f : Option Object). declares_map scope n all f (lookup scope.names b.text)) from ∙ ap (λ (f : Option Object). declares_map scope n all (Some (a_group is.source)) f) to in
    subst (λ (s : Scope). Keeps s new) (ap (λ (m : Named). declaring scope m (object_of x)) en ∙ (ap (declaring scope n) is.object ∙ sym same)) keeps

-- some line with its last token at this place
pub line_to : (close : ℕ) → (line : ScriptLine) × (close ≡ last_place line.tokens)
line_to close = (record { number = 1; bytes = []; tokens = record { kind = kind.Name; start = close; length = 0 } ∷ []; lexemes = [] }, refl)
