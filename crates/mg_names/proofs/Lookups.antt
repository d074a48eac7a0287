-- Looking names up in a table.
use Rattle.std.proofs.Common.{◌≡◌, ℕ, ◌+◌, ◌==◌, ◌&&◌, Bool, true, false, cond, if◌then◌else◌, Option, Some, None, List, [], ◌∷◌, ◌++◌, position, nat_eq, refl, sym, ap, ◌∙◌, arith, Vec, IfSome, IfNone}
use Rattle.std.specs.declared.alloc.Global.{Global}
use Rattle.std.specs.Cmp.Lexicographic.{pointwise, bytes_decides}
use Rattle.std.specs.Option.{option_map, option_copied, is_some}
use Rattle.std.specs.List.{position_from}
use Rattle.std.proofs.lemmas.List.{map-append}
use Rattle.std.proofs.lemmas.Iterator.Adapters.{position_from-zero}
use Rattle.std.specs.Borrow.{Bor}
use Rattle.std.specs.Map as table
use Rattle.mg_names.specs.declared.scope.Object.{Object}
use Rattle.mg_names.specs.Scope as meant
use Rattle.mg_names.specs.Scope.{Declared, same_text, lookup, generator_place, next_place}
use Rattle.mg_names.specs.Objects.{object_of, declared_in}

-- the test that a table is searched by, and that of the definition
both_ways : (b c : Bool) → (b ≡ true → c ≡ true) → (c ≡ true → b ≡ true) → b ≡ c
both_ways true c f g = sym (f refl)
both_ways false true f g = g refl
both_ways false false f g = refl

pub texts_agree : (a b : List ℕ) → same_text a b ≡ pointwise nat_eq a b
texts_agree [] [] = refl
texts_agree [] (y ∷ b) = refl
texts_agree (x ∷ a) [] = refl
texts_agree (x ∷ a) (y ∷ b) = ap (λ (r : Bool). (x == y) && r) (texts_agree a b)

turned : (a b : List ℕ) → pointwise nat_eq a b ≡ pointwise nat_eq b a
turned a b =
    both_ways (pointwise nat_eq a b) (pointwise nat_eq b a)
    (λ h. (bytes_decides b a).1 (sym ((bytes_decides a b).0 h)))
    (λ h. (bytes_decides a b).1 (sym ((bytes_decides b a).0 h)))

-- what a table answers
abbrev pub found_in : List (Vec ℕ Global × Object) → List ℕ → Option Object
found_in es text = table.lookup (λ (k : Vec ℕ Global). pointwise nat_eq text k.items) es

chosen : (b : Bool) (o : Object) (r : Option Object) → (if b then Some (object_of o) else option_map object_of r) ≡ option_map object_of (cond b (Some o) r)
chosen true o r = refl
chosen false o r = refl

pub found_is : (es : List (Vec ℕ Global × Object)) (text : List ℕ) → lookup (declared_in es) text ≡ option_map object_of (found_in es text)
found_is [] text = refl
found_is (e ∷ es) text =
    ap (λ (b : Bool). if b then Some (object_of e.1) else lookup (declared_in es) text) (texts_agree e.0.items text ∙ turned e.0.items text)
    ∙ (ap (λ (r : Option meant.Object). if pointwise nat_eq text e.0.items then Some (object_of e.1) else r) (found_is es text)
    ∙ chosen (pointwise nat_eq text e.0.items) e.1 (found_in es text))

unmapped : (r : Option Object) → option_map object_of r ≡ None → r ≡ None
unmapped None e = refl
unmapped (Some o) e = absurd cc

pub not_there : (es : List (Vec ℕ Global × Object)) (text : List ℕ) → lookup (declared_in es) text ≡ None → found_in es text ≡ None
not_there es text e = unmapped (found_in es text) (sym (found_is es text) ∙ e)

pub declared_last : (es : List (Vec ℕ Global × Object)) (k : Vec ℕ Global) (o : Object) →
    declared_in (es ++ (k, o) ∷ []) ≡ declared_in es ++ record { name = k.items; object = object_of o } ∷ []
declared_last es k o = map-append _ es ((k, o) ∷ [])

-- what a look-up answers, by reference
pub found_some : (es : List (Vec ℕ Global × Object)) (names : List Declared) (text : List ℕ) (r : Option (Bor Object)) → declared_in es ≡ names → option_copied r ≡ found_in es text →
    IfSome r (λ o. lookup names text ≡ Some (object_of o.now))
found_some es names text None e f = tt
found_some es names text (Some o) e f = ap (λ (ds : List Declared). lookup ds text) (sym e) ∙ (found_is es text ∙ ap (option_map object_of) (sym f))

pub found_none : (es : List (Vec ℕ Global × Object)) (names : List Declared) (text : List ℕ) (r : Option (Bor Object)) → declared_in es ≡ names → option_copied r ≡ found_in es text →
    IfNone r (lookup names text ≡ None)
found_none es names text None e f = ap (λ (ds : List Declared). lookup ds text) (sym e) ∙ (found_is es text ∙ ap (option_map object_of) (sym f))
found_none es names text (Some o) e f = tt

-- a name that isn't there is declared behind the others
pub none_before : (es : List (Vec ℕ Global × Object)) (names : List Declared) (text : List ℕ) (key : Vec ℕ Global) → declared_in es ≡ names → lookup names text ≡ None → key.items ≡ text → found_in es key.items ≡ None
none_before es names text key e h k =
    not_there es key.items (ap (lookup (declared_in es)) k ∙ (ap (λ (ds : List Declared). lookup ds text) e ∙ h))

pub declared_new : (es new : List (Vec ℕ Global × Object)) (names : List Declared) (text : List ℕ) (key : Vec ℕ Global) (o : Object) → declared_in es ≡ names → key.items ≡ text → new ≡ es ++ (key, o) ∷ [] →
    declared_in new ≡ names ++ record { name = text; object = object_of o } ∷ []
declared_new es new names text key o e k n =
    ap declared_in n ∙ (declared_last es key o ∙ (ap (λ (ds : List Declared). ds ++ record { name = key.items; object = object_of o } ∷ []) e
    ∙ ap (λ (t : List ℕ). names ++ record { name = t; object = object_of o } ∷ []) k))

-- where a generator stands among the names
onward : ℕ → Option ℕ → Option ℕ
onward i None = None
onward i (Some j) = Some (i + j)

onward_next : (i : ℕ) (r : Option ℕ) → onward (i + 1) r ≡ onward i (next_place r)
unfolding onward
onward_next i None = refl
onward_next i (Some j) = ap Some (omega arith)

onward_zero : (r : Option ℕ) → onward 0 r ≡ r
unfolding onward
onward_zero None = refl
onward_zero (Some j) = ap Some (omega arith)

here : (b : Bool) (i : ℕ) (r : Option ℕ) → cond b (Some i) (onward i (next_place r)) ≡ onward i (if b then Some 0 else next_place r)
unfolding onward
here true i r = ap Some (omega arith)
here false i r = refl

place_onward : (i : ℕ) (gs : List (List ℕ)) (text : List ℕ) → position_from (λ (g : List ℕ). pointwise nat_eq g text) i gs ≡ onward i (generator_place gs text)
unfolding onward
place_onward i [] text = refl
place_onward i (g ∷ gs) text =
    ap (λ (r : Option ℕ). cond (pointwise nat_eq g text) (Some i) r) (place_onward (i + 1) gs text ∙ onward_next i (generator_place gs text))
    ∙ (here (pointwise nat_eq g text) i (generator_place gs text)
    ∙ ap (λ (b : Bool). onward i (if b then Some 0 else next_place (generator_place gs text))) (sym (texts_agree g text)))

pub place_found : (gs : List (List ℕ)) (text : List ℕ) → position (λ (g : List ℕ). pointwise nat_eq g text) gs ≡ generator_place gs text
place_found gs text =
    position_from-zero (λ (g : List ℕ). pointwise nat_eq g text) gs ∙ (place_onward 0 gs text ∙ onward_zero (generator_place gs text))

-- no place
pub absent : (o : Option ℕ) → is_some o ≡ false → o ≡ None
absent None e = refl
absent (Some i) e = absurd cc
