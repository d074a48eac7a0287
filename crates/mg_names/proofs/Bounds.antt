-- Words written out, and their values, are within bounds.
use Rattle.std.proofs.Common.{◌≡◌, ℕ, zero, suc, ℤ, ◌+◌, ◌*◌, ◌<◌, ◌≤◌, Bool, true, false, Option, Some, None, List, [], ◌∷◌, ◌++◌, length, refl, sym, ap, subst, ◌∙◌, arith}
use Rattle.std.specs.Prelude.{nat_abs, ◌==◌, if◌then◌else◌}
use Rattle.std.specs.List.{AllByRecursion}
use Rattle.std.proofs.Math.Nat.{mul-le-mul}
use Rattle.std.proofs.lemmas.List.{length-append}
use Rattle.std.proofs.lemmas.Bool.Decides.{Decides-eqb}
use Rattle.mg_terms.specs.Word.{base_letters, factor_letters, word_letters}
use Rattle.mg_words.specs.Word.{IsOver, inv, commutator_of, power_of}
use Rattle.mg_words.proofs.Chains.{IsOver-append, IsOver-inv, IsOver-power_of, IsOver-commutator_of, length-inv, length-power_of}
use Rattle.mg_words.specs.Reduction.{free_form}
use Rattle.mg_words.proofs.Free.{IsReduced-free_form, IsOver-free_form, free_form-length, reduced_from_apart}
use Rattle.mg_script.specs.Count.{IsBoundedTerm}
use Rattle.mg_questions.specs.Asking.{IsGiven}
use Rattle.mg_names.specs.Plan.{Plan, PlanGroup}
use Rattle.mg_names.specs.Named.{Base, named, one, round, commutator, Factor, bare, power, Word, single, times, Relation, relator, equation, plain_base, plain_factor, plain_word}
use Rattle.mg_names.specs.Scope.{Object, a_group, a_word, a_subgroup, a_map, a_question, Declared, same_text, lookup, next_place, generator_place}
use Rattle.mg_names.specs.Meaning.{letter_at, signed, base_written, factor_written, written, declared_word, name_value, value, relator_of}
use Rattle.mg_names.specs.Within.{IsGroupAt, HasWord, IsObject, IsSizedWord, IsSizedRelation}

-- the place of a generator is one of theirs
next_within : (n : ℕ) (o : Option ℕ) → ((i : ℕ) → o ≡ Some i → i < n) → (i : ℕ) → next_place o ≡ Some i → i < suc n
next_within n None below i e = absurd cc
next_within n (Some j) below i e =
    let less = below j refl in
    let same : j + 1 ≡ i = cc in
    omega (arith, less, same)

head_within : (b : Bool) (n : ℕ) (o : Option ℕ) → ((i : ℕ) → o ≡ Some i → i < n) → (i : ℕ) → (if b then Some 0 else next_place o) ≡ Some i → i < suc n
head_within true n o below i e = let first : 0 ≡ i = cc in omega (arith, first)
head_within false n o below i e = next_within n o below i e

place_within : (gs : List (List ℕ)) (text : List ℕ) (i : ℕ) → generator_place gs text ≡ Some i → i < length gs
place_within [] text i e = absurd cc
place_within (g ∷ gs) text i e = head_within (same_text g text) (length gs) (generator_place gs text) (place_within gs text) i e

letter_over : (m : ℕ) (o : Option ℕ) → ((i : ℕ) → o ≡ Some i → i < m) → IsOver m (letter_at o)
letter_over m None below = tt
letter_over m (Some i) below = (record { least = omega arith; most = let less = below i refl in omega (arith, less) }, tt)

mutual
  base_over : (gs : List (List ℕ)) (b : Base) → IsOver (length gs) (base_written gs b)
  base_over gs (named n) = letter_over (length gs) (generator_place gs n.text) (place_within gs n.text)
  base_over gs one = tt
  base_over gs (round w) = written_over gs w
  base_over gs (commutator u v) = IsOver-commutator_of (length gs) (written gs u) (written gs v) (written_over gs u) (written_over gs v)

  factor_over : (gs : List (List ℕ)) (f : Factor) → IsOver (length gs) (factor_written gs f)
  factor_over gs (bare b) = base_over gs b
  factor_over gs (power b negative n) = IsOver-power_of (length gs) (signed negative n) (base_written gs b) (base_over gs b)

  pub written_over : (gs : List (List ℕ)) (w : Word) → IsOver (length gs) (written gs w)
  written_over gs (single f) = factor_over gs f
  written_over gs (times w star f) = IsOver-append (length gs) (written gs w) (factor_written gs f) (written_over gs w) (factor_over gs f)

letter_short : (o : Option ℕ) → length (letter_at o) ≤ 1
letter_short None = omega arith
letter_short (Some i) = omega arith

size_of_signed : (negative : Bool) (n : ℕ) → nat_abs (signed negative n) ≡ n
size_of_signed true zero = refl
size_of_signed true (suc n) = refl
size_of_signed false n = refl

commutator-length : (u v : List ℤ) → length (commutator_of u v) ≡ 2 * (length u + length v)
commutator-length u v =
    omega (arith, length-append (inv u ++ inv v ++ u) v, length-append (inv u ++ inv v) u, length-append (inv u) (inv v), length-inv u, length-inv v)

-- no more letters than are counted
mutual
  base_short : (gs : List (List ℕ)) (b : Base) → length (base_written gs b) ≤ base_letters (plain_base b)
  base_short gs (named n) = letter_short (generator_place gs n.text)
  base_short gs one = omega arith
  base_short gs (round w) = written_short gs w
  base_short gs (commutator u v) =
      let first = written_short gs u in
      let second = written_short gs v in
      omega (arith, first, second, commutator-length (written gs u) (written gs v))

  factor_short : (gs : List (List ℕ)) (f : Factor) → length (factor_written gs f) ≤ factor_letters (plain_factor f)
  factor_short gs (bare b) = base_short gs b
  factor_short gs (power b negative n) =
      let e : length (power_of (signed negative n) (base_written gs b)) ≡ length (base_written gs b) * n =
      length-power_of (signed negative n) (base_written gs b) ∙ ap (λ k. length (base_written gs b) * k) (size_of_signed negative n) in
      let h : length (base_written gs b) * n ≤ base_letters (plain_base b) * n = mul-le-mul (base_short gs b) (omega arith) in
      omega (arith, e, h)

  pub written_short : (gs : List (List ℕ)) (w : Word) → length (written gs w) ≤ word_letters (plain_word w)
  written_short gs (single f) = factor_short gs f
  written_short gs (times w star f) =
      let first = written_short gs w in
      let second = factor_short gs f in
      omega (arith, first, second, length-append (written gs w) (factor_written gs f))

-- the freely reduced form of a word
pub form_short : (gs : List (List ℕ)) (w : Word) → length (free_form (written gs w)) ≤ word_letters (plain_word w)
form_short gs w = let h = written_short gs w in omega (arith, h, free_form-length (written gs w))

pub form_given : (gs : List (List ℕ)) (w : Word) → IsSizedWord w → IsGiven (length gs) (free_form (written gs w))
form_given gs w sized = record {
  over = IsOver-free_form (length gs) (written gs w) (written_over gs w);
  reduced = IsReduced-free_form (written gs w);
  short = let h = form_short gs w in omega (arith, h, sized.relation);
}

-- what a name stands for is among what is declared
looked_up_head : (P : Object → Type 0) (b : Bool) (first o : Object) (others : Option Object) → P first → (others ≡ Some o → P o) → (if b then Some first else others) ≡ Some o → P o
looked_up_head P true first o others here there e = let same : first ≡ o = cc in subst P same here
looked_up_head P false first o others here there e = there e

pub looked_up : (P : Object → Type 0) (ds : List Declared) (text : List ℕ) (o : Object) → AllByRecursion (λ d. P d.object) ds → lookup ds text ≡ Some o → P o
looked_up P [] text o all e = absurd cc
looked_up P (d ∷ ds) text o all e = looked_up_head P (same_text d.name text) d.object o (lookup ds text) all.0 (looked_up P ds text o all.1) e

pub nil_given : (m : ℕ) → IsGiven m []
nil_given m = record { over = tt; reduced = IsReduced-free_form []; short = omega arith }

-- the names of generators are those of the group at the place, if one is there
abbrev pub AreNamesAt : Plan → ℕ → List (List ℕ) → Type 0
AreNamesAt plan place gs = (g : PlanGroup) → IsGroupAt plan place g → length gs ≡ g.group.generators

declared_given : (plan : Plan) (place home : ℕ) (gs : List (List ℕ)) (w : List ℤ) → AreNamesAt plan place gs → HasWord plan home w → (b : Bool) → (b ≡ true → place ≡ home) → IsGiven (length gs) (if b then w else [])
declared_given plan place home gs w at has true same =
    let there : IsGroupAt plan place has.group = subst (λ (k : ℕ). IsGroupAt plan k has.group) (sym (same refl)) has.there in
    subst (λ (m : ℕ). IsGiven m w) (sym (at has.group there)) has.given
declared_given plan place home gs w at has false same = nil_given (length gs)

found_given : (plan : Plan) (place : ℕ) (gs : List (List ℕ)) (found : Option Object) → AreNamesAt plan place gs → ((o : Object) → found ≡ Some o → IsObject plan o) → IsGiven (length gs) (declared_word place found)
found_given plan place gs None at object = nil_given (length gs)
found_given plan place gs (Some (a_group k)) at object = nil_given (length gs)
found_given plan place gs (Some (a_word home w)) at object = declared_given plan place home gs w at (object (a_word home w) refl) (place == home) (Decides-eqb place home).0
found_given plan place gs (Some (a_subgroup k ws)) at object = nil_given (length gs)
found_given plan place gs (Some (a_map k j ws)) at object = nil_given (length gs)
found_given plan place gs (Some (a_question k)) at object = nil_given (length gs)

letter_given : (m i : ℕ) → i < m → IsGiven m (letter_at (Some i))
letter_given m i less = record {
  over = (record { least = omega arith; most = omega (arith, less) }, tt);
  reduced = reduced_from_apart (letter_at (Some i)) (tt, tt);
  short = omega arith;
}

name_given : (plan : Plan) (place : ℕ) (gs : List (List ℕ)) (found : Option Object) (o : Option ℕ) → AreNamesAt plan place gs → ((p : Object) → found ≡ Some p → IsObject plan p) → ((i : ℕ) → o ≡ Some i → i < length gs)
    → IsGiven (length gs) (name_value place found o)
name_given plan place gs found None at object within = found_given plan place gs found at object
name_given plan place gs found (Some i) at object within = letter_given (length gs) i (within i refl)

-- the value of a word
pub value_given : (plan : Plan) (ds : List Declared) (place : ℕ) (gs : List (List ℕ)) (w : Word) → AllByRecursion (λ d. IsObject plan d.object) ds → AreNamesAt plan place gs → IsSizedWord w → IsGiven (length gs) (value ds place gs w)
value_given plan ds place gs (single (bare (named n))) all at sized =
    name_given plan place gs (lookup ds n.text) (generator_place gs n.text) at (λ o e. looked_up (IsObject plan) ds n.text o all e) (place_within gs n.text)
value_given plan ds place gs (single (bare one)) all at sized = form_given gs (single (bare one)) sized
value_given plan ds place gs (single (bare (round w))) all at sized = form_given gs (single (bare (round w))) sized
value_given plan ds place gs (single (bare (commutator u v))) all at sized = form_given gs (single (bare (commutator u v))) sized
value_given plan ds place gs (single (power b negative n)) all at sized = form_given gs (single (power b negative n)) sized
value_given plan ds place gs (times w star f) all at sized = form_given gs (times w star f) sized

-- where no declared word is of the group, a value has no more letters than are counted
no_word_short : (plan : Plan) (place : ℕ) (found : Option Object) → ((g : PlanGroup) → IsGroupAt plan place g → ⊥) → ((o : Object) → found ≡ Some o → IsObject plan o) → length (declared_word place found) ≤ 1
no_word_short plan place None new object = omega arith
no_word_short plan place (Some (a_group k)) new object = omega arith
no_word_short plan place (Some (a_word home w)) new object = by_same (place == home) (Decides-eqb place home).0
  where
    by_same : (b : Bool) → (b ≡ true → place ≡ home) → length (if b then w else []) ≤ 1
    by_same true same =
        let has : HasWord plan home w = object (a_word home w) refl in
        absurd (new has.group (subst (λ (k : ℕ). IsGroupAt plan k has.group) (sym (same refl)) has.there))
    by_same false same = omega arith
no_word_short plan place (Some (a_subgroup k ws)) new object = omega arith
no_word_short plan place (Some (a_map k j ws)) new object = omega arith
no_word_short plan place (Some (a_question k)) new object = omega arith

name_short : (plan : Plan) (place : ℕ) (found : Option Object) (o : Option ℕ) → ((g : PlanGroup) → IsGroupAt plan place g → ⊥) → ((p : Object) → found ≡ Some p → IsObject plan p) → length (name_value place found o) ≤ 1
name_short plan place found None new object = no_word_short plan place found new object
name_short plan place found (Some i) new object = omega arith

value_short : (plan : Plan) (ds : List Declared) (place : ℕ) (gs : List (List ℕ)) (w : Word) → AllByRecursion (λ d. IsObject plan d.object) ds → ((g : PlanGroup) → IsGroupAt plan place g → ⊥) → length (value ds place gs w) ≤ word_letters (plain_word w)
value_short plan ds place gs (single (bare (named n))) all new = name_short plan place (lookup ds n.text) (generator_place gs n.text) new (λ o e. looked_up (IsObject plan) ds n.text o all e)
value_short plan ds place gs (single (bare one)) all new = form_short gs (single (bare one))
value_short plan ds place gs (single (bare (round w))) all new = form_short gs (single (bare (round w)))
value_short plan ds place gs (single (bare (commutator u v))) all new = form_short gs (single (bare (commutator u v)))
value_short plan ds place gs (single (power b negative n)) all new = form_short gs (single (power b negative n))
value_short plan ds place gs (times w star f) all new = form_short gs (times w star f)

-- the relator of a relation of a group that is declared
pub relator_given : (plan : Plan) (ds : List Declared) (place : ℕ) (gs : List (List ℕ)) (r : Relation) → AllByRecursion (λ d. IsObject plan d.object) ds → ((g : PlanGroup) → IsGroupAt plan place g → ⊥) → IsSizedRelation r → IsGiven (length gs) (relator_of ds place gs r)
relator_given plan ds place gs (relator w) all new sized = value_given plan ds place gs w all (λ g there. absurd (new g there)) sized
relator_given plan ds place gs (equation u v) all new sized =
    let left = value_given plan ds place gs u all (λ g there. absurd (new g there)) sized.0 in
    let right = value_given plan ds place gs v all (λ g there. absurd (new g there)) (alone_sized u v sized.1) in
    let left_short = value_short plan ds place gs u all new in
    let right_short = value_short plan ds place gs v all new in
    let w : List ℤ = value ds place gs u ++ inv (value ds place gs v) in
    record {
      over = IsOver-free_form (length gs) w (IsOver-append (length gs) (value ds place gs u) (inv (value ds place gs v)) left.over (IsOver-inv (length gs) (value ds place gs v) right.over));
      reduced = IsReduced-free_form w;
      short = omega (arith, left_short, right_short, sized.1.relation, free_form-length w, length-append (value ds place gs u) (inv (value ds place gs v)), length-inv (value ds place gs v));
    }
  where
    alone_sized : (u v : Word) → IsBoundedTerm (Some (plain_word u)) (plain_word v) → IsSizedWord v
    alone_sized u v h = record { within = h.within; relation = omega (arith, h.relation) }
