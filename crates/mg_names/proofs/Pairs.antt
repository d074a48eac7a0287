-- How pairs of a question and a procedure are kept, when one more is named.
use Rattle.std.proofs.Common.{◌≡◌, ◌⊎◌, inl, inr, ⊎_elim, ℕ, suc, ◌+◌, ◌<◌, ◌≤◌, Bool, true, false, List, [], ◌∷◌, ◌++◌, length, get_or, set, refl, sym, ap, ◌∙◌, arith}
use Rattle.std.specs.Prelude.{◌==◌, ◌&&◌, ◌||◌, filter, slice_set, if◌then◌else◌}
use Rattle.std.specs.List.{AllByRecursion}
use Rattle.std.proofs.lemmas.Bool.{cases_lt}
use Rattle.std.proofs.lemmas.Bool.Decides.{Decides-eqb}
use Rattle.std.proofs.lemmas.List.{length-append, get_or_append_left, get_or-append-add, get_or-set_same, get_or-set_other}
use Rattle.std.proofs.lemmas.List.Elements.{filter-append}
use Rattle.std.proofs.Math.ListN.{length-set}
use Rattle.mg_words.specs.declared.procedure.Procedure.{Procedure}
use Rattle.mg_words.specs.declared.procedure.Procedure.TheVariants as procedure
use Rattle.mg_names.specs.declared.searches.Searches.{Searches}
use Rattle.mg_names.specs.declared.plan.TheConstants.{MOST_SEARCHES}
use Rattle.mg_names.specs.Meaning.{same_procedure, is_named}
use Rattle.mg_names.specs.Cause.{of_procedure}
use Rattle.mg_names.specs.Searches.{number_of, place, one_of, Holds}
use Rattle.mg_names.proofs.Members.{all_append, all_more}

by_number : (r p : Procedure) → same_procedure r p ≡ (number_of r == number_of p)
by_number procedure.Derive procedure.Derive = refl
by_number procedure.Derive procedure.Act = refl
by_number procedure.Derive procedure.Residue = refl
by_number procedure.Derive procedure.Rewrite = refl
by_number procedure.Derive procedure.Cosets = refl
by_number procedure.Derive procedure.Nielsen = refl
by_number procedure.Derive procedure.Recall = refl
by_number procedure.Act procedure.Derive = refl
by_number procedure.Act procedure.Act = refl
by_number procedure.Act procedure.Residue = refl
by_number procedure.Act procedure.Rewrite = refl
by_number procedure.Act procedure.Cosets = refl
by_number procedure.Act procedure.Nielsen = refl
by_number procedure.Act procedure.Recall = refl
by_number procedure.Residue procedure.Derive = refl
by_number procedure.Residue procedure.Act = refl
by_number procedure.Residue procedure.Residue = refl
by_number procedure.Residue procedure.Rewrite = refl
by_number procedure.Residue procedure.Cosets = refl
by_number procedure.Residue procedure.Nielsen = refl
by_number procedure.Residue procedure.Recall = refl
by_number procedure.Rewrite procedure.Derive = refl
by_number procedure.Rewrite procedure.Act = refl
by_number procedure.Rewrite procedure.Residue = refl
by_number procedure.Rewrite procedure.Rewrite = refl
by_number procedure.Rewrite procedure.Cosets = refl
by_number procedure.Rewrite procedure.Nielsen = refl
by_number procedure.Rewrite procedure.Recall = refl
by_number procedure.Cosets procedure.Derive = refl
by_number procedure.Cosets procedure.Act = refl
by_number procedure.Cosets procedure.Residue = refl
by_number procedure.Cosets procedure.Rewrite = refl
by_number procedure.Cosets procedure.Cosets = refl
by_number procedure.Cosets procedure.Nielsen = refl
by_number procedure.Cosets procedure.Recall = refl
by_number procedure.Nielsen procedure.Derive = refl
by_number procedure.Nielsen procedure.Act = refl
by_number procedure.Nielsen procedure.Residue = refl
by_number procedure.Nielsen procedure.Rewrite = refl
by_number procedure.Nielsen procedure.Cosets = refl
by_number procedure.Nielsen procedure.Nielsen = refl
by_number procedure.Nielsen procedure.Recall = refl
by_number procedure.Recall procedure.Derive = refl
by_number procedure.Recall procedure.Act = refl
by_number procedure.Recall procedure.Residue = refl
by_number procedure.Recall procedure.Rewrite = refl
by_number procedure.Recall procedure.Cosets = refl
by_number procedure.Recall procedure.Nielsen = refl
by_number procedure.Recall procedure.Recall = refl

number_below : (p : Procedure) → number_of p < 7
number_below procedure.Derive = omega arith
number_below procedure.Act = omega arith
number_below procedure.Residue = omega arith
number_below procedure.Rewrite = omega arith
number_below procedure.Cosets = omega arith
number_below procedure.Nielsen = omega arith
number_below procedure.Recall = omega arith

or_last : (b c d : Bool) → ((b || c) || d) ≡ (b || (c || d))
or_last true c d = refl
or_last false c d = refl

or_none : (b : Bool) → (b || false) ≡ b
or_none true = refl
or_none false = refl

abbrev is_pair : ℕ → Procedure → ℕ → Procedure → Bool
is_pair k r q p = (k == q) && same_procedure r p

named-append : (ss : List (ℕ × Procedure)) (k : ℕ) (r : Procedure) (q : ℕ) (p : Procedure) → is_named (ss ++ (k, r) ∷ []) q p ≡ (is_named ss q p || is_pair k r q p)
named-append [] k r q p = or_none (is_pair k r q p)
named-append (s ∷ ss) k r q p =
    ap (λ (b : Bool). is_pair s.0 s.1 q p || b) (named-append ss k r q p) ∙ sym (or_last (is_pair s.0 s.1 q p) (is_named ss q p) (is_pair k r q p))

no_pair : (k : ℕ) (r : Procedure) (q : ℕ) (p : Procedure) → (k ≡ q → number_of r ≡ number_of p → ⊥) → is_pair k r q p ≡ false
no_pair k r q p apart = by_both (k == q) (number_of r == number_of p) (same_procedure r p) (by_number r p) (Decides-eqb k q).0 (Decides-eqb (number_of r) (number_of p)).0 apart
  where
    by_both : (a b c : Bool) → c ≡ b → (a ≡ true → k ≡ q) → (b ≡ true → number_of r ≡ number_of p) → (k ≡ q → number_of r ≡ number_of p → ⊥) → (a && c) ≡ false
    by_both false b c e first second apart' = refl
    by_both true false c e first second apart' = e
    by_both true true c e first second apart' = absurd (apart' (first refl) (second refl))

a_pair : (k : ℕ) (r : Procedure) (q : ℕ) (p : Procedure) → k ≡ q → number_of r ≡ number_of p → is_pair k r q p ≡ true
a_pair k r q p first second =
    ap (λ (a : Bool). a && same_procedure r p) ((Decides-eqb k q).1 first) ∙ (by_number r p ∙ (Decides-eqb (number_of r) (number_of p)).1 second)

none_past : (ss : List (ℕ × Procedure)) (n : ℕ) (p : Procedure) → AllByRecursion (λ pair. pair.0 < n) ss → is_named ss n p ≡ false
none_past [] n p below = refl
none_past (s ∷ ss) n p below =
    ap (λ (b : Bool). b || is_named ss n p) (no_pair s.0 s.1 n p (λ e f. omega (arith, e, below.0))) ∙ none_past ss n p below.1

-- counts
of-append : (p : Procedure) (ss : List (ℕ × Procedure)) (k : ℕ) (r : Procedure) → of_procedure p (ss ++ (k, r) ∷ []) ≡ of_procedure p ss + one_of p r
of-append p ss k r =
    ap length (filter-append (λ (s : ℕ × Procedure). same_procedure s.1 p) ss ((k, r) ∷ [])) ∙ (length-append (filter (λ (s : ℕ × Procedure). same_procedure s.1 p) ss) (filter (λ (s : ℕ × Procedure). same_procedure s.1 p) ((k, r) ∷ []))
    ∙ ap (λ (n : ℕ). of_procedure p ss + n) (last (same_procedure r p)))
  where
    last : (b : Bool) → length {A = ℕ × Procedure} (if b then (k, r) ∷ [] else []) ≡ (if b then 1 else 0)
    last true = refl
    last false = refl

few : (p : Procedure) (ss : List (ℕ × Procedure)) → of_procedure p ss ≤ length ss
few p [] = omega arith
few p (s ∷ ss) = by_same (same_procedure s.1 p) (few p ss)
  where
    by_same : (b : Bool) → of_procedure p ss ≤ length ss → length (if b then s ∷ filter (λ (t : ℕ × Procedure). same_procedure t.1 p) ss else filter (λ (t : ℕ × Procedure). same_procedure t.1 p) ss) ≤ suc (length ss)
    by_same true h = omega (arith, h)
    by_same false h = omega (arith, h)

-- counts stay small
pub record AreFew (s : Searches) : Type 0 where
  pub count : s.count < MOST_SEARCHES
  pub rewrites : s.rewrites < MOST_SEARCHES
  pub cosets : s.cosets < MOST_SEARCHES

pub few_of : (s : Searches) (ss : List (ℕ × Procedure)) (n : ℕ) → Holds ss n s → length ss < MOST_SEARCHES → AreFew s
few_of s ss n holds less = record {
  count = omega (arith, holds.count, less);
  rewrites = let h = few procedure.Rewrite ss in omega (arith, holds.rewrites, less, h);
  cosets = let h = few procedure.Cosets ss in omega (arith, holds.cosets, less, h);
}

-- one more question
at_last : (p : Procedure) → get_or (false ∷ false ∷ false ∷ false ∷ false ∷ false ∷ false ∷ []) (number_of p) false ≡ false
at_last procedure.Derive = refl
at_last procedure.Act = refl
at_last procedure.Residue = refl
at_last procedure.Rewrite = refl
at_last procedure.Cosets = refl
at_last procedure.Nielsen = refl
at_last procedure.Recall = refl

pub one_question_more : (ss : List (ℕ × Procedure)) (n : ℕ) (old new : Searches) → Holds ss n old → new.named.items ≡ old.named.items ++ (false ∷ false ∷ false ∷ false ∷ false ∷ false ∷ false ∷ []) → new.count ≡ old.count → new.rewrites ≡ old.rewrites → new.cosets ≡ old.cosets
    → Holds ss (n + 1) new
one_question_more ss n old new holds items count rewrites cosets =
    let more : List Bool = false ∷ false ∷ false ∷ false ∷ false ∷ false ∷ false ∷ [] in
    record {
      room = omega (arith, ap length items, length-append old.named.items more, holds.room);
      below = all_more (λ (s : ℕ × Procedure). s.0 < n) (λ (s : ℕ × Procedure). s.0 < n + 1) (λ s h. omega (arith, h)) ss holds.below;
      each = λ q p less. ap (λ (xs : List Bool). get_or xs (place q p) false) items ∙ at q p less;
      count = count ∙ holds.count;
      rewrites = rewrites ∙ holds.rewrites;
      cosets = cosets ∙ holds.cosets;
    }
  where
    at : (q : ℕ) (p : Procedure) → q < n + 1 → get_or (old.named.items ++ (false ∷ false ∷ false ∷ false ∷ false ∷ false ∷ false ∷ [])) (place q p) false ≡ is_named ss q p
    at q p less =
        let more : List Bool = false ∷ false ∷ false ∷ false ∷ false ∷ false ∷ false ∷ [] in
        let number = number_below p in
        ⊎_elim (λ (here : q < n). get_or_append_left old.named.items more false (place q p) (omega (arith, holds.room, here, number)) ∙ holds.each q p here)
        (λ (past : n ≤ q).
        let same : q ≡ n = omega (arith, less, past) in
        let index : place q p ≡ length old.named.items + number_of p = omega (arith, same, holds.room) in
        ap (λ (i : ℕ). get_or (old.named.items ++ more) i false) index ∙ (get_or-append-add old.named.items more (number_of p) false
        ∙ (at_last p ∙ (sym (none_past ss n p holds.below) ∙ ap (λ (k : ℕ). is_named ss k p) (sym same)))))
        (cases_lt q n)

or_true : (b : Bool) → (b || true) ≡ true
or_true true = refl
or_true false = refl

same_place : (i j : ℕ) → (i ≡ j) ⊎ (i ≡ j → ⊥)
same_place i j =
    ⊎_elim (λ (h : i < j). inr (λ e. omega (arith, h, e))) (λ (h : j ≤ i). ⊎_elim (λ (k : j < i). inr (λ e. omega (arith, k, e))) (λ (k : i ≤ j). inl (omega (arith, h, k))) (cases_lt j i)) (cases_lt i j)

-- one more pair
pub added : (ss : List (ℕ × Procedure)) (n : ℕ) (old new : Searches) (k : ℕ) (r : Procedure) → Holds ss n old → k < n → new.named.items ≡ slice_set old.named.items (place k r) true → new.count ≡ old.count + 1
    → new.rewrites ≡ old.rewrites + one_of procedure.Rewrite r → new.cosets ≡ old.cosets + one_of procedure.Cosets r → Holds (ss ++ (k, r) ∷ []) n new
added ss n old new k r holds within items count rewrites cosets = record {
  room = ap length items ∙ (length-set {A = Bool} old.named.items (place k r) true ∙ holds.room);
  below = all_append (λ (s : ℕ × Procedure). s.0 < n) ss ((k, r) ∷ []) holds.below (within, tt);
  each = λ q p less. ap (λ (xs : List Bool). get_or xs (place q p) false) items ∙ (at q p less ∙ sym (named-append ss k r q p));
  count = omega (arith, count, holds.count, length-append ss ((k, r) ∷ []));
  rewrites = omega (arith, rewrites, holds.rewrites, of-append procedure.Rewrite ss k r);
  cosets = omega (arith, cosets, holds.cosets, of-append procedure.Cosets ss k r);
}
  where
    at : (q : ℕ) (p : Procedure) → q < n → get_or (slice_set old.named.items (place k r) true) (place q p) false ≡ (is_named ss q p || is_pair k r q p)
    at q p less =
        let number = number_below p in
        let other = number_below r in
        let room = holds.room in
        ⊎_elim
        (λ (same : place k r ≡ place q p).
        let questions : k ≡ q = omega (arith, same, number, other) in
        let numbers : number_of r ≡ number_of p = omega (arith, same, number, other) in
        let here : place q p < length old.named.items = omega (arith, room, less, number) in
        ap (λ (i : ℕ). get_or (set old.named.items i true) (place q p) false) same ∙ (get_or-set_same old.named.items (place q p) true false here
        ∙ (sym (or_true (is_named ss q p)) ∙ ap (λ (b : Bool). is_named ss q p || b) (sym (a_pair k r q p questions numbers)))))
        (λ (apart : place k r ≡ place q p → ⊥).
        get_or-set_other old.named.items (place k r) (place q p) true false (λ e. apart (sym e)) ∙ (holds.each q p less
        ∙ (sym (or_none (is_named ss q p)) ∙ ap (λ (b : Bool). is_named ss q p || b) (sym (no_pair k r q p (λ e f. apart (omega (arith, e, f))))))))
        (same_place (place k r) (place q p))
