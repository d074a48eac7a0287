-- Lemmas on gathering the models of a group.
use Rattle.std.proofs.Common.{◌≡◌, ◌≢◌, ℕ, ◌+◌, ◌<◌, ◌≤◌, ◌⊎◌, inl, inr, max, true, false, nat_le, cond, List, [], ◌∷◌, ◌++◌, length, map, take, drop, Option, Some, None, Ordering, refl, ap, sym, ◌∙◌, subst, arith, append-nil, append_assoc, length-append}
use Rattle.std.specs.Cmp.{IsTotalOrder}
use Rattle.std.specs.declared.cmp.Ordering.TheVariants.{Less, Equal, Greater}
use Rattle.std.proofs.lemmas.Bool.{cases_lt}
use Rattle.std.proofs.lemmas.Bool.Decides.{nat_tests}
use Rattle.std.proofs.lemmas.Cmp.{tied_itself}
use Rattle.std.proofs.lemmas.List.{length_push, take_all, take_at, map-append}
use Rattle.mg_core.specs.declared.entries.Facts.{Facts}
use Rattle.mg_core.specs.Log.{ModelsFrom, last_number, HandedFrom}
use Rattle.mg_core.proofs.Scans.{drop_end}

-- where an order tells values apart, two of them are one or not
module _ {K : Type 0} (cmp : K → K → Ordering) (total : IsTotalOrder cmp) (exact : (a b : K) → cmp a b ≡ Equal → a ≡ b) where
  same_by_order : (a b : K) (answer : Ordering) → cmp a b ≡ answer → (a ≡ b) ⊎ (a ≢ b)
  same_by_order a b Equal e = inl (exact a b e)
  same_by_order a b Less e = inr (λ same. let tied = tied_itself total a in let moved = subst (λ x. cmp a x ≡ Equal) same tied in cc)
  same_by_order a b Greater e = inr (λ same. let tied = tied_itself total a in let moved = subst (λ x. cmp a x ≡ Equal) same tied in cc)

  pub is_or_not : (o : Option K) (b : K) → (o ≡ Some b) ⊎ (o ≢ Some b)
  is_or_not None b = inr (λ e. cc)
  is_or_not (Some a) b = elim (same_by_order a b (cmp a b) refl) [ inl same ↦ inl (ap Some same) | inr other ↦ inr (λ e. let same : a ≡ b = cc in other same) ]

module _ {R G : Type 0} (model_of : R → Option G) (group : G) (above : ℕ) where
  last_pushed : (n : ℕ) (found : List (ℕ × R)) (next : ℕ × R) → last_number n (found ++ next ∷ []) ≡ next.0
  last_pushed n [] next = refl
  last_pushed n (f ∷ found) next = last_pushed f.0 found next

  -- the models among facts, where it is decided which are
  pub some_models : ((r : R) → (model_of r ≡ Some group) ⊎ (model_of r ≢ Some group)) → (n : ℕ) (facts : List R) → (found : List (ℕ × R)) × ModelsFrom model_of group above n facts found
  some_models decided n [] = ([], refl)
  some_models decided n (r ∷ facts) =
      let rest = some_models decided (n + 1) facts in
      elim (cases_lt above n) [
        | inr low ↦ (rest.0, inr (inl low, rest.1))
        | inl high ↦ elim (decided r) [ inl model ↦ ((n, r) ∷ rest.0, inl (high, model, rest.0, refl, rest.1)) | inr other ↦ (rest.0, inr (inr other, rest.1)) ]
      ]

  module _ (all : List R) where
    -- what has been gathered from the facts up to a number
    pub record Gathered (number upto count : ℕ) (records : List R) : Type 0 where
      pub found : List (ℕ × R)
      pub records_are : records ≡ map (λ f. f.1) found
      pub upto_is : upto ≡ last_number above found
      pub count_is : count ≡ length found
      pub so_far : (more : List (ℕ × R)) → ModelsFrom model_of group above (number + 1) (drop number all) more → ModelsFrom model_of group above 1 all (found ++ more)

    pub gathered_none : Gathered 0 above 0 []
    gathered_none = record { found = []; records_are = refl; upto_is = refl; count_is = refl; so_far = λ more h. h }

    pub gathered_skip : (number upto count : ℕ) (records : List R) (r : R) → drop number all ≡ r ∷ drop (number + 1) all → (number + 1 ≤ above) ⊎ (model_of r ≢ Some group) → Gathered number upto count records → Gathered (number + 1) upto count records
    gathered_skip number upto count records r next no_model before = record {
      found = before.found;
      records_are = before.records_are;
      upto_is = before.upto_is;
      count_is = before.count_is;
      so_far = λ more h. before.so_far more (subst (λ facts. ModelsFrom model_of group above (number + 1) facts more) (sym next) (inr (no_model, h)));
    }

    pub gathered_take : (number upto count : ℕ) (records : List R) (r : R) → drop number all ≡ r ∷ drop (number + 1) all → above < number + 1 → model_of r ≡ Some group → Gathered number upto count records → Gathered (number + 1) (number + 1) (count + 1) (records ++ r ∷ [])
    gathered_take number upto count records r next high model before =
        let here : ℕ × R = (number + 1, r) in
        record {
          found = before.found ++ here ∷ [];
          records_are = ap (λ rs. rs ++ r ∷ []) before.records_are ∙ sym (map-append (λ (f : ℕ × R). f.1) before.found (here ∷ []));
          upto_is = sym (last_pushed above before.found here);
          count_is = ap (λ n. n + 1) before.count_is ∙ sym (length_push before.found here);
          so_far = λ more h. subst (λ found. ModelsFrom model_of group above 1 all found) (sym (append_assoc before.found (here ∷ []) more)) (before.so_far (here ∷ more) (subst (λ facts. ModelsFrom model_of group above (number + 1) facts (here ∷ more)) (sym next) (inl (high, model, more, refl, h))));
        }

    -- all facts were gone through, and fewer models came than were asked for
    pub handed_all : (number upto count most : ℕ) (records : List R) (facts : Facts R) → Gathered number upto count records → drop number all ≡ [] → number ≤ length all → count < most → facts ≡ record { from = above; upto = max above number; records = records } → HandedFrom model_of all group above most facts
    handed_all number upto count most records facts gathered rest few fewer made =
        let end = drop_end all number rest in
        let number_is : number ≡ length all = omega arith in
        let taken = take_all most gathered.found (omega (arith, gathered.count_is)) in
        let test : nat_le most (length gathered.found) ≡ false = grind (arith, nat_tests, gathered.count_is) in
        record {
          models = gathered.found;
          are_models = subst (λ found. ModelsFrom model_of group above 1 all found) (append-nil gathered.found) (gathered.so_far [] (subst (λ rs. ModelsFrom model_of group above (number + 1) rs []) (sym rest) refl));
          from_is = ap (λ (f : Facts R). f.from) made;
          records_are = ap (λ (f : Facts R). f.records) made ∙ gathered.records_are ∙ ap (map (λ f. f.1)) (sym taken);
          upto_is = ap (λ (f : Facts R). f.upto) made ∙ ap (max above) number_is ∙ ap (λ b. cond b (last_number above (take most gathered.found)) (max above (length all))) (sym test);
        }

    -- as many models came as were asked for
    pub handed_most : ((r : R) → (model_of r ≡ Some group) ⊎ (model_of r ≢ Some group)) → (number upto count most : ℕ) (records : List R) (facts : Facts R) → Gathered number upto count records → count ≡ most → facts ≡ record { from = above; upto = upto; records = records } → HandedFrom model_of all group above most facts
    handed_most decided number upto count most records facts gathered enough made =
        let more = some_models decided (number + 1) (drop number all) in
        let size : length gathered.found ≡ most = sym gathered.count_is ∙ enough in
        let taken = take_at gathered.found more.0 most size in
        let test : nat_le most (length (gathered.found ++ more.0)) ≡ true = grind (arith, nat_tests, size, length-append gathered.found more.0) in
        record {
          models = gathered.found ++ more.0;
          are_models = gathered.so_far more.0 more.1;
          from_is = ap (λ (f : Facts R). f.from) made;
          records_are = ap (λ (f : Facts R). f.records) made ∙ gathered.records_are ∙ ap (map (λ f. f.1)) (sym taken);
          upto_is = ap (λ (f : Facts R). f.upto) made ∙ gathered.upto_is ∙ ap (last_number above) (sym taken) ∙ ap (λ b. cond b (last_number above (take most (gathered.found ++ more.0))) (max above (length all))) (sym test);
        }
