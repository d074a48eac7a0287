-- Lemmas on models that nobody wants.
use Rattle.std.proofs.Common.{◌≡◌, ◌≢◌, ℕ, ◌+◌, ◌⊎◌, inl, inr, max, true, nat_le, cond, List, [], ◌∷◌, length, Option, Some, None, Ordering, refl, ap, sym, ◌∙◌, subst, arith}
use Rattle.std.specs.Cmp.{IsTotalOrder}
use Rattle.std.specs.declared.cmp.Ordering.TheVariants.{Less, Equal, Greater}
use Rattle.std.proofs.lemmas.Bool.{cases_lt}
use Rattle.std.proofs.lemmas.Bool.Decides.{nat_tests}
use Rattle.std.proofs.lemmas.Cmp.{tied_itself}
use Rattle.mg_core.specs.declared.entries.Facts.{Facts}
use Rattle.mg_core.specs.Log.{ModelsFrom, HandedFrom}

-- where an order tells values apart, two of them are one or not
module _ {K : Type 0} (cmp : K → K → Ordering) (total : IsTotalOrder cmp) (exact : (a b : K) → cmp a b ≡ Equal → a ≡ b) where
  same_by_order : (a b : K) (answer : Ordering) → cmp a b ≡ answer → (a ≡ b) ⊎ (a ≢ b)
  same_by_order a b Equal e = inl (exact a b e)
  same_by_order a b Less e = inr (λ same. let tied = tied_itself total a in let moved = subst (λ x. cmp a x ≡ Equal) same tied in cc)
  same_by_order a b Greater e = inr (λ same. let tied = tied_itself total a in let moved = subst (λ x. cmp a x ≡ Equal) same tied in cc)

  pub is_or_not : (o : Option K) (b : K) → (o ≡ Some b) ⊎ (o ≢ Some b)
  is_or_not None b = inr (λ e. cc)
  is_or_not (Some a) b = elim (same_by_order a b (cmp a b) refl) [ inl same ↦ inl (ap Some same) | inr other ↦ inr (λ e. let same : a ≡ b = cc in other same) ]

module _ {R G : Type 0} (model_of : R → Option G) (group : G) (above : ℕ) (decided : (r : R) → (model_of r ≡ Some group) ⊎ (model_of r ≢ Some group)) where
  -- the models among facts
  some_models : (n : ℕ) (facts : List R) → (found : List (ℕ × R)) × ModelsFrom model_of group above n facts found
  some_models n [] = ([], refl)
  some_models n (r ∷ facts) =
      let rest = some_models (n + 1) facts in
      elim (cases_lt above n) [
        | inr low ↦ (rest.0, inr (inl low, rest.1))
        | inl high ↦ elim (decided r) [ inl model ↦ ((n, r) ∷ rest.0, inl (high, model, rest.0, refl, rest.1)) | inr other ↦ (rest.0, inr (inr other, rest.1)) ]
      ]

  -- none of them is handed out where none is wanted
  pub none_handed : (all : List R) (facts : Facts R) → facts ≡ record { from = above; upto = above; records = [] } → HandedFrom model_of all group above 0 facts
  none_handed all facts made =
      let models = some_models 1 all in
      let test : nat_le 0 (length models.0) ≡ true = grind (arith, nat_tests) in
      record {
        models = models.0;
        are_models = models.1;
        from_is = ap (λ (f : Facts R). f.from) made;
        records_are = ap (λ (f : Facts R). f.records) made;
        upto_is = ap (λ (f : Facts R). f.upto) made ∙ ap (λ b. cond b above (max above (length all))) (sym test);
      }
