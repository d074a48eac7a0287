-- Lemmas on the models that are handed out.
use Rattle.std.proofs.Common.{◌≡◌, ℕ, zero, suc, ◌+◌, ◌≤◌, inl, inr, List, [], ◌∷◌, length, map, take, Option, Some, ap, sym, subst, arith, length-take}
use Rattle.std.specs.List.{AllByRecursion}
use Rattle.std.proofs.lemmas.List.{length-map}
use Rattle.mg_core.specs.declared.entries.Entry.{Entry}
use Rattle.mg_core.specs.declared.entries.Facts.{Facts}
use Rattle.mg_core.specs.Log.{facts_of, ModelsFrom, Handed}

module _ {R G : Type 0} (model_of : R → Option G) (group : G) where
  -- what is found in facts are models of the group
  each_of_group : (above n : ℕ) (facts : List R) (found : List (ℕ × R)) → ModelsFrom model_of group above n facts found → AllByRecursion (λ (f : ℕ × R). model_of f.1 ≡ Some group) found
  each_of_group above n [] found h = subst (AllByRecursion (λ (f : ℕ × R). model_of f.1 ≡ Some group)) (sym h) tt
  each_of_group above n (r ∷ facts) found (inl h) = subst (AllByRecursion (λ (f : ℕ × R). model_of f.1 ≡ Some group)) (sym h.3) (h.1, each_of_group above (n + 1) facts h.2 h.4)
  each_of_group above n (r ∷ facts) found (inr h) = each_of_group above (n + 1) facts found h.1

  first_of_group : (most : ℕ) (found : List (ℕ × R)) → AllByRecursion (λ (f : ℕ × R). model_of f.1 ≡ Some group) found → AllByRecursion (λ r. model_of r ≡ Some group) (map (λ (f : ℕ × R). f.1) (take most found))
  first_of_group zero found h = tt
  first_of_group (suc most) [] h = tt
  first_of_group (suc most) (f ∷ found) h = (h.0, first_of_group most found h.1)

  -- the models that are handed out are of the group
  pub handed_of_group : (log : List (Entry R)) (above most : ℕ) (facts : Facts R) → Handed model_of log group above most facts → AllByRecursion (λ r. model_of r ≡ Some group) facts.records
  handed_of_group log above most facts h =
      subst (AllByRecursion (λ r. model_of r ≡ Some group)) (sym h.records_are) (first_of_group most h.models (each_of_group above 1 (facts_of log) h.models h.are_models))

  -- and at most as many as were asked for
  pub handed_few : (log : List (Entry R)) (above most : ℕ) (facts : Facts R) → Handed model_of log group above most facts → length facts.records ≤ most
  handed_few log above most facts h =
      omega (arith, ap length h.records_are, length-map (take most h.models) (λ (f : ℕ × R). f.1), length-take most h.models)
