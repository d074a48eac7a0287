-- Up to which fact searches have read that were handed models.
use Rattle.std.proofs.Common.{◌≡◌, ℕ, zero, suc, ◌+◌, ◌≤◌, inl, inr, Bool, true, false, cond, max, nat_le, List, [], ◌∷◌, length, take, Option, ap, sym, ◌∙◌, subst, arith, length-append}
use Rattle.mg_core.specs.declared.entries.Entry.{Entry}
use Rattle.mg_core.specs.declared.entries.Facts.{Facts}
use Rattle.mg_core.specs.Log.{facts_of, ModelsFrom, last_number, Handed}
use Rattle.mg_core.proofs.Logs.{facts_of-append}
use Rattle.mg_workers.specs.Run.{Begins}

cond_within : (b : Bool) (x y n : ℕ) → x ≤ n → y ≤ n → cond b x y ≤ n
cond_within true x y n h g = h
cond_within false x y n h g = g

-- a log has the facts of its beginning, and as many or more
pub facts_begin : {R : Type 0} (log more : List (Entry R)) → Begins log more → length (facts_of log) ≤ length (facts_of more)
facts_begin log more h =
    let grown : length (facts_of more) ≡ length (facts_of log) + length (facts_of h.0) = ap (λ l. length (facts_of l)) h.1 ∙ ap length (facts_of-append log h.0) ∙ length-append (facts_of log) (facts_of h.0) in omega arith

module _ {R G : Type 0} (model_of : R → Option G) (group : G) where
  -- the number of a model is within those of the facts
  last_within : (above start most_number n most : ℕ) (facts : List R) (found : List (ℕ × R)) → ModelsFrom model_of group above n facts found → start ≤ most_number → n + length facts ≤ most_number + 1 → last_number start (take most found) ≤ most_number
  last_within above start most_number n zero facts found h low fits = low
  last_within above start most_number n (suc most) [] found h low fits = subst (λ f. last_number start (take (suc most) f) ≤ most_number) (sym h) low
  last_within above start most_number n (suc most) (r ∷ facts) found (inl h) low fits =
      subst (λ f. last_number start (take (suc most) f) ≤ most_number) (sym h.3) (last_within above n most_number (n + 1) most facts h.2 h.4 (omega arith) (omega arith))
  last_within above start most_number n (suc most) (r ∷ facts) found (inr h) low fits = last_within above start most_number (n + 1) (suc most) facts found h.1 low (omega arith)

  -- who is handed models of a log has read no further than its facts go
  pub handed_within : (log whole : List (Entry R)) (read most : ℕ) (facts : Facts R) → Begins log whole → Handed model_of log group read most facts → read ≤ length (facts_of whole) → facts.upto ≤ length (facts_of whole)
  handed_within log whole read most facts begins h low =
      let few = facts_begin log whole begins in
      let all : max read (length (facts_of log)) ≤ length (facts_of whole) = omega arith in
      subst (λ n. n ≤ length (facts_of whole)) (sym h.upto_is)
      (cond_within (nat_le most (length h.models)) (last_number read (take most h.models)) (max read (length (facts_of log))) (length (facts_of whole))
      (last_within read read (length (facts_of whole)) 1 most (facts_of log) h.models h.are_models low (omega arith)) all)

  -- there is one list of the models above a number
  pub one_list : (above n : ℕ) (facts : List R) (xs ys : List (ℕ × R)) → ModelsFrom model_of group above n facts xs → ModelsFrom model_of group above n facts ys → xs ≡ ys
  one_list above n [] xs ys h g = h ∙ sym g
  one_list above n (r ∷ facts) xs ys (inl h) (inl g) = h.3 ∙ ap (λ rest. (n, r) ∷ rest) (one_list above (n + 1) facts h.2 g.2 h.4 g.4) ∙ sym g.3
  one_list above n (r ∷ facts) xs ys (inl h) (inr (inl low, g)) = absurd (omega (arith, h.0))
  one_list above n (r ∷ facts) xs ys (inl h) (inr (inr other, g)) = absurd (other h.1)
  one_list above n (r ∷ facts) xs ys (inr (inl low, h)) (inl g) = absurd (omega (arith, g.0))
  one_list above n (r ∷ facts) xs ys (inr (inr other, h)) (inl g) = absurd (other g.1)
  one_list above n (r ∷ facts) xs ys (inr h) (inr g) = one_list above (n + 1) facts xs ys h.1 g.1
