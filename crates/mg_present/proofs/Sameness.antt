-- What lies in a subgroup: the empty word, each member, products, inverses, and what is the same as
-- something that lies.
use Rattle.std.proofs.Common.{◌≡◌, ℕ, ◌<◌, Bool, true, false, not, ℤ, List, [], ◌∷◌, ◌++◌, length, refl, sym, ap, subst, ◌∙◌, append_assoc, arith}
use Rattle.std.specs.Prelude.{slice_index_or, Contains}
use Rattle.std.specs.List.{AllByRecursion}
use Rattle.std.proofs.lemmas.List.{append-nil, get_or_default}
use Rattle.mg_words.specs.Word.{IsOver, inv}
use Rattle.mg_words.proofs.Chains.{inv-append, inv-inv, Same-refl, Same-equal, Same-sym, Same-trans, Same-append, Same-inv, Same-before, Same-after, Same-times_inverse, Same-inverse_times}
use Rattle.mg_present.specs.Presentation.{Group}
use Rattle.mg_present.specs.Same.{Same, signed, product, Lies}

-- a factor: a place, and whether the member there is inverted
abbrev Factors : Type 0
Factors = List (ℕ × Bool)

abbrev IsThere : List (List ℤ) → Factors → Type 0
IsThere members factors = AllByRecursion (λ (factor : ℕ × Bool). factor.0 < length members) factors

there_append : (members : List (List ℤ)) (a b : Factors) → IsThere members a → IsThere members b → IsThere members (a ++ b)
there_append members [] b h k = k
there_append members (factor ∷ a) b h k = (h.0, there_append members a b h.1 k)

product_append : (members : List (List ℤ)) (a b : Factors) → product members (a ++ b) ≡ product members a ++ product members b
product_append members [] b = refl
product_append members (factor ∷ a) b =
    ap (λ t. signed factor.1 (slice_index_or members factor.0 []) ++ t) (product_append members a b)
    ∙ sym (append_assoc (signed factor.1 (slice_index_or members factor.0 [])) (product members a) (product members b))

-- the factors of the inverse
turned : Factors → Factors
turned [] = []
turned (factor ∷ factors) = turned factors ++ (factor.0, not factor.1) ∷ []

turned_there : (members : List (List ℤ)) (factors : Factors) → IsThere members factors → IsThere members (turned factors)
unfolding turned
turned_there members [] h = tt
turned_there members (factor ∷ factors) h = there_append members (turned factors) ((factor.0, not factor.1) ∷ []) (turned_there members factors h.1) (h.0, tt)

signed_turned : (inverse : Bool) (w : List ℤ) → signed (not inverse) w ≡ inv (signed inverse w)
signed_turned false w = refl
signed_turned true w = sym (inv-inv w)

product_turned : (members : List (List ℤ)) (factors : Factors) → product members (turned factors) ≡ inv (product members factors)
unfolding turned
product_turned members [] = refl
product_turned members (factor ∷ factors) =
    let w : List ℤ = slice_index_or members factor.0 [] in
    product_append members (turned factors) ((factor.0, not factor.1) ∷ [])
    ∙ (ap (λ t. t ++ (signed (not factor.1) w ++ [])) (product_turned members factors)
    ∙ (ap (λ t. inv (product members factors) ++ t) (append-nil (signed (not factor.1) w) ∙ signed_turned factor.1 w)
    ∙ sym (inv-append (signed factor.1 w) (product members factors))))

-- the empty word lies in every subgroup
pub lies_empty : (group : Group) (members : List (List ℤ)) → Lies group members []
lies_empty group members = record { factors = []; there = tt; same = Same-refl group.generators group.relators [] }

-- each member lies in the subgroup
pub lies_at : (group : Group) (members : List (List ℤ)) (place : ℕ) → place < length members → Lies group members (slice_index_or members place [])
lies_at group members place h = record {
  factors = (place, false) ∷ [];
  there = (h, tt);
  same = Same-equal group.generators group.relators _ _ (append-nil (slice_index_or members place []));
}

-- what is the same as something that lies, lies
pub lies_same : (group : Group) (members : List (List ℤ)) (u v : List ℤ) → Lies group members u → Same group u v → Lies group members v
lies_same group members u v h same = record {
  factors = h.factors;
  there = h.there;
  same = Same-trans group.generators group.relators (product members h.factors) u v h.same same;
}

pub lies_product : (group : Group) (members : List (List ℤ)) (u v : List ℤ) → Lies group members u → Lies group members v → Lies group members (u ++ v)
lies_product group members u v h k = record {
  factors = h.factors ++ k.factors;
  there = there_append members h.factors k.factors h.there k.there;
  same = subst (λ (t : List ℤ). Same group t (u ++ v)) (sym (product_append members h.factors k.factors))
      (Same-append group.generators group.relators (product members h.factors) u (product members k.factors) v h.same k.same);
}

pub lies_inverse : (group : Group) (members : List (List ℤ)) (u : List ℤ) → Lies group members u → Lies group members (inv u)
lies_inverse group members u h = record {
  factors = turned h.factors;
  there = turned_there members h.factors h.there;
  same = subst (λ (t : List ℤ). Same group t (inv u)) (sym (product_turned members h.factors))
      (Same-inv group.generators group.relators (product members h.factors) u h.same);
}

-- without members what lies is the same as the empty word
no_factors : (group : Group) (w : List ℤ) (factors : Factors) → IsThere [] factors → Same group (product [] factors) w → Same group w []
no_factors group w [] h same = Same-sym group.generators group.relators [] w same
no_factors group w (factor ∷ factors) h same = absurd (let below : factor.0 < 0 = h.0 in omega arith)

pub lies_in_none : (group : Group) (w : List ℤ) → Lies group [] w → Same group w []
lies_in_none group w h = no_factors group w h.factors h.there h.same

pub none_lies : (group : Group) (w : List ℤ) → Same group w [] → Lies group [] w
none_lies group w same = record { factors = []; there = tt; same = Same-sym group.generators group.relators w [] same }

pub lies_member : (group : Group) (members : List (List ℤ)) (w : List ℤ) → Contains members w → Lies group members w
lies_member group members w there =
    subst (λ (t : List ℤ). Lies group members t) (get_or_default members there.0 [] w there.1 ∙ there.2) (lies_at group members there.0 there.1)

-- u is the same as v exactly where u times the inverse of v is the same as the empty word
pub quotient_is_one : (group : Group) (u v : List ℤ) → IsOver group.generators v → Same group u v → Same group (u ++ inv v) []
quotient_is_one group u v over same =
    Same-trans group.generators group.relators (u ++ inv v) (v ++ inv v) []
    (Same-after group.generators group.relators (inv v) u v same) (Same-times_inverse group.generators group.relators v over)

pub quotient_of_same : (group : Group) (u v : List ℤ) → IsOver group.generators v → Same group (u ++ inv v) [] → Same group u v
quotient_of_same group u v over one =
    let m : ℕ = group.generators in
    let rs : List (List ℤ) = group.relators in
    let back : Same group ((u ++ inv v) ++ v) u =
    Same-trans m rs ((u ++ inv v) ++ v) (u ++ (inv v ++ v)) u (Same-equal m rs _ _ (append_assoc u (inv v) v))
    (subst (λ (t : List ℤ). Same group (u ++ (inv v ++ v)) t) (append-nil u) (Same-before m rs u (inv v ++ v) [] (Same-inverse_times m rs v over))) in
    Same-trans m rs u ((u ++ inv v) ++ v) v (Same-sym m rs ((u ++ inv v) ++ v) u back) (Same-after m rs v (u ++ inv v) [] one)
