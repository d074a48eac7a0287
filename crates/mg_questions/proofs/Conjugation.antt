-- Where the conjugates of the members by a word lie in their subgroup, so do those of all that lies there.
use Rattle.std.proofs.Common.{◌≡◌, ℕ, ◌<◌, Bool, true, false, ℤ, List, [], ◌∷◌, ◌++◌, length, get_or, sym, ap, subst, ◌∙◌, append_assoc}
use Rattle.std.specs.List.{AllByRecursion}
use Rattle.std.proofs.lemmas.List.{append-nil}
use Rattle.std.proofs.lemmas.List.Elements.{All-from_recursion, All-from_get_or, recursion_from_All}
use Rattle.mg_words.specs.Word.{inv}
use Rattle.mg_words.proofs.Chains.{inv-append, inv-cons, inv-inv, Same-equal, Same-sym, Same-trans, Same-between, Same-times_inverse, Same-inverse_times}
use Rattle.mg_present.specs.Presentation.{Group}
use Rattle.mg_present.specs.Same.{Same, Lies, product, signed}
use Rattle.mg_present.proofs.Sameness.{lies_empty, lies_product, lies_inverse, lies_same, lies_at}
use Rattle.mg_questions.specs.Meaning.{IsWordOf}
use Rattle.mg_questions.proofs.Tables.{Each}

abbrev pub conjugate : List ℤ → List ℤ → List ℤ
conjugate x h = x ++ h ++ inv x

-- `x h k x^-1` is the same as `x h x^-1 x k x^-1`
conjugate_times : (group : Group) (x h k : List ℤ) → IsWordOf group x → Same group (conjugate x h ++ conjugate x k) (conjugate x (h ++ k))
conjugate_times group x h k over =
    let m : ℕ = group.generators in
    let rs : List (List ℤ) = group.relators in
    let one : conjugate x h ++ conjugate x k ≡ ((x ++ h) ++ (inv x ++ x)) ++ (k ++ inv x) = simp append_assoc in
    let other : ((x ++ h) ++ []) ++ (k ++ inv x) ≡ conjugate x (h ++ k) = simp (append-nil, append_assoc) in
    Same-trans m rs (conjugate x h ++ conjugate x k) (((x ++ h) ++ (inv x ++ x)) ++ (k ++ inv x)) (conjugate x (h ++ k)) (Same-equal m rs _ _ one)
    (subst (λ (t : List ℤ). Same group (((x ++ h) ++ (inv x ++ x)) ++ (k ++ inv x)) t) other
    (Same-between m rs (x ++ h) (k ++ inv x) (inv x ++ x) [] (Same-inverse_times m rs x over)))

conjugate_one : (group : Group) (x : List ℤ) → IsWordOf group x → Same group [] (conjugate x [])
conjugate_one group x over =
    Same-sym group.generators group.relators (conjugate x []) [] (subst (λ (t : List ℤ). Same group (t ++ inv x) []) (sym (append-nil x)) (Same-times_inverse group.generators group.relators x over))

-- the inverse of a conjugate is the conjugate of the inverse
conjugate_inverse : (x h : List ℤ) → inv (conjugate x h) ≡ conjugate x (inv h)
conjugate_inverse x h =
    inv-append (x ++ h) (inv x) ∙ (ap (λ t. t ++ inv (x ++ h)) (inv-inv x) ∙ (ap (λ t. x ++ t) (inv-append x h) ∙ sym (append_assoc x (inv h) (inv x))))

conjugate_same : (group : Group) (x h k : List ℤ) → Same group h k → Same group (conjugate x h) (conjugate x k)
conjugate_same group x h k same = Same-between group.generators group.relators x (inv x) h k same

-- the conjugates of the members by x lie in their subgroup
abbrev pub Keeps : Group → List (List ℤ) → List ℤ → Type 0
Keeps group members x = Each (λ h. Lies group members (conjugate x h)) members

keeps_factor : (group : Group) (members : List (List ℤ)) (x : List ℤ) (place : ℕ) (inverse : Bool) → Keeps group members x → place < length members → Lies group members (conjugate x (signed inverse (get_or members place [])))
keeps_factor group members x place false keeps within = All-from_recursion (λ h. Lies group members (conjugate x h)) members keeps place [] within
keeps_factor group members x place true keeps within =
    subst (λ (t : List ℤ). Lies group members t) (conjugate_inverse x (get_or members place []))
    (lies_inverse group members (conjugate x (get_or members place [])) (All-from_recursion (λ h. Lies group members (conjugate x h)) members keeps place [] within))

keeps_product : (group : Group) (members : List (List ℤ)) (x : List ℤ) (factors : List (ℕ × Bool)) → IsWordOf group x → Keeps group members x → AllByRecursion (λ (factor : ℕ × Bool). factor.0 < length members) factors
    → Lies group members (conjugate x (product members factors))
keeps_product group members x [] over keeps there = lies_same group members [] (conjugate x []) (lies_empty group members) (conjugate_one group x over)
keeps_product group members x (factor ∷ factors) over keeps there =
    let h : List ℤ = signed factor.1 (get_or members factor.0 []) in
    let k : List ℤ = product members factors in
    lies_same group members (conjugate x h ++ conjugate x k) (conjugate x (h ++ k))
    (lies_product group members (conjugate x h) (conjugate x k) (keeps_factor group members x factor.0 factor.1 keeps there.0) (keeps_product group members x factors over keeps there.1))
    (conjugate_times group x h k over)

-- by a word that keeps the members all that lies is kept
pub keeps_all : (group : Group) (members : List (List ℤ)) (x h : List ℤ) → IsWordOf group x → Keeps group members x → Lies group members h → Lies group members (conjugate x h)
keeps_all group members x h over keeps lies =
    lies_same group members (conjugate x (product members lies.factors)) (conjugate x h) (keeps_product group members x lies.factors over keeps lies.there)
    (conjugate_same group x (product members lies.factors) h lies.same)

-- by the empty word, and by one more letter
pub conjugate_by_none : (h : List ℤ) → conjugate [] h ≡ h
conjugate_by_none h = append-nil h

pub conjugate_by_more : (x : ℤ) (v h : List ℤ) → conjugate (x ∷ v) h ≡ conjugate (x ∷ []) (conjugate v h)
conjugate_by_more x v h = ap (λ t. (x ∷ v ++ h) ++ t) (inv-cons x v) ∙ simp append_assoc

-- each member lies
pub members_lie : (group : Group) (members : List (List ℤ)) → Each (Lies group members) members
members_lie group members = recursion_from_All (Lies group members) members (All-from_get_or (Lies group members) members [] (lies_at group members))
