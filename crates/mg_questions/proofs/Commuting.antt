-- Words that commute, and their commutators.
use Rattle.std.proofs.Common.{◌≡◌, ℕ, ℤ, List, [], ◌++◌, sym, ap, subst, ◌∙◌, append_assoc}
use Rattle.std.proofs.lemmas.List.{append-nil}
use Rattle.mg_words.specs.Word.{inv, commutator_of}
use Rattle.mg_words.proofs.Chains.{inv-append, IsOver-append, Same-equal, Same-sym, Same-trans, Same-before, Same-after, Same-times_inverse, Same-inverse_times}
use Rattle.mg_present.specs.Presentation.{Group}
use Rattle.mg_present.specs.Same.{Same}
use Rattle.mg_questions.specs.Meaning.{IsWordOf}

abbrev pub Commute : Group → List ℤ → List ℤ → Type 0
Commute group u v = Same group (u ++ v) (v ++ u)

pub commute_one : (group : Group) (u : List ℤ) → Commute group u []
commute_one group u = Same-equal group.generators group.relators (u ++ []) u (append-nil u)

pub commute_turn : (group : Group) (u v : List ℤ) → Commute group u v → Commute group v u
commute_turn group u v h = Same-sym group.generators group.relators (u ++ v) (v ++ u) h

-- with two words it commutes with their product
pub commute_times : (group : Group) (u v w : List ℤ) → Commute group u v → Commute group u w → Commute group u (v ++ w)
commute_times group u v w h k =
    let m : ℕ = group.generators in
    let rs : List (List ℤ) = group.relators in
    Same-trans m rs (u ++ (v ++ w)) ((v ++ u) ++ w) ((v ++ w) ++ u)
    (subst (λ (t : List ℤ). Same group t ((v ++ u) ++ w)) (append_assoc u v w) (Same-after m rs w (u ++ v) (v ++ u) h))
    (subst (λ (t : List ℤ). Same group t ((v ++ w) ++ u)) (sym (append_assoc v u w)) (subst (λ (t : List ℤ). Same group (v ++ (u ++ w)) t) (sym (append_assoc v w u)) (Same-before m rs v (u ++ w) (w ++ u) k)))

-- with a word it commutes with its inverse: `u v^-1` is `v^-1 v u v^-1`, so `v^-1 u v v^-1`, so `v^-1 u`
pub commute_inverse : (group : Group) (u v : List ℤ) → IsWordOf group v → Commute group u v → Commute group u (inv v)
commute_inverse group u v over h =
    let m : ℕ = group.generators in
    let rs : List (List ℤ) = group.relators in
    let first : Same group ((inv v ++ v) ++ (u ++ inv v)) (u ++ inv v) = Same-after m rs (u ++ inv v) (inv v ++ v) [] (Same-inverse_times m rs v over) in
    let between : Same group (inv v ++ ((v ++ u) ++ inv v)) (inv v ++ ((u ++ v) ++ inv v)) =
    Same-before m rs (inv v) ((v ++ u) ++ inv v) ((u ++ v) ++ inv v) (Same-after m rs (inv v) (v ++ u) (u ++ v) (commute_turn group u v h)) in
    let last : Same group ((inv v ++ u) ++ (v ++ inv v)) ((inv v ++ u) ++ []) = Same-before m rs (inv v ++ u) (v ++ inv v) [] (Same-times_inverse m rs v over) in
    let one : (inv v ++ v) ++ (u ++ inv v) ≡ inv v ++ ((v ++ u) ++ inv v) = simp append_assoc in
    let other : inv v ++ ((u ++ v) ++ inv v) ≡ (inv v ++ u) ++ (v ++ inv v) = simp append_assoc in
    Same-trans m rs (u ++ inv v) ((inv v ++ v) ++ (u ++ inv v)) (inv v ++ u) (Same-sym m rs ((inv v ++ v) ++ (u ++ inv v)) (u ++ inv v) first)
    (Same-trans m rs ((inv v ++ v) ++ (u ++ inv v)) (inv v ++ ((v ++ u) ++ inv v)) (inv v ++ u) (Same-equal m rs _ _ one)
    (Same-trans m rs (inv v ++ ((v ++ u) ++ inv v)) (inv v ++ ((u ++ v) ++ inv v)) (inv v ++ u) between
    (Same-trans m rs (inv v ++ ((u ++ v) ++ inv v)) ((inv v ++ u) ++ (v ++ inv v)) (inv v ++ u) (Same-equal m rs _ _ other)
    (subst (λ (t : List ℤ). Same group ((inv v ++ u) ++ (v ++ inv v)) t) (append-nil (inv v ++ u)) last))))

-- the commutator is `(v u)^-1 u v`
commutator_is : (u v : List ℤ) → commutator_of u v ≡ inv (v ++ u) ++ (u ++ v)
commutator_is u v = append_assoc (inv u ++ inv v) u v ∙ ap (λ t. t ++ (u ++ v)) (sym (inv-append v u))

-- two words commute exactly where their commutator is the identity
pub commutator_is_one : (group : Group) (u v : List ℤ) → IsWordOf group u → IsWordOf group v → Commute group u v → Same group (commutator_of u v) []
commutator_is_one group u v u_over v_over h =
    let m : ℕ = group.generators in
    let rs : List (List ℤ) = group.relators in
    subst (λ (t : List ℤ). Same group t []) (sym (commutator_is u v))
    (Same-trans m rs (inv (v ++ u) ++ (u ++ v)) (inv (v ++ u) ++ (v ++ u)) [] (Same-before m rs (inv (v ++ u)) (u ++ v) (v ++ u) h)
    (Same-inverse_times m rs (v ++ u) (IsOver-append m v u v_over u_over)))

pub commute_of_commutator : (group : Group) (u v : List ℤ) → IsWordOf group u → IsWordOf group v → Same group (commutator_of u v) [] → Commute group u v
commute_of_commutator group u v u_over v_over h =
    let m : ℕ = group.generators in
    let rs : List (List ℤ) = group.relators in
    let quotient : Same group (inv (v ++ u) ++ (u ++ v)) [] = subst (λ (t : List ℤ). Same group t []) (commutator_is u v) h in
    let one : Same group ((v ++ u) ++ (inv (v ++ u) ++ (u ++ v))) ((v ++ u) ++ []) = Same-before m rs (v ++ u) (inv (v ++ u) ++ (u ++ v)) [] quotient in
    let other : Same group (((v ++ u) ++ inv (v ++ u)) ++ (u ++ v)) (u ++ v) =
    Same-after m rs (u ++ v) ((v ++ u) ++ inv (v ++ u)) [] (Same-times_inverse m rs (v ++ u) (IsOver-append m v u v_over u_over)) in
    Same-trans m rs (u ++ v) (((v ++ u) ++ inv (v ++ u)) ++ (u ++ v)) (v ++ u) (Same-sym m rs (((v ++ u) ++ inv (v ++ u)) ++ (u ++ v)) (u ++ v) other)
    (Same-trans m rs (((v ++ u) ++ inv (v ++ u)) ++ (u ++ v)) ((v ++ u) ++ (inv (v ++ u) ++ (u ++ v))) (v ++ u) (Same-equal m rs _ _ (append_assoc (v ++ u) (inv (v ++ u)) (u ++ v)))
    (subst (λ (t : List ℤ). Same group ((v ++ u) ++ (inv (v ++ u) ++ (u ++ v))) t) (append-nil (v ++ u)) one))
