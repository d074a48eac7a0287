-- Chains of steps: they join, turn round, and are kept by products and by inverses.
use Rattle.std.proofs.Common.{◌≡◌, ℕ, zero, suc, ◌+◌, ◌*◌, ◌≤◌, ℤ, pos, negsuc, neg_ℤ, List, [], ◌∷◌, ◌++◌, map, reverse, length, refl, sym, ap, subst, ◌∙◌, inl, inr, append_assoc, add-one, arith}
use Rattle.std.specs.Prelude.{Contains, nat_abs}
use Rattle.std.proofs.Math.IntN.{neg_ℤ-neg_ℤ}
use Rattle.std.proofs.Math.Nat.{mul-suc}
use Rattle.std.proofs.lemmas.List.{append-nil, map-append, reverse-append, length-append, length-map, length-reverse}
use Rattle.mg_words.specs.Letter.{IsLetterOf}
use Rattle.mg_words.specs.Word.{inv, times, power_of, commutator_of, IsOver}
use Rattle.mg_words.specs.Chain.{IsPiece, a_pair, a_relator, an_inverse, Inserts, Step, Leads, Same, FreelyEqual}

-- the inverse of a product is the product of the inverses in the other order
pub inv-append : (a b : List ℤ) → inv (a ++ b) ≡ inv b ++ inv a
inv-append a b = ap (map neg_ℤ) (reverse-append a b) ∙ map-append neg_ℤ (reverse b) (reverse a)

pub inv-cons : (x : ℤ) (w : List ℤ) → inv (x ∷ w) ≡ inv w ++ neg_ℤ x ∷ []
inv-cons x w = inv-append (x ∷ []) w

pub inv-push : (w : List ℤ) (x : ℤ) → inv (w ++ x ∷ []) ≡ neg_ℤ x ∷ inv w
inv-push w x = inv-append w (x ∷ [])

pub inv-inv : (w : List ℤ) → inv (inv w) ≡ w
inv-inv [] = refl
inv-inv (x ∷ w) =
    ap inv (inv-cons x w) ∙ (inv-push (inv w) (neg_ℤ x) ∙ (ap (λ v. neg_ℤ (neg_ℤ x) ∷ v) (inv-inv w) ∙ ap (λ y. y ∷ w) (neg_ℤ-neg_ℤ x)))

-- the inverse of a pair of inverse letters is that pair
pub inv-pair : (x : ℤ) → inv (x ∷ neg_ℤ x ∷ []) ≡ x ∷ neg_ℤ x ∷ []
inv-pair x = ap (λ y. y ∷ neg_ℤ x ∷ []) (neg_ℤ-neg_ℤ x)

-- words over the first m generators
pub IsOver-append : (m : ℕ) (a b : List ℤ) → IsOver m a → IsOver m b → IsOver m (a ++ b)
IsOver-append m [] b h k = k
IsOver-append m (x ∷ a) b h k = (h.0, IsOver-append m a b h.1 k)

pub IsOver-left : (m : ℕ) (a b : List ℤ) → IsOver m (a ++ b) → IsOver m a
IsOver-left m [] b h = tt
IsOver-left m (x ∷ a) b h = (h.0, IsOver-left m a b h.1)

pub IsOver-right : (m : ℕ) (a b : List ℤ) → IsOver m (a ++ b) → IsOver m b
IsOver-right m [] b h = h
IsOver-right m (x ∷ a) b h = IsOver-right m a b h.1

pub IsLetterOf-neg : (m : ℕ) (x : ℤ) → IsLetterOf m x → IsLetterOf m (neg_ℤ x)
IsLetterOf-neg m (pos zero) h = h
IsLetterOf-neg m (pos (suc n)) h = record { least = h.least; most = h.most }
IsLetterOf-neg m (negsuc n) h = record { least = h.least; most = h.most }

pub IsOver-inv : (m : ℕ) (w : List ℤ) → IsOver m w → IsOver m (inv w)
IsOver-inv m [] h = tt
IsOver-inv m (x ∷ w) h =
    rw inv-cons (IsOver-append m (inv w) (neg_ℤ x ∷ []) (IsOver-inv m w h.1) (IsLetterOf-neg m x h.0, tt))

-- one more place at which a chain can begin or end
pub Same-refl : (m : ℕ) (rs : List (List ℤ)) (u : List ℤ) → Same m rs u u
Same-refl m rs u = ([], refl)

pub Same-equal : (m : ℕ) (rs : List (List ℤ)) (u v : List ℤ) → u ≡ v → Same m rs u v
Same-equal m rs u v e = ([], e)

pub Same-step : (m : ℕ) (rs : List (List ℤ)) (u v : List ℤ) → Step m rs u v → Same m rs u v
Same-step m rs u v s = (v ∷ [], (s, refl))

pub Same-insert : (m : ℕ) (rs : List (List ℤ)) (u v : List ℤ) → Inserts m rs u v → Same m rs u v
Same-insert m rs u v i = Same-step m rs u v (inl i)

pub Same-delete : (m : ℕ) (rs : List (List ℤ)) (u v : List ℤ) → Inserts m rs v u → Same m rs u v
Same-delete m rs u v i = Same-step m rs u v (inr i)

-- chains join
leads-trans : (m : ℕ) (rs : List (List ℤ)) (u v w : List ℤ) (ws : List (List ℤ)) → Leads m rs u ws v → Same m rs v w → Same m rs u w
leads-trans m rs u v w [] e k = subst (λ (t : List ℤ). Same m rs t w) (sym e) k
leads-trans m rs u v w (t ∷ ts) h k = let r = leads-trans m rs t v w ts h.1 k in (t ∷ r.0, (h.0, r.1))

pub Same-trans : (m : ℕ) (rs : List (List ℤ)) (u v w : List ℤ) → Same m rs u v → Same m rs v w → Same m rs u w
Same-trans m rs u v w h k = leads-trans m rs u v w h.0 h.1 k

-- chains turn round
pub Step-sym : (m : ℕ) (rs : List (List ℤ)) (u v : List ℤ) → Step m rs u v → Step m rs v u
Step-sym m rs u v (inl i) = inr i
Step-sym m rs u v (inr i) = inl i

leads-sym : (m : ℕ) (rs : List (List ℤ)) (u v : List ℤ) (ws : List (List ℤ)) → Leads m rs u ws v → Same m rs v u
leads-sym m rs u v [] e = ([], sym e)
leads-sym m rs u v (t ∷ ts) h = Same-trans m rs v t u (leads-sym m rs t v ts h.1) (Same-step m rs t u (Step-sym m rs u t h.0))

pub Same-sym : (m : ℕ) (rs : List (List ℤ)) (u v : List ℤ) → Same m rs u v → Same m rs v u
Same-sym m rs u v h = leads-sym m rs u v h.0 h.1

-- a function that keeps insertions keeps chains
step_through : (m n : ℕ) (rs qs : List (List ℤ)) (f : List ℤ → List ℤ) → ((u v : List ℤ) → Inserts m rs u v → Inserts n qs (f u) (f v)) → (u v : List ℤ) → Step m rs u v → Step n qs (f u) (f v)
step_through m n rs qs f each u v (inl i) = inl (each u v i)
step_through m n rs qs f each u v (inr i) = inr (each v u i)

leads_through : (m n : ℕ) (rs qs : List (List ℤ)) (f : List ℤ → List ℤ) → ((u v : List ℤ) → Inserts m rs u v → Inserts n qs (f u) (f v)) → (u v : List ℤ) (ws : List (List ℤ)) → Leads m rs u ws v → Same n qs (f u) (f v)
leads_through m n rs qs f each u v [] e = ([], ap f e)
leads_through m n rs qs f each u v (t ∷ ts) h =
    let r = leads_through m n rs qs f each t v ts h.1 in (f t ∷ r.0, (step_through m n rs qs f each u t h.0, r.1))

pub Same-through : (m n : ℕ) (rs qs : List (List ℤ)) (f : List ℤ → List ℤ) → ((u v : List ℤ) → Inserts m rs u v → Inserts n qs (f u) (f v)) → (u v : List ℤ) → Same m rs u v → Same n qs (f u) (f v)
Same-through m n rs qs f each u v h = leads_through m n rs qs f each u v h.0 h.1

-- a function that takes each insertion to a chain keeps chains
leads_into : (m n : ℕ) (rs qs : List (List ℤ)) (f : List ℤ → List ℤ) → ((u v : List ℤ) → Inserts m rs u v → Same n qs (f u) (f v)) → (u v : List ℤ) (ws : List (List ℤ)) → Leads m rs u ws v → Same n qs (f u) (f v)
leads_into m n rs qs f each u v [] e = ([], ap f e)
leads_into m n rs qs f each u v (t ∷ ts) h =
    Same-trans n qs (f u) (f t) (f v)
    (elim h.0 as (λ _. Same n qs (f u) (f t)) [ inl i ↦ each u t i | inr i ↦ Same-sym n qs (f t) (f u) (each t u i) ])
    (leads_into m n rs qs f each t v ts h.1)

pub Same-into : (m n : ℕ) (rs qs : List (List ℤ)) (f : List ℤ → List ℤ) → ((u v : List ℤ) → Inserts m rs u v → Same n qs (f u) (f v)) → (u v : List ℤ) → Same m rs u v → Same n qs (f u) (f v)
Same-into m n rs qs f each u v h = leads_into m n rs qs f each u v h.0 h.1

-- products with one word keep insertions
Inserts-before : (m : ℕ) (rs : List (List ℤ)) (a u v : List ℤ) → Inserts m rs u v → Inserts m rs (a ++ u) (a ++ v)
Inserts-before m rs a u v i = record {
  before = a ++ i.before;
  piece = i.piece;
  after = i.after;
  is_piece = i.is_piece;
  without = ap (λ t. a ++ t) i.without ∙ sym (append_assoc a i.before i.after);
  with_it = ap (λ t. a ++ t) i.with_it ∙ sym (append_assoc a i.before (i.piece ++ i.after));
}

Inserts-after : (m : ℕ) (rs : List (List ℤ)) (b u v : List ℤ) → Inserts m rs u v → Inserts m rs (u ++ b) (v ++ b)
Inserts-after m rs b u v i = record {
  before = i.before;
  piece = i.piece;
  after = i.after ++ b;
  is_piece = i.is_piece;
  without = ap (λ t. t ++ b) i.without ∙ append_assoc i.before i.after b;
  with_it = ap (λ t. t ++ b) i.with_it ∙ (append_assoc i.before (i.piece ++ i.after) b ∙ ap (λ t. i.before ++ t) (append_assoc i.piece i.after b));
}

-- products keep chains
pub Same-before : (m : ℕ) (rs : List (List ℤ)) (a u v : List ℤ) → Same m rs u v → Same m rs (a ++ u) (a ++ v)
Same-before m rs a = Same-through m m rs rs (λ t. a ++ t) (Inserts-before m rs a)

pub Same-after : (m : ℕ) (rs : List (List ℤ)) (b u v : List ℤ) → Same m rs u v → Same m rs (u ++ b) (v ++ b)
Same-after m rs b = Same-through m m rs rs (λ t. t ++ b) (Inserts-after m rs b)

pub Same-between : (m : ℕ) (rs : List (List ℤ)) (a b u v : List ℤ) → Same m rs u v → Same m rs (a ++ u ++ b) (a ++ v ++ b)
Same-between m rs a b u v h = Same-after m rs b (a ++ u) (a ++ v) (Same-before m rs a u v h)

pub Same-append : (m : ℕ) (rs : List (List ℤ)) (u u' v v' : List ℤ) → Same m rs u u' → Same m rs v v' → Same m rs (u ++ v) (u' ++ v')
Same-append m rs u u' v v' h k =
    Same-trans m rs (u ++ v) (u' ++ v) (u' ++ v') (Same-after m rs v u u' h) (Same-before m rs u' v v' k)

-- inverses keep chains
pub IsPiece-inv : (m : ℕ) (rs : List (List ℤ)) (p : List ℤ) → IsPiece m rs p → IsPiece m rs (inv p)
IsPiece-inv m rs p (a_pair x l e) = a_pair x l (ap inv e ∙ inv-pair x)
IsPiece-inv m rs p (a_relator c) = an_inverse p c refl
IsPiece-inv m rs p (an_inverse r c e) = a_relator (subst (λ (t : List ℤ). Contains rs t) (sym (ap inv e ∙ inv-inv r)) c)

Inserts-inv : (m : ℕ) (rs : List (List ℤ)) (u v : List ℤ) → Inserts m rs u v → Inserts m rs (inv u) (inv v)
Inserts-inv m rs u v i = record {
  before = inv i.after;
  piece = inv i.piece;
  after = inv i.before;
  is_piece = IsPiece-inv m rs i.piece i.is_piece;
  without = ap inv i.without ∙ inv-append i.before i.after;
  with_it = ap inv i.with_it ∙ (inv-append i.before (i.piece ++ i.after) ∙ (ap (λ t. t ++ inv i.before) (inv-append i.piece i.after) ∙ append_assoc (inv i.after) (inv i.piece) (inv i.before)));
}

pub Same-inv : (m : ℕ) (rs : List (List ℤ)) (u v : List ℤ) → Same m rs u v → Same m rs (inv u) (inv v)
Same-inv m rs = Same-through m m rs rs inv (Inserts-inv m rs)

-- more relators and more generators
pub IsLetterOf-more : (m n : ℕ) (x : ℤ) → m ≤ n → IsLetterOf m x → IsLetterOf n x
IsLetterOf-more m n x l h = record { least = h.least; most = omega arith }

pub IsOver-more : (m n : ℕ) (w : List ℤ) → m ≤ n → IsOver m w → IsOver n w
IsOver-more m n [] l h = tt
IsOver-more m n (x ∷ w) l h = (IsLetterOf-more m n x l h.0, IsOver-more m n w l h.1)

pub IsPiece-more : (m n : ℕ) (rs qs : List (List ℤ)) → m ≤ n → ((r : List ℤ) → Contains rs r → Contains qs r) → (p : List ℤ) → IsPiece m rs p → IsPiece n qs p
IsPiece-more m n rs qs l more p (a_pair x k e) = a_pair x (IsLetterOf-more m n x l k) e
IsPiece-more m n rs qs l more p (a_relator c) = a_relator (more p c)
IsPiece-more m n rs qs l more p (an_inverse r c e) = an_inverse r (more r c) e

pub Same-more : (m n : ℕ) (rs qs : List (List ℤ)) → m ≤ n → ((r : List ℤ) → Contains rs r → Contains qs r) → (u v : List ℤ) → Same m rs u v → Same n qs u v
Same-more m n rs qs l more =
    Same-through m n rs qs (λ t. t) (λ u v i. record { before = i.before; piece = i.piece; after = i.after; is_piece = IsPiece-more m n rs qs l more i.piece i.is_piece; without = i.without; with_it = i.with_it })

pub none_contained : (A : Type 0) (r : List ℤ) → Contains [] r → A
none_contained A r c = absurd (omega (arith, c.1))

-- freely equal words are the same for every list of relators
pub Same-from_free : (m : ℕ) (rs : List (List ℤ)) (u v : List ℤ) → FreelyEqual m u v → Same m rs u v
Same-from_free m rs = Same-more m m [] rs (omega arith) (λ r. none_contained (Contains rs r) r)

-- one piece more or less at a place
pub Same-piece : (m : ℕ) (rs : List (List ℤ)) (a p b : List ℤ) → IsPiece m rs p → Same m rs (a ++ (p ++ b)) (a ++ b)
Same-piece m rs a p b h =
    Same-delete m rs (a ++ (p ++ b)) (a ++ b) (record { before = a; piece = p; after = b; is_piece = h; without = refl; with_it = refl })

pub Same-pair : (m : ℕ) (rs : List (List ℤ)) (a : List ℤ) (x : ℤ) (b : List ℤ) → IsLetterOf m x → Same m rs (a ++ x ∷ neg_ℤ x ∷ b) (a ++ b)
Same-pair m rs a x b l = Same-piece m rs a (x ∷ neg_ℤ x ∷ []) b (a_pair x l refl)

-- a relator and its inverse are 1
pub Same-relator : (m : ℕ) (rs : List (List ℤ)) (r : List ℤ) → Contains rs r → Same m rs r []
Same-relator m rs r c = subst (λ (t : List ℤ). Same m rs t []) (append-nil r) (Same-piece m rs [] r [] (a_relator c))

pub Same-relator_inverse : (m : ℕ) (rs : List (List ℤ)) (r : List ℤ) → Contains rs r → Same m rs (inv r) []
Same-relator_inverse m rs r c = subst (λ (t : List ℤ). Same m rs t []) (append-nil (inv r)) (Same-piece m rs [] (inv r) [] (an_inverse r c refl))

-- a word times its inverse is 1
pub Same-times_inverse : (m : ℕ) (rs : List (List ℤ)) (w : List ℤ) → IsOver m w → Same m rs (w ++ inv w) []
Same-times_inverse m rs [] h = ([], refl)
Same-times_inverse m rs (x ∷ w) h =
    Same-trans m rs (x ∷ w ++ inv (x ∷ w)) ((x ∷ []) ++ (w ++ inv w) ++ (neg_ℤ x ∷ [])) []
    (Same-equal m rs _ _ (ap (λ t. x ∷ w ++ t) (inv-cons x w) ∙ ap (λ t. x ∷ t) (sym (append_assoc w (inv w) (neg_ℤ x ∷ [])))))
    (Same-trans m rs ((x ∷ []) ++ (w ++ inv w) ++ (neg_ℤ x ∷ [])) (x ∷ neg_ℤ x ∷ []) []
    (Same-between m rs (x ∷ []) (neg_ℤ x ∷ []) (w ++ inv w) [] (Same-times_inverse m rs w h.1))
    (Same-pair m rs [] x [] h.0))

pub Same-inverse_times : (m : ℕ) (rs : List (List ℤ)) (w : List ℤ) → IsOver m w → Same m rs (inv w ++ w) []
Same-inverse_times m rs w h =
    subst (λ (t : List ℤ). Same m rs (inv w ++ t) []) (inv-inv w) (Same-times_inverse m rs (inv w) (IsOver-inv m w h))

-- powers
times-turn : (k : ℕ) (w : List ℤ) → times k w ++ w ≡ w ++ times k w
times-turn zero w = sym (append-nil w)
times-turn (suc k) w = append_assoc w (times k w) w ∙ ap (λ t. w ++ t) (times-turn k w)

pub times-push : (k : ℕ) (w : List ℤ) → times (k + 1) w ≡ times k w ++ w
times-push k w = ap (λ n. times n w) (add-one k) ∙ sym (times-turn k w)

pub times-nil : (k : ℕ) → times k [] ≡ []
times-nil zero = refl
times-nil (suc k) = times-nil k

-- the empty word is its own power
pub times-empty : (k : ℕ) (w : List ℤ) → w ≡ [] → [] ≡ times k w
times-empty k w e = sym (ap (times k) e ∙ times-nil k)

-- lengths, and words over generators
pub length-inv : (w : List ℤ) → length (inv w) ≡ length w
length-inv w = length-map (reverse w) neg_ℤ ∙ length-reverse w

pub length-times : (k : ℕ) (w : List ℤ) → length (times k w) ≡ length w * k
length-times zero w = omega arith
length-times (suc k) w = omega (arith, length-append w (times k w), length-times k w, mul-suc (length w) k)

pub length-power_of : (k : ℤ) (w : List ℤ) → length (power_of k w) ≡ length w * nat_abs k
length-power_of (pos k) w = length-times k w
length-power_of (negsuc k) w = length-times (suc k) (inv w) ∙ ap (λ n. n * suc k) (length-inv w)

pub IsOver-times : (m k : ℕ) (w : List ℤ) → IsOver m w → IsOver m (times k w)
IsOver-times m zero w h = tt
IsOver-times m (suc k) w h = IsOver-append m w (times k w) h (IsOver-times m k w h)

pub IsOver-power_of : (m : ℕ) (k : ℤ) (w : List ℤ) → IsOver m w → IsOver m (power_of k w)
IsOver-power_of m (pos k) w h = IsOver-times m k w h
IsOver-power_of m (negsuc k) w h = IsOver-times m (suc k) (inv w) (IsOver-inv m w h)

pub IsOver-commutator_of : (m : ℕ) (u v : List ℤ) → IsOver m u → IsOver m v → IsOver m (commutator_of u v)
IsOver-commutator_of m u v h k =
    IsOver-append m (inv u ++ inv v ++ u) v (IsOver-append m (inv u ++ inv v) u (IsOver-append m (inv u) (inv v) (IsOver-inv m u h) (IsOver-inv m v k)) h) k

-- a map of letters that keeps inverses keeps the inverses of words
pub inv-map : (f : ℤ → ℤ) → ((x : ℤ) → f (neg_ℤ x) ≡ neg_ℤ (f x)) → (w : List ℤ) → map f (inv w) ≡ inv (map f w)
inv-map f each [] = refl
inv-map f each (x ∷ w) =
    ap (map f) (inv-cons x w) ∙ (map-append f (inv w) (neg_ℤ x ∷ []) ∙ (ap (λ t. t ++ f (neg_ℤ x) ∷ []) (inv-map f each w)
    ∙ (ap (λ z. inv (map f w) ++ z ∷ []) (each x) ∙ sym (inv-cons (f x) (map f w)))))

pub IsOver-map : (m n : ℕ) (f : ℤ → ℤ) → ((x : ℤ) → IsLetterOf m x → IsLetterOf n (f x)) → (w : List ℤ) → IsOver m w → IsOver n (map f w)
IsOver-map m n f each [] h = tt
IsOver-map m n f each (x ∷ w) h = (each x h.0, IsOver-map m n f each w h.1)
