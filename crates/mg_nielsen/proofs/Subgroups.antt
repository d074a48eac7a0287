-- Members and subgroup words generate the same subgroup, and elementary steps keep it.
use Rattle.std.proofs.Common.{◌≡◌, ◌≢◌, ℕ, zero, suc, ◌<◌, Bool, true, false, ℤ, pos, negsuc, List, [], ◌∷◌, ◌++◌, set, length, get_or, refl, sym, ap, subst, ◌∙◌, inl, inr, append_assoc, arith}
use Rattle.std.specs.List.{AllByRecursion}
use Rattle.std.proofs.lemmas.Bool.{cases_eq}
use Rattle.std.proofs.lemmas.List.{append-nil, length-map, length-set, get_or-set_same, get_or-set_other}
use Rattle.mg_words.specs.Letter.{IsLetterOf}
use Rattle.mg_words.specs.Word.{inv, IsOver}
use Rattle.mg_words.specs.Reduction.{free_form}
use Rattle.mg_words.proofs.Chains.{IsOver-append, IsOver-inv, Same-from_free}
use Rattle.mg_words.proofs.Free.{freely_from_form, IsOver-free_form, free_form-free_form, free_form-product}
use Rattle.mg_present.specs.Presentation.{Group}
use Rattle.mg_present.specs.Same.{Same, Lies, signed, product}
use Rattle.mg_present.specs.Image.{letter_image, image_of}
use Rattle.mg_present.proofs.Images.{image-over}
use Rattle.mg_present.proofs.Sameness.{lies_empty, lies_at, lies_same, lies_product, lies_inverse}
use Rattle.mg_nielsen.specs.Expressed.{Expressed, empty, turned, IsExpressed}
use Rattle.mg_nielsen.specs.Moves.{words_of, member_at, trim, trimmed, on_side, stepped}
use Rattle.mg_nielsen.proofs.Products.{gone_times, gone_back, all_at_or, expressed_form, expressed_at, expressed_turned}

-- words with one normal form are the same
pub same_by_form : (group : Group) (u v : List ℤ) → IsOver group.generators u → IsOver group.generators v → free_form u ≡ free_form v → Same group u v
same_by_form group u v h k e = Same-from_free group.generators group.relators u v (freely_from_form group.generators u v h k e)

pub lies_by_form : (group : Group) (members : List (List ℤ)) (u v : List ℤ) → IsOver group.generators u → IsOver group.generators v → free_form u ≡ free_form v → Lies group members u → Lies group members v
lies_by_form group members u v h k e l = lies_same group members u v l (same_by_form group u v h k e)

pub lies_signed : (group : Group) (members : List (List ℤ)) (inverse : Bool) (w : List ℤ) → Lies group members w → Lies group members (signed inverse w)
lies_signed group members false w h = h
lies_signed group members true w h = lies_inverse group members w h

-- what members generate that lie in another subgroup lies there too
product_through : (group : Group) (A B : List (List ℤ)) (factors : List (ℕ × Bool)) → AllByRecursion (Lies group B) A → Lies group B (product A factors)
product_through group A B [] h = lies_empty group B
product_through group A B (factor ∷ factors) h =
    lies_product group B (signed factor.1 (get_or A factor.0 [])) (product A factors)
    (lies_signed group B factor.1 (get_or A factor.0 []) (all_at_or (Lies group B) A factor.0 [] (lies_empty group B) h))
    (product_through group A B factors h)

pub lies_through : (group : Group) (A B : List (List ℤ)) (w : List ℤ) → AllByRecursion (Lies group B) A → Lies group A w → Lies group B w
lies_through group A B w h l = lies_same group B (product A l.factors) w (product_through group A B l.factors h) l.same

pub all_through : (group : Group) (A B words : List (List ℤ)) → AllByRecursion (Lies group B) A → AllByRecursion (Lies group A) words → AllByRecursion (Lies group B) words
all_through group A B [] h l = tt
all_through group A B (w ∷ words) h l = (lies_through group A B w h l.0, all_through group A B words h l.1)

-- a product of signs lies in the subgroup
letter_lies : (group : Group) (subgroup : List (List ℤ)) (x : ℤ) → IsLetterOf (length subgroup) x → Lies group subgroup (letter_image subgroup x)
letter_lies group subgroup (pos zero) h = lies_empty group subgroup
letter_lies group subgroup (pos (suc n)) h = lies_at group subgroup n (let most = h.most in omega arith)
letter_lies group subgroup (negsuc n) h = lies_inverse group subgroup (get_or subgroup n []) (lies_at group subgroup n (let most = h.most in omega arith))

image_lies : (group : Group) (subgroup : List (List ℤ)) (signs : List ℤ) → IsOver (length subgroup) signs → Lies group subgroup (image_of subgroup signs)
image_lies group subgroup [] h = lies_empty group subgroup
image_lies group subgroup (x ∷ signs) h =
    lies_product group subgroup (letter_image subgroup x) (image_of subgroup signs) (letter_lies group subgroup x h.0) (image_lies group subgroup signs h.1)

-- expressed words are words over the generators, and lie in the subgroup
pub expressed_over : (m : ℕ) (subgroup : List (List ℤ)) (e : Expressed) → AllByRecursion (IsOver m) subgroup → IsExpressed subgroup e → IsOver m e.word
expressed_over m subgroup e over h = subst (IsOver m) (sym h.word) (IsOver-free_form m (image_of subgroup e.signs) (image-over m subgroup e.signs over))

expressed_lies : (group : Group) (subgroup : List (List ℤ)) (e : Expressed) → AllByRecursion (IsOver group.generators) subgroup → IsExpressed subgroup e → Lies group subgroup e.word
expressed_lies group subgroup e over h =
    lies_by_form group subgroup (image_of subgroup e.signs) e.word (image-over group.generators subgroup e.signs over) (expressed_over group.generators subgroup e over h)
    (sym (expressed_form subgroup e h)) (image_lies group subgroup e.signs h.signs.over)

pub members_lie : (group : Group) (subgroup : List (List ℤ)) (members : List Expressed) → AllByRecursion (IsOver group.generators) subgroup → AllByRecursion (IsExpressed subgroup) members → AllByRecursion (Lies group subgroup) (words_of members)
members_lie group subgroup [] over h = tt
members_lie group subgroup (e ∷ members) over h = (expressed_lies group subgroup e over h.0, members_lie group subgroup members over h.1)

-- a fact of each place is a fact of all
pub all_by_places : {X : Type 0} (P : X → Type 0) (xs : List X) (d : X) → ((i : ℕ) → i < length xs → P (get_or xs i d)) → AllByRecursion P xs
all_by_places P [] d each = tt
all_by_places P (x ∷ xs) d each = (each 0 (omega arith), all_by_places P xs d (λ i below. each (suc i) (omega arith)))

-- the words of members
pub word_at : (members : List Expressed) (i : ℕ) → get_or (words_of members) i [] ≡ (member_at members i).word
word_at [] i = refl
word_at (e ∷ members) zero = refl
word_at (e ∷ members) (suc i) = word_at members i

trim_word : (word signs : List ℤ) → (trim word signs).word ≡ word
trim_word [] signs = refl
trim_word (x ∷ word) signs = refl

pub trimmed_word : (e : Expressed) → (trimmed e).word ≡ e.word
trimmed_word e = trim_word e.word e.signs

-- a member lies in what its product with a factor and the factor generate
divided : (group : Group) (words : List (List ℤ)) (left : Bool) (m f : Expressed) → IsOver group.generators m.word → IsOver group.generators f.word
    → Lies group words f.word → Lies group words (on_side left m f).word → Lies group words m.word
divided group words false m f h k l n =
    let g : ℕ = group.generators in
    lies_by_form group words (free_form (m.word ++ f.word) ++ inv f.word) m.word
    (IsOver-append g (free_form (m.word ++ f.word)) (inv f.word) (IsOver-free_form g (m.word ++ f.word) (IsOver-append g m.word f.word h k)) (IsOver-inv g f.word k)) h
    (free_form-product (free_form (m.word ++ f.word)) (m.word ++ f.word) (inv f.word) (inv f.word) (free_form-free_form (m.word ++ f.word)) refl
    ∙ (ap free_form (append_assoc m.word f.word (inv f.word))
    ∙ (free_form-product m.word m.word (f.word ++ inv f.word) [] refl (ap (λ t. free_form (f.word ++ t)) (sym (append-nil (inv f.word))) ∙ gone_times f.word [])
    ∙ ap free_form (append-nil m.word))))
    (lies_product group words (free_form (m.word ++ f.word)) (inv f.word) n (lies_inverse group words f.word l))
divided group words true m f h k l n =
    let g : ℕ = group.generators in
    lies_by_form group words (inv f.word ++ free_form (f.word ++ m.word)) m.word
    (IsOver-append g (inv f.word) (free_form (f.word ++ m.word)) (IsOver-inv g f.word k) (IsOver-free_form g (f.word ++ m.word) (IsOver-append g f.word m.word k h))) h
    (free_form-product (inv f.word) (inv f.word) (free_form (f.word ++ m.word)) (f.word ++ m.word) refl (free_form-free_form (f.word ++ m.word)) ∙ gone_back f.word m.word)
    (lies_product group words (inv f.word) (free_form (f.word ++ m.word)) (lies_inverse group words f.word l) n)

-- an elementary step as a change of one place
unfoldable pub changed : List Expressed → (place other : ℕ) (inverse left : Bool) → List Expressed
changed members place other inverse left = set members place (trimmed (stepped members place other inverse left))

changed_same : (members : List Expressed) (place other : ℕ) (inverse left : Bool) → place < length members
    → get_or (words_of (changed members place other inverse left)) place [] ≡ (stepped members place other inverse left).word
unfolding changed
changed_same members place other inverse left there =
    word_at (set members place (trimmed (stepped members place other inverse left))) place
    ∙ (ap (λ (e : Expressed). e.word) (get_or-set_same members place (trimmed (stepped members place other inverse left)) empty there)
    ∙ trimmed_word (stepped members place other inverse left))

changed_other : (members : List Expressed) (place other : ℕ) (inverse left : Bool) (q : ℕ) → q ≢ place
    → get_or (words_of (changed members place other inverse left)) q [] ≡ (member_at members q).word
unfolding changed
changed_other members place other inverse left q apart =
    word_at (set members place (trimmed (stepped members place other inverse left))) q
    ∙ ap (λ (e : Expressed). e.word) (get_or-set_other members place q (trimmed (stepped members place other inverse left)) empty apart)

changed_length : (members : List Expressed) (place other : ℕ) (inverse left : Bool) → length (words_of (changed members place other inverse left)) ≡ length members
unfolding changed
changed_length members place other inverse left =
    length-map (set members place (trimmed (stepped members place other inverse left))) (λ e. e.word)
    ∙ length-set members place (trimmed (stepped members place other inverse left))

other_lies : (group : Group) (members : List Expressed) (place other : ℕ) (inverse left : Bool) (q : ℕ) → q < length members → q ≢ place
    → Lies group (words_of (changed members place other inverse left)) (member_at members q).word
other_lies group members place other inverse left q below apart =
    subst (Lies group (words_of (changed members place other inverse left))) (changed_other members place other inverse left q apart)
    (lies_at group (words_of (changed members place other inverse left)) q (subst (λ (n : ℕ). q < n) (sym (changed_length members place other inverse left)) below))

step_lies : (group : Group) (subgroup : List (List ℤ)) (members : List Expressed) (place other : ℕ) (inverse left : Bool)
    → AllByRecursion (IsOver group.generators) subgroup → AllByRecursion (IsExpressed subgroup) members → place < length members → other < length members → other ≢ place
    → Lies group (words_of (changed members place other inverse left)) (member_at members place).word
step_lies group subgroup members place other inverse left over h there other_there apart =
    let words : List (List ℤ) = words_of (changed members place other inverse left) in
    let m : Expressed = member_at members place in
    let f : Expressed = turned inverse (member_at members other) in
    divided group words left m f
    (expressed_over group.generators subgroup m over (expressed_at subgroup members place h))
    (expressed_over group.generators subgroup f over (expressed_turned subgroup inverse (member_at members other) (expressed_at subgroup members other h)))
    (lies_signed group words inverse (member_at members other).word (other_lies group members place other inverse left other other_there apart))
    (subst (Lies group words) (changed_same members place other inverse left there)
    (lies_at group words place (subst (λ (n : ℕ). place < n) (sym (changed_length members place other inverse left)) there)))

pub old_lie : (group : Group) (subgroup : List (List ℤ)) (members : List Expressed) (place other : ℕ) (inverse left : Bool)
    → AllByRecursion (IsOver group.generators) subgroup → AllByRecursion (IsExpressed subgroup) members → place < length members → other < length members → other ≢ place
    → AllByRecursion (Lies group (words_of (changed members place other inverse left))) (words_of members)
old_lie group subgroup members place other inverse left over h there other_there apart =
    let words : List (List ℤ) = words_of (changed members place other inverse left) in
    all_by_places (Lies group words) (words_of members) []
    (λ q below. subst (Lies group words) (sym (word_at members q))
    (elim (cases_eq q place) as (λ _. Lies group words (member_at members q).word) [
      | inl e ↦ subst (λ (n : ℕ). Lies group words (member_at members n).word) (sym e) (step_lies group subgroup members place other inverse left over h there other_there apart)
      | inr n ↦ other_lies group members place other inverse left q (subst (λ (n : ℕ). q < n) (length-map members (λ e. e.word)) below) n
    ]))
