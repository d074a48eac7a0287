-- Maps of generators: which keep sameness, and which words are images.
use Rattle.std.proofs.Common.{◌≡◌, ℕ, suc, zero, ◌<◌, Bool, true, false, ℤ, pos, negsuc, neg_ℤ, List, [], ◌∷◌, ◌++◌, map, length, get_or, refl, sym, ap, subst, ◌∙◌, arith}
use Rattle.std.specs.Prelude.{Contains}
use Rattle.std.specs.List.{AllByRecursion}
use Rattle.std.proofs.lemmas.List.{get_or_default}
use Rattle.std.proofs.lemmas.List.Elements.{All-from_recursion, All-from_get_or, recursion_from_All}
use Rattle.mg_words.specs.Letter.{IsLetterOf}
use Rattle.mg_words.specs.Word.{IsOver, inv}
use Rattle.mg_words.specs.Chain.{IsPiece, a_pair, a_relator, an_inverse, Inserts}
use Rattle.mg_words.proofs.Chains.{Same-equal, Same-sym, Same-trans, Same-before, Same-after, Same-inv, Same-into, Same-relator, Same-times_inverse}
use Rattle.mg_present.specs.Presentation.{Group, IsPresented, IsRelator}
use Rattle.mg_present.specs.Same.{Same, Lies, product, signed}
use Rattle.mg_present.specs.Image.{letter_image, image_of}
use Rattle.mg_present.proofs.Images.{image-append, image-inv, image-over}
use Rattle.mg_present.proofs.Sameness.{lies_empty, lies_at, lies_product, lies_inverse, lies_in_none, none_lies}
use Rattle.mg_questions.specs.Meaning.{IsWordOf, IsHomomorphism}
use Rattle.mg_questions.proofs.Tables.{Each, each_more, each_map, each_of_map}

-- each member is one of the members
each_contained : (ws : List (List ℤ)) → Each (Contains ws) ws
each_contained ws = recursion_from_All (Contains ws) ws (All-from_get_or (Contains ws) ws [] (λ k h. (k, h, get_or_default ws k (get_or ws k []) [] h)))

-- what holds of each member holds of one of them
at_contained : (P : List ℤ → Type 0) (ws : List (List ℤ)) (w : List ℤ) → Each P ws → Contains ws w → P w
at_contained P ws w each there = subst P there.2 (All-from_recursion P ws each there.0 w there.1)

-- the image of a piece is the identity where those of the relators are
piece_image : (source target : Group) (images : List (List ℤ)) → Each (IsWordOf target) images → Each (λ r. Same target (image_of images r) []) source.relators
    → (piece : List ℤ) → IsPiece source.generators source.relators piece → Same target (image_of images piece) []
piece_image source target images over one piece (a_pair x letter is) =
    let image : List ℤ = image_of images (x ∷ []) in
    let split : image_of images piece ≡ image ++ inv image =
    ap (image_of images) is ∙ (image-append images (x ∷ []) (neg_ℤ x ∷ []) ∙ ap (λ t. image ++ t) (image-inv images (x ∷ []))) in
    subst (λ (t : List ℤ). Same target t []) (sym split) (Same-times_inverse target.generators target.relators image (image-over target.generators images (x ∷ []) over))
piece_image source target images over one piece (a_relator there) = at_contained (λ r. Same target (image_of images r) []) source.relators piece one there
piece_image source target images over one piece (an_inverse r there is) =
    subst (λ (t : List ℤ). Same target t []) (sym (ap (image_of images) is ∙ image-inv images r))
    (Same-inv target.generators target.relators (image_of images r) [] (at_contained (λ s. Same target (image_of images s) []) source.relators r one there))

insertion_image : (source target : Group) (images : List (List ℤ)) → Each (IsWordOf target) images → Each (λ r. Same target (image_of images r) []) source.relators
    → (u v : List ℤ) → Inserts source.generators source.relators u v → Same target (image_of images u) (image_of images v)
insertion_image source target images over one u v i =
    let m : ℕ = target.generators in
    let rs : List (List ℤ) = target.relators in
    let f : List ℤ → List ℤ = image_of images in
    let without : f u ≡ f i.before ++ f i.after = ap f i.without ∙ image-append images i.before i.after in
    let with_it : f v ≡ f i.before ++ (f i.piece ++ f i.after) =
    ap f i.with_it ∙ (image-append images i.before (i.piece ++ i.after) ∙ ap (λ t. f i.before ++ t) (image-append images i.piece i.after)) in
    Same-trans m rs (f u) (f i.before ++ f i.after) (f v) (Same-equal m rs (f u) (f i.before ++ f i.after) without)
    (Same-trans m rs (f i.before ++ f i.after) (f i.before ++ (f i.piece ++ f i.after)) (f v)
    (Same-before m rs (f i.before) (f i.after) (f i.piece ++ f i.after) (Same-sym m rs (f i.piece ++ f i.after) (f i.after) (Same-after m rs (f i.after) (f i.piece) [] (piece_image source target images over one i.piece i.is_piece))))
    (Same-equal m rs (f i.before ++ (f i.piece ++ f i.after)) (f v) (sym with_it)))

-- a map keeps sameness exactly where the images of the relators are the identity
pub extends_where : (source target : Group) (images : List (List ℤ)) → Each (IsWordOf target) images → Each (Lies target []) (map (image_of images) source.relators) → IsHomomorphism source target images
extends_where source target images over lie u v u_over v_over same =
    let one : Each (λ r. Same target (image_of images r) []) source.relators =
    each_more (λ r. Lies target [] (image_of images r)) (λ r. Same target (image_of images r) []) source.relators (λ r. lies_in_none target (image_of images r)) (each_of_map (Lies target []) (image_of images) source.relators lie) in
    Same-into source.generators target.generators source.relators target.relators (image_of images) (insertion_image source target images over one) u v same

pub relators_lie : (source target : Group) (images : List (List ℤ)) → IsPresented source → IsHomomorphism source target images → Each (Lies target []) (map (image_of images) source.relators)
relators_lie source target images presented keeps =
    each_map (Lies target []) (image_of images) source.relators
    (each_more (Contains source.relators) (λ r. Lies target [] (image_of images r)) source.relators
    (λ r there. none_lies target (image_of images r) (keeps r [] (at_contained (IsRelator source.generators) source.relators r presented.relators there).over tt (Same-relator source.generators source.relators r there)))
    (each_contained source.relators))

-- a product of images is the image of the word with these letters
abbrev letter_at : ℕ → Bool → ℤ
letter_at place false = pos (suc place)
letter_at place true = negsuc place

letter_at-image : (images : List (List ℤ)) (place : ℕ) (inverse : Bool) → letter_image images (letter_at place inverse) ≡ signed inverse (get_or images place [])
letter_at-image images place false = refl
letter_at-image images place true = refl

letter_at-over : (m place : ℕ) (inverse : Bool) → place < m → IsLetterOf m (letter_at place inverse)
letter_at-over m place false within = record { least = omega arith; most = within }
letter_at-over m place true within = record { least = omega arith; most = within }

record IsImage (images : List (List ℤ)) (w : List ℤ) : Type 0 where
  pub v : List ℤ
  pub over : IsOver (length images) v
  pub image : image_of images v ≡ w

product_is_image : (images : List (List ℤ)) (factors : List (ℕ × Bool)) → AllByRecursion (λ (factor : ℕ × Bool). factor.0 < length images) factors → IsImage images (product images factors)
product_is_image images [] there = record { v = []; over = tt; image = refl }
product_is_image images (factor ∷ factors) there =
    let rest : IsImage images (product images factors) = product_is_image images factors there.1 in
    record {
      v = letter_at factor.0 factor.1 ∷ rest.v;
      over = (letter_at-over (length images) factor.0 factor.1 there.0, rest.over);
      image = ap (λ t. t ++ image_of images rest.v) (letter_at-image images factor.0 factor.1) ∙ ap (λ t. signed factor.1 (get_or images factor.0 []) ++ t) rest.image;
    }

-- what lies in the subgroup of the images is the same as an image
pub image_of_lying : (target : Group) (images : List (List ℤ)) (w : List ℤ) → Lies target images w → (v : List ℤ) × IsOver (length images) v × Same target (image_of images v) w
image_of_lying target images w lies =
    let made : IsImage images (product images lies.factors) = product_is_image images lies.factors lies.there in
    (made.v, made.over, subst (λ (t : List ℤ). Same target t w) (sym made.image) lies.same)

-- an image lies in the subgroup of the images
letter_lies : (target : Group) (images : List (List ℤ)) (x : ℤ) → IsLetterOf (length images) x → Lies target images (letter_image images x)
letter_lies target images (pos zero) letter = lies_empty target images
letter_lies target images (pos (suc n)) letter = lies_at target images n letter.most
letter_lies target images (negsuc n) letter = lies_inverse target images (get_or images n []) (lies_at target images n letter.most)

pub image_lies : (target : Group) (images : List (List ℤ)) (v : List ℤ) → IsOver (length images) v → Lies target images (image_of images v)
image_lies target images [] over = lies_empty target images
image_lies target images (x ∷ v) over =
    lies_product target images (letter_image images x) (image_of images v) (letter_lies target images x over.0) (image_lies target images v over.1)
