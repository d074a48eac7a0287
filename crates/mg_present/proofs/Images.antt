-- Images of words: they are products of the images of their parts, and the image of an inverse is the
-- inverse of the image.
use Rattle.std.proofs.Common.{◌≡◌, ℕ, zero, suc, ◌+◌, ◌-◌, ◌*◌, ◌<◌, ◌≤◌, ℤ, pos, negsuc, neg_ℤ, List, [], ◌∷◌, ◌++◌, length, get_or, take, refl, sym, ap, subst, ◌∙◌, arith, slice_get, Some, nat_abs}
use Rattle.std.specs.List.{AllByRecursion}
use Rattle.std.proofs.lemmas.List.{take_more, append-nil, length-append}
use Rattle.std.proofs.Math.Nat.{mul-suc}
use Rattle.std.proofs.lemmas.List.Elements.{All-from_recursion}
use Rattle.std.proofs.lemmas.Option.{get_or_from_slice_get}
use Rattle.std.proofs.lemmas.List.Concat.{flat_map-append}
use Rattle.mg_words.specs.Letter.{IsLetterOf}
use Rattle.mg_words.specs.Word.{inv, IsOver}
use Rattle.mg_words.proofs.Chains.{inv-append, inv-inv, inv-cons, length-inv, IsOver-append, IsOver-inv}
use Rattle.mg_present.specs.Image.{letter_image, image_of}

pub image-append : (images : List (List ℤ)) (u v : List ℤ) → image_of images (u ++ v) ≡ image_of images u ++ image_of images v
image-append images u v = flat_map-append (letter_image images) u v

-- the letters before a place, and one more
pub image_next : (images : List (List ℤ)) (w : List ℤ) (i : ℕ) (x : ℤ) → i < length w → x ≡ get_or w i x → image_of images (take (i + 1) w) ≡ image_of images (take i w) ++ letter_image images x
image_next images w i x h e =
    ap (image_of images) (take_more w i x h ∙ ap (λ y. take i w ++ y ∷ []) (sym e))
    ∙ (image-append images (take i w) (x ∷ []) ∙ ap (λ t. image_of images (take i w) ++ t) (append-nil (letter_image images x)))

-- an inverse letter's image is the inverse
letter_image-neg : (images : List (List ℤ)) (x : ℤ) → letter_image images (neg_ℤ x) ≡ inv (letter_image images x)
letter_image-neg images (pos zero) = refl
letter_image-neg images (pos (suc n)) = refl
letter_image-neg images (negsuc n) = sym (inv-inv (get_or images n []))

pub image-inv : (images : List (List ℤ)) (w : List ℤ) → image_of images (inv w) ≡ inv (image_of images w)
image-inv images [] = refl
image-inv images (x ∷ w) =
    ap (image_of images) (inv-cons x w) ∙ (image-append images (inv w) (neg_ℤ x ∷ [])
    ∙ (ap (λ t. image_of images (inv w) ++ t) (append-nil (letter_image images (neg_ℤ x)) ∙ letter_image-neg images x)
    ∙ (ap (λ t. t ++ inv (letter_image images x)) (image-inv images w) ∙ sym (inv-append (letter_image images x) (image_of images w)))))

-- images over n generators give words over them
at_place : (P : List ℤ → Type 0) → P [] → (images : List (List ℤ)) (n : ℕ) → AllByRecursion P images → P (get_or images n [])
at_place P none [] n h = none
at_place P none (w ∷ images) zero h = h.0
at_place P none (w ∷ images) (suc n) h = at_place P none images n h.1

letter_image-over : (m : ℕ) (images : List (List ℤ)) (x : ℤ) → AllByRecursion (IsOver m) images → IsOver m (letter_image images x)
letter_image-over m images (pos zero) h = tt
letter_image-over m images (pos (suc n)) h = at_place (IsOver m) tt images n h
letter_image-over m images (negsuc n) h = IsOver-inv m (get_or images n []) (at_place (IsOver m) tt images n h)

pub image-over : (m : ℕ) (images : List (List ℤ)) (w : List ℤ) → AllByRecursion (IsOver m) images → IsOver m (image_of images w)
image-over m images [] h = tt
image-over m images (x ∷ w) h = IsOver-append m (letter_image images x) (image_of images w) (letter_image-over m images x h) (image-over m images w h)

-- the image of a letter is as long as that of its generator
letter_image-length : (images : List (List ℤ)) (x : ℤ) (w : List ℤ) (m : ℕ) → IsLetterOf m x → slice_get images (nat_abs x - 1) ≡ Some w → length (letter_image images x) ≡ length w
letter_image-length images (pos zero) w m h e = absurd (let least : 1 ≤ 0 = h.least in omega arith)
letter_image-length images (pos (suc n)) w m h e =
    let place : suc n - 1 ≡ n = omega arith in
    ap length (get_or_from_slice_get images n w [] (subst (λ (k : ℕ). slice_get images k ≡ Some w) place e))
letter_image-length images (negsuc n) w m h e =
    let place : suc n - 1 ≡ n = omega arith in
    length-inv (get_or images n []) ∙ ap length (get_or_from_slice_get images n w [] (subst (λ (k : ℕ). slice_get images k ≡ Some w) place e))

-- images that are at most so long
letter_image-most : (most : ℕ) (images : List (List ℤ)) (x : ℤ) → AllByRecursion (λ image. length image ≤ most) images → length (letter_image images x) ≤ most
letter_image-most most images (pos zero) h = omega arith
letter_image-most most images (pos (suc n)) h = at_place (λ image. length image ≤ most) (omega arith) images n h
letter_image-most most images (negsuc n) h =
    omega (arith, length-inv (get_or images n []), at_place (λ image. length image ≤ most) (omega arith) images n h)

pub image-most : (most : ℕ) (images : List (List ℤ)) (w : List ℤ) → AllByRecursion (λ image. length image ≤ most) images → length (image_of images w) ≤ most * length w
image-most most images [] h = omega arith
image-most most images (x ∷ w) h =
    omega (arith, length-append (letter_image images x) (image_of images w), letter_image-most most images x h, image-most most images w h, mul-suc most (length w))

-- the sum of the lengths of the images of the letters before a place, and of one more
pub record Counts (images : List (List ℤ)) (w : List ℤ) (i sum : ℕ) : Type 0 where
  pub within : i < length w
  pub sum_is : sum ≡ length (image_of images (take i w))

pub count_next : (images : List (List ℤ)) (w : List ℤ) (i sum : ℕ) (x : ℤ) (image : List ℤ) → Counts images w i sum → IsOver (length images) w → x ≡ get_or w i x → slice_get images (nat_abs x - 1) ≡ Some image
    → sum + length image ≡ length (image_of images (take (i + 1) w))
count_next images w i sum x image h over e s =
    let letter : IsLetterOf (length images) x = subst (λ (y : ℤ). IsLetterOf (length images) y) (sym e) (All-from_recursion (IsLetterOf (length images)) w over i x h.within) in
    omega (arith, h.sum_is, ap length (image_next images w i x h.within e), length-append (image_of images (take i w)) (letter_image images x), letter_image-length images x image (length images) letter s)
