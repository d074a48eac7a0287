-- Products of words with expressions are again words with expressions.
use Rattle.std.proofs.Common.{◌≡◌, ℕ, zero, suc, Bool, true, false, ℤ, pos, negsuc, neg_ℤ, List, [], ◌∷◌, ◌++◌, set, length, get_or, refl, sym, ap, subst, ◌∙◌, inl, inr, append_assoc}
use Rattle.std.specs.List.{AllByRecursion}
use Rattle.mg_words.specs.Word.{inv}
use Rattle.mg_words.specs.Reduction.{cancel, free_form}
use Rattle.mg_words.proofs.Chains.{inv-inv, IsOver-append, IsOver-inv}
use Rattle.mg_words.proofs.Free.{same_or_not, cancel-hit, cancel-miss, IsReduced-free_form, IsReduced-nil, IsReduced-inv, IsOver-free_form, free_form-free_form, free_form-product, free_form-inv, free_form-times_inverse, free_form-inverse_times}
use Rattle.mg_present.specs.Ask.{IsReducedOver}
use Rattle.mg_present.specs.Image.{letter_image, image_of}
use Rattle.mg_present.proofs.Images.{image-append, image-inv}
use Rattle.mg_nielsen.specs.Expressed.{Expressed, empty, turned, times, IsExpressed, IsRestOf, AreRests}
use Rattle.mg_nielsen.specs.Moves.{member_at, trim, trimmed, on_side, stepped, IsSingle, IsFactor, one, two, peeled}

-- a word and its inverse vanish before a word
pub gone_times : (a w : List ℤ) → free_form (a ++ (inv a ++ w)) ≡ free_form w
gone_times a w =
    ap free_form (sym (append_assoc a (inv a) w)) ∙ free_form-product (a ++ inv a) [] w w (free_form-times_inverse a) refl

pub gone_back : (a w : List ℤ) → free_form (inv a ++ (a ++ w)) ≡ free_form w
gone_back a w =
    ap free_form (sym (append_assoc (inv a) a w)) ∙ free_form-product (inv a ++ a) [] w w (free_form-inverse_times a) refl

-- images of freely equal words are freely equal
neg_image : (images : List (List ℤ)) (x : ℤ) → letter_image images (neg_ℤ x) ≡ inv (letter_image images x)
neg_image images (pos zero) = refl
neg_image images (pos (suc n)) = refl
neg_image images (negsuc n) = sym (inv-inv (get_or images n []))

image-cancel : (images : List (List ℤ)) (x : ℤ) (w : List ℤ) → free_form (image_of images (cancel x w)) ≡ free_form (letter_image images x ++ image_of images w)
image-cancel images x [] = refl
image-cancel images x (y ∷ w) =
    elim (same_or_not y (neg_ℤ x)) as (λ _. free_form (image_of images (cancel x (y ∷ w))) ≡ free_form (letter_image images x ++ (letter_image images y ++ image_of images w))) [
      | inl e ↦ ap (λ t. free_form (image_of images t)) (cancel-hit x y w e)
          ∙ sym (ap (λ t. free_form (letter_image images x ++ (t ++ image_of images w))) (ap (letter_image images) e ∙ neg_image images x) ∙ gone_times (letter_image images x) (image_of images w))
      | inr n ↦ ap (λ t. free_form (image_of images t)) (cancel-miss x y w n)
    ]

pub image-form : (images : List (List ℤ)) (u : List ℤ) → free_form (image_of images (free_form u)) ≡ free_form (image_of images u)
image-form images [] = refl
image-form images (x ∷ u) =
    image-cancel images x (free_form u)
    ∙ free_form-product (letter_image images x) (letter_image images x) (image_of images (free_form u)) (image_of images u) refl (image-form images u)

pub image-form_append : (images : List (List ℤ)) (u v : List ℤ) → free_form (image_of images (free_form (u ++ v))) ≡ free_form (image_of images u ++ image_of images v)
image-form_append images u v = image-form images (u ++ v) ∙ ap free_form (image-append images u v)

-- lists of signs
reduced_product : (k : ℕ) (u v : List ℤ) → IsReducedOver k u → IsReducedOver k v → IsReducedOver k (free_form (u ++ v))
reduced_product k u v h l = record { over = IsOver-free_form k (u ++ v) (IsOver-append k u v h.over l.over); reduced = IsReduced-free_form (u ++ v) }

-- expressed words
pub expressed_form : (subgroup : List (List ℤ)) (e : Expressed) → IsExpressed subgroup e → free_form e.word ≡ free_form (image_of subgroup e.signs)
expressed_form subgroup e h = ap free_form h.word ∙ free_form-free_form (image_of subgroup e.signs)

pub expressed_empty : (subgroup : List (List ℤ)) → IsExpressed subgroup empty
expressed_empty subgroup = record { word = refl; signs = record { over = tt; reduced = IsReduced-nil } }

pub expressed_turned : (subgroup : List (List ℤ)) (inverse : Bool) (e : Expressed) → IsExpressed subgroup e → IsExpressed subgroup (turned inverse e)
expressed_turned subgroup false e h = record { word = h.word; signs = h.signs }
expressed_turned subgroup true e h = record {
  word = ap inv h.word ∙ (sym (free_form-inv (image_of subgroup e.signs)) ∙ ap free_form (sym (image-inv subgroup e.signs)));
  signs = record { over = IsOver-inv (length subgroup) e.signs h.signs.over; reduced = IsReduced-inv e.signs h.signs.reduced };
}

pub expressed_times : (subgroup : List (List ℤ)) (a b : Expressed) → IsExpressed subgroup a → IsExpressed subgroup b → IsExpressed subgroup (times a b)
expressed_times subgroup a b h k = record {
  word = free_form-product a.word (image_of subgroup a.signs) b.word (image_of subgroup b.signs) (expressed_form subgroup a h) (expressed_form subgroup b k)
      ∙ sym (image-form_append subgroup a.signs b.signs);
  signs = reduced_product (length subgroup) a.signs b.signs h.signs k.signs;
}

expressed_trim : (subgroup : List (List ℤ)) (word signs : List ℤ) → IsExpressed subgroup (record { word = word; signs = signs }) → IsExpressed subgroup (trim word signs)
expressed_trim subgroup [] signs h = expressed_empty subgroup
expressed_trim subgroup (x ∷ word) signs h = h

pub expressed_trimmed : (subgroup : List (List ℤ)) (e : Expressed) → IsExpressed subgroup e → IsExpressed subgroup (trimmed e)
expressed_trimmed subgroup e h = expressed_trim subgroup e.word e.signs (record { word = h.word; signs = h.signs })

-- what holds of all members and of the default holds at every place
pub all_at_or : {X : Type 0} (P : X → Type 0) (xs : List X) (i : ℕ) (d : X) → P d → AllByRecursion P xs → P (get_or xs i d)
all_at_or P [] i d none h = none
all_at_or P (x ∷ xs) zero d none h = h.0
all_at_or P (x ∷ xs) (suc i) d none h = all_at_or P xs i d none h.1

pub all_set : {X : Type 0} (P : X → Type 0) (xs : List X) (i : ℕ) (y : X) → P y → AllByRecursion P xs → AllByRecursion P (set xs i y)
all_set P [] i y k h = tt
all_set P (x ∷ xs) zero y k h = (k, h.1)
all_set P (x ∷ xs) (suc i) y k h = (h.0, all_set P xs i y k h.1)

pub expressed_at : (subgroup : List (List ℤ)) (members : List Expressed) (place : ℕ) → AllByRecursion (IsExpressed subgroup) members → IsExpressed subgroup (member_at members place)
expressed_at subgroup members place h = all_at_or (IsExpressed subgroup) members place empty (expressed_empty subgroup) h

expressed_side : (subgroup : List (List ℤ)) (left : Bool) (m f : Expressed) → IsExpressed subgroup m → IsExpressed subgroup f → IsExpressed subgroup (on_side left m f)
expressed_side subgroup false m f h k = expressed_times subgroup m f h k
expressed_side subgroup true m f h k = expressed_times subgroup f m k h

pub expressed_stepped : (subgroup : List (List ℤ)) (members : List Expressed) (place other : ℕ) (inverse left : Bool) → AllByRecursion (IsExpressed subgroup) members → IsExpressed subgroup (stepped members place other inverse left)
expressed_stepped subgroup members place other inverse left h =
    expressed_side subgroup left (member_at members place) (turned inverse (member_at members other)) (expressed_at subgroup members place h)
    (expressed_turned subgroup inverse (member_at members other) (expressed_at subgroup members other h))

expressed_single : (subgroup : List (List ℤ)) (members : List Expressed) (p : Expressed) → AllByRecursion (IsExpressed subgroup) members → IsSingle members p → IsExpressed subgroup p
expressed_single subgroup members p h s =
    subst (IsExpressed subgroup) (sym s.is) (expressed_turned subgroup s.inverse (member_at members s.place) (expressed_at subgroup members s.place h))

pub expressed_factor : (subgroup : List (List ℤ)) (members : List Expressed) (p : Expressed) → AllByRecursion (IsExpressed subgroup) members → IsFactor members p → IsExpressed subgroup p
expressed_factor subgroup members p h (one s) = expressed_single subgroup members p h s
expressed_factor subgroup members p h (two a b s t e) =
    subst (IsExpressed subgroup) (sym e) (expressed_times subgroup a b (expressed_single subgroup members a h s) (expressed_single subgroup members b h t))

-- a peeling keeps the goal
pub rest_peeled : (subgroup : List (List ℤ)) (p rest : Expressed) (goal : List ℤ) → IsExpressed subgroup p → IsRestOf subgroup rest goal → IsRestOf subgroup (peeled p rest) goal
rest_peeled subgroup p rest goal h k =
    let t : List ℤ = image_of subgroup rest.signs in
    let s : List ℤ = image_of subgroup p.signs in
    record {
      reduced = IsReduced-free_form (inv p.word ++ rest.word);
      goal_is = k.goal_is ∙ sym (
          free_form-product (image_of subgroup (free_form (rest.signs ++ p.signs))) (t ++ s) (free_form (inv p.word ++ rest.word)) (inv p.word ++ rest.word)
          (image-form_append subgroup rest.signs p.signs) (free_form-free_form (inv p.word ++ rest.word))
          ∙ (ap free_form (append_assoc t s (inv p.word ++ rest.word))
          ∙ free_form-product t t (s ++ (inv p.word ++ rest.word)) rest.word refl
          (free_form-product s p.word (inv p.word ++ rest.word) (inv p.word ++ rest.word) (sym (expressed_form subgroup p h)) refl ∙ gone_times p.word rest.word)));
      signs = reduced_product (length subgroup) rest.signs p.signs k.signs h.signs;
    }

pub rests_set : (subgroup : List (List ℤ)) (p : Expressed) (rests : List Expressed) (goals : List (List ℤ)) (i : ℕ) → IsExpressed subgroup p → AreRests subgroup rests goals → AreRests subgroup (set rests i (peeled p (member_at rests i))) goals
rests_set subgroup p [] [] i h k = tt
rests_set subgroup p [] (goal ∷ goals) i h k = absurd k
rests_set subgroup p (rest ∷ rests) [] i h k = absurd k
rests_set subgroup p (rest ∷ rests) (goal ∷ goals) zero h k = (rest_peeled subgroup p rest goal h k.0, k.1)
rests_set subgroup p (rest ∷ rests) (goal ∷ goals) (suc i) h k = (k.0, rests_set subgroup p rests goals i h k.1)
