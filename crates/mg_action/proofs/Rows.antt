-- Permutations that stand one after another: each image has its place, and each list is cut in one way.
use Rattle.std.proofs.Common.{◌≡◌, ℕ, zero, suc, ◌+◌, ◌-◌, ◌*◌, ◌/◌, ◌%◌, ◌<◌, ◌≤◌, ℤ, pos, negsuc, List, [], ◌∷◌, ◌++◌, length, map, get_or, take, drop, replicate, All, refl, sym, ap, subst, ◌∙◌, append_assoc, arith}
use Rattle.std.specs.List.{concat, AllZip}
use Rattle.std.specs.Simd.{first_chunks}
use Rattle.std.proofs.Math.Nat.{suc-mul, mul-div_cancel, add-mod_left, mul-mod_left, mod-eq_of_lt}
use Rattle.std.proofs.Math.Numerals.{add-one}
use Rattle.std.proofs.lemmas.List.{nil_from_length, take-replicate, length-append, length-map, get_or_append_left, get_or-append-add, get_or-map, take_at, drop_at, take_more, append-nil}
use Rattle.std.proofs.lemmas.List.Elements.{All-nil, All-cons, All-replicate, All-head, All-tail, All-get_or, All-weaker, All-map}
use Rattle.std.proofs.lemmas.List.Folds.{concat-append}
use Rattle.mg_words.specs.Letter.{IsLetterOf}
use Rattle.mg_numbers.specs.Blocks.{Earlier, IsNth}
use Rattle.mg_numbers.specs.Perms.{IsPerm, PermTuple}
use Rattle.mg_numbers.specs.declared.blocks.TheConstants.{MOST_DEGREE}
use Rattle.mg_action.specs.Permutation.{identity, inverse_of}
use Rattle.mg_action.specs.Action.{perm_of_generator, perm_of_letter}
use Rattle.mg_action.specs.Layout.{AreImages, IsKept}
use Rattle.mg_action.proofs.Permutations.{IsPerm-identity, IsPerm-inverse, perm-below}

-- the lists are of one length
abbrev pub AreLong : ℕ → List (List ℕ) → Type 0
AreLong d rows = All (λ (row : List ℕ). length row ≡ d) rows

pub long_perms : (d : ℕ) (perms : List (List ℕ)) → All (IsPerm d) perms → AreLong d perms
long_perms d perms each = All-weaker (IsPerm d) (λ row. length row ≡ d) (λ row p. p.count) perms each

pub length-rows : (d : ℕ) (rows : List (List ℕ)) → AreLong d rows → length (concat rows) ≡ length rows * d
length-rows d [] long = omega arith
length-rows d (row ∷ rows) long =
    omega (arith, length-append row (concat rows), All-head (λ (r : List ℕ). length r ≡ d) row rows long, length-rows d rows (All-tail (λ (r : List ℕ). length r ≡ d) row rows long), suc-mul (length rows) d)

-- the place of an entry of a row
pub place-rows : (d : ℕ) (rows : List (List ℕ)) (n p : ℕ) → AreLong d rows → n < length rows → p < d → n * d + p < length (concat rows)
place-rows d [] n p long h l = absurd (omega arith)
place-rows d (row ∷ rows) zero p long h l = omega (arith, length-append row (concat rows), All-head (λ (r : List ℕ). length r ≡ d) row rows long)
place-rows d (row ∷ rows) (suc n) p long h l =
    omega (arith, length-append row (concat rows), All-head (λ (r : List ℕ). length r ≡ d) row rows long, suc-mul n d, place-rows d rows n p (All-tail (λ (r : List ℕ). length r ≡ d) row rows long) (omega arith) l)

pub at-rows : (d : ℕ) (rows : List (List ℕ)) (n p : ℕ) (e : List ℕ) → AreLong d rows → n < length rows → p < d → get_or (concat rows) (n * d + p) 0 ≡ get_or (get_or rows n e) p 0
at-rows d [] n p e long h l = absurd (omega arith)
at-rows d (row ∷ rows) zero p e long h l =
    let place : 0 * d + p ≡ p = omega arith in
    ap (λ k. get_or (row ++ concat rows) k 0) place ∙ get_or_append_left row (concat rows) 0 p (omega (arith, All-head (λ (r : List ℕ). length r ≡ d) row rows long))
at-rows d (row ∷ rows) (suc n) p e long h l =
    let place : suc n * d + p ≡ length row + (n * d + p) = omega (arith, suc-mul n d, All-head (λ (r : List ℕ). length r ≡ d) row rows long) in
    ap (λ k. get_or (row ++ concat rows) k 0) place ∙ get_or-append-add row (concat rows) (n * d + p) 0 ∙ at-rows d rows n p e (All-tail (λ (r : List ℕ). length r ≡ d) row rows long) (omega arith) l

-- a degree and image lists
abbrev pub tuple : ℕ → List (List ℕ) → PermTuple
tuple d perms = record { degree = d; images = perms }

-- rows in a row are cut into the rows
pub cut-rows : (d : ℕ) (rows : List (List ℕ)) → AreLong d rows → first_chunks d (length rows) (concat rows) ≡ rows
cut-rows d [] long = refl
cut-rows d (row ∷ rows) long =
    let e = All-head (λ (r : List ℕ). length r ≡ d) row rows long in
    let first : take d (row ++ concat rows) ≡ row = take_at row (concat rows) d e in
    let rest : drop d (row ++ concat rows) ≡ concat rows = drop_at row (concat rows) d e in
    let others = cut-rows d rows (All-tail (λ (r : List ℕ). length r ≡ d) row rows long) in
    cc

-- An image of a letter stands at this place of a list.
pub record StandsAt (action : PermTuple) (x : ℤ) (point place : ℕ) (list : List ℕ) : Type 0 where
  pub there : place < length list
  pub image : get_or list place 0 ≡ get_or (perm_of_letter action x) point 0
  pub below : get_or list place 0 < action.degree

pub generator_is : (action : PermTuple) (g : ℕ) → 1 ≤ g → perm_of_generator action g ≡ get_or action.images (g - 1) (identity action.degree)
generator_is action zero h = absurd (omega arith)
generator_is action (suc n) h =
    let e : suc n - 1 ≡ n = omega arith in
    ap (λ k. get_or action.images k (identity action.degree)) (sym e)

forward : (action : PermTuple) (m : ℕ) (images inverses : List ℕ) (r s : ℕ) → IsKept action m images inverses r s → (g p : ℕ) → 1 ≤ g → g ≤ length action.images → p < action.degree → StandsAt action (pos g) p ((g - 1) * action.degree + p) images
forward action m images inverses r s kept g p least most l =
    let d = action.degree in
    let long = long_perms d action.images kept.perms.perms in
    let perm : IsPerm d (get_or action.images (g - 1) (identity d)) = All-get_or (IsPerm d) action.images (g - 1) (identity d) (omega arith) kept.perms.perms in
    let at : get_or images ((g - 1) * d + p) 0 ≡ get_or (get_or action.images (g - 1) (identity d)) p 0 = ap (λ w. get_or w ((g - 1) * d + p) 0) (sym kept.joined) ∙ at-rows d action.images (g - 1) p (identity d) long (omega arith) l in
    record {
      there = omega (arith, place-rows d action.images (g - 1) p long (omega arith) l, ap length kept.joined);
      image = at ∙ ap (λ w. get_or w p 0) (sym (generator_is action g least));
      below = omega (arith, at, perm-below d (get_or action.images (g - 1) (identity d)) perm p l);
    }

back : (action : PermTuple) (m : ℕ) (images inverses : List ℕ) (r s : ℕ) → IsKept action m images inverses r s → (n p : ℕ) → n < length action.images → p < action.degree → StandsAt action (negsuc n) p (n * action.degree + p) inverses
back action m images inverses r s kept n p h l =
    let d = action.degree in
    let rows = map inverse_of action.images in
    let perms : All (IsPerm d) rows = All-map (IsPerm d) inverse_of action.images (All-weaker (IsPerm d) (λ xs. IsPerm d (inverse_of xs)) (IsPerm-inverse d) action.images kept.perms.perms) in
    let long = long_perms d rows perms in
    let in_rows : n < length rows = omega (arith, length-map action.images inverse_of) in
    let row : get_or rows n [] ≡ inverse_of (get_or action.images n (identity d)) = get_or-map inverse_of action.images n (identity d) [] h in
    let at : get_or inverses (n * d + p) 0 ≡ get_or (get_or rows n []) p 0 = ap (λ w. get_or w (n * d + p) 0) (sym kept.back) ∙ at-rows d rows n p [] long in_rows l in
    record {
      there = omega (arith, place-rows d rows n p long in_rows l, ap length kept.back);
      image = at ∙ ap (λ w. get_or w p 0) row;
      below = omega (arith, at, perm-below d (get_or rows n []) (All-get_or (IsPerm d) rows n [] in_rows perms) p l);
    }

-- the same of a letter by its fields
pub forward_letter : (view action : PermTuple) → view ≡ action → (m : ℕ) (images inverses : List ℕ) (r s : ℕ) → IsKept view m images inverses r s → (g p : ℕ) (x : ℤ) → pos g ≡ x → 1 ≤ g → IsLetterOf (length action.images) x → p < action.degree → StandsAt action x p ((g - 1) * view.degree + p) images
forward_letter view action e m images inverses r s kept g p x is least letter l =
    let most : g ≤ length action.images = (subst (IsLetterOf (length action.images)) (sym is) letter).most in
    subst (λ y. StandsAt action y p ((g - 1) * view.degree + p) images) is
    (subst (λ a. StandsAt action (pos g) p ((g - 1) * a.degree + p) images) (sym e) (forward action m images inverses r s (subst (λ a. IsKept a m images inverses r s) e kept) g p least most l))

pub back_letter : (view action : PermTuple) → view ≡ action → (m : ℕ) (images inverses : List ℕ) (r s : ℕ) → IsKept view m images inverses r s → (g p : ℕ) (x : ℤ) → negsuc (g - 1) ≡ x → 1 ≤ g → IsLetterOf (length action.images) x → p < action.degree → StandsAt action x p ((g - 1) * view.degree + p) inverses
back_letter view action e m images inverses r s kept g p x is least letter l =
    let most : suc (g - 1) ≤ length action.images = (subst (IsLetterOf (length action.images)) (sym is) letter).most in
    subst (λ y. StandsAt action y p ((g - 1) * view.degree + p) inverses) is
    (subst (λ a. StandsAt action (negsuc (g - 1)) p ((g - 1) * a.degree + p) inverses) (sym e) (back action m images inverses r s (subst (λ a. IsKept a m images inverses r s) e kept) (g - 1) p (omega arith) l))

-- the first row, and what stands behind it
pub record FirstRow (rows : List (List ℕ)) (x after : List ℕ) : Type 0 where
  pub tail : List (List ℕ)
  pub shape : rows ≡ x ∷ tail
  pub rest : concat tail ≡ after

pub first_row : (d : ℕ) (rows : List (List ℕ)) (x after : List ℕ) → 1 ≤ d → AreLong d rows → concat rows ≡ x ++ after → length x ≡ d → FirstRow rows x after
first_row d [] x after points long joined e = absurd (omega (arith, ap length joined, length-append x after))
first_row d (row ∷ rows) x after points long joined e =
    let f = All-head (λ (r : List ℕ). length r ≡ d) row rows long in
    let same : row ≡ x = sym (take_at row (concat rows) d f) ∙ ap (take d) joined ∙ take_at x after d e in
    record {
      tail = rows;
      shape = ap (λ r. r ∷ rows) same;
      rest = sym (drop_at row (concat rows) d f) ∙ ap (drop d) joined ∙ drop_at x after d e;
    }

no_rows : (d : ℕ) (rows : List (List ℕ)) → 1 ≤ d → AreLong d rows → concat rows ≡ [] → rows ≡ []
no_rows d [] points long same = refl
no_rows d (row ∷ rows) points long same =
    absurd (omega (arith, ap length same, length-append row (concat rows), All-head (λ (r : List ℕ). length r ≡ d) row rows long))

subst_tail : (d : ℕ) (rows : List (List ℕ)) (x : List ℕ) (tail : List (List ℕ)) → AreLong d rows → rows ≡ x ∷ tail → AreLong d tail
subst_tail d rows x tail long shape = All-tail (λ (r : List ℕ). length r ≡ d) x tail (subst (AreLong d) shape long)

-- rows in a row are cut in one way
pub rows_unique : (d : ℕ) (rows others : List (List ℕ)) → 1 ≤ d → AreLong d rows → AreLong d others → concat rows ≡ concat others → rows ≡ others
rows_unique d rows [] points long also same = no_rows d rows points long same
rows_unique d rows (x ∷ others) points long also same =
    let first = first_row d rows x (concat others) points long same (All-head (λ (r : List ℕ). length r ≡ d) x others also) in
    first.shape ∙ ap (λ t. x ∷ t) (rows_unique d first.tail others points (subst_tail d rows x first.tail long first.shape) (All-tail (λ (r : List ℕ). length r ≡ d) x others also) first.rest)

-- a permutation more at a place more
zip_push : (R : ℕ → List ℕ → Type 0) (places : List ℕ) (perms : List (List ℕ)) (place : ℕ) (perm : List ℕ) → AllZip R places perms → R place perm → AllZip R (places ++ place ∷ []) (perms ++ perm ∷ [])
zip_push R [] [] place perm h r = (r, tt)
zip_push R [] (x ∷ perms) place perm h r = absurd h
zip_push R (n ∷ places) [] place perm h r = absurd h
zip_push R (n ∷ places) (x ∷ perms) place perm h r = (h.0, zip_push R places perms place perm h.1 r)

pub perm_more : (d : ℕ) (places : List ℕ) (i : ℕ) (perms : List (List ℕ)) (perm : List ℕ) → i < length places → AllZip (λ n p. IsNth (IsPerm d) Earlier (n + 1) p) (take i places) perms → IsNth (IsPerm d) Earlier (get_or places i 0 + 1) perm
    → AllZip (λ n p. IsNth (IsPerm d) Earlier (n + 1) p) (take (i + 1) places) (perms ++ perm ∷ [])
perm_more d places i perms perm h each one =
    subst (λ ns. AllZip (λ n p. IsNth (IsPerm d) Earlier (n + 1) p) ns (perms ++ perm ∷ [])) (sym (take_more places i 0 h)) (zip_push (λ n p. IsNth (IsPerm d) Earlier (n + 1) p) (take i places) perms (get_or places i 0) perm each one)

pub joined_more : (perms : List (List ℕ)) (perm : List ℕ) → concat (perms ++ perm ∷ []) ≡ concat perms ++ perm
joined_more perms perm = concat-append perms (perm ∷ []) ∙ ap (λ t. concat perms ++ t) (append-nil perm)

-- one inverse more
pub inverse_more : (list : List ℕ) (left : List (List ℕ)) (x : List ℕ) (tail : List (List ℕ)) (new : List ℕ) → new ≡ list ++ inverse_of x → left ≡ x ∷ tail → new ++ concat (map inverse_of tail) ≡ list ++ concat (map inverse_of left)
inverse_more list left x tail new e shape =
    ap (λ t. t ++ concat (map inverse_of tail)) e ∙ append_assoc list (inverse_of x) (concat (map inverse_of tail)) ∙ ap (λ t. list ++ concat (map inverse_of t)) (sym shape)

pub length_more : (list perm new : List ℕ) (i d : ℕ) → new ≡ list ++ perm → length list ≡ i * d → length perm ≡ d → length new ≡ (i + 1) * d
length_more list perm new i d e f g = omega (arith, ap length e, length-append list perm, f, g, suc-mul i d, ap (λ n. n * d) (add-one i))

-- the first permutation, and those behind it
pub record FirstPerm (d : ℕ) (perms : List (List ℕ)) (x after : List ℕ) : Type 0 where
  pub tail : List (List ℕ)
  pub shape : perms ≡ x ∷ tail
  pub rest : concat tail ≡ after
  pub perm : IsPerm d x
  pub others : All (IsPerm d) tail

pub first_perm : (d : ℕ) (perms : List (List ℕ)) (x after : List ℕ) → 1 ≤ d → All (IsPerm d) perms → concat perms ≡ x ++ after → length x ≡ d → FirstPerm d perms x after
first_perm d perms x after points each joined e =
    let first = first_row d perms x after points (long_perms d perms each) joined e in
    let all : All (IsPerm d) (x ∷ first.tail) = subst (All (IsPerm d)) first.shape each in
    record {
      tail = first.tail;
      shape = first.shape;
      rest = first.rest;
      perm = All-head (IsPerm d) x first.tail all;
      others = All-tail (IsPerm d) x first.tail all;
    }

-- the inverses of all, before the first of them is put
pub all_inverses : (d : ℕ) (list : List ℕ) (left perms : List (List ℕ)) → 1 ≤ d → list ≡ [] → All (IsPerm d) left → All (IsPerm d) perms → concat left ≡ concat perms → list ++ concat (map inverse_of left) ≡ concat (map inverse_of perms)
all_inverses d list left perms points none each all same =
    ap (λ t. t ++ concat (map inverse_of left)) none ∙ ap (λ t. concat (map inverse_of t)) (rows_unique d left perms points (long_perms d left each) (long_perms d perms all) same)

-- and after the last
pub no_rows_left : (d : ℕ) (list : List ℕ) (left perms : List (List ℕ)) (rest : List ℕ) → All (IsPerm d) left → concat left ≡ rest → length rest < d → list ++ concat (map inverse_of left) ≡ concat (map inverse_of perms) → list ≡ concat (map inverse_of perms)
no_rows_left d list [] perms rest each joined short done = sym (append-nil list) ∙ done
no_rows_left d list (x ∷ left) perms rest each joined short done =
    absurd (omega (arith, short, ap length joined, length-append x (concat left), (All-head (IsPerm d) x left each).count))

-- how many permutations there are
pub count_images : (d : ℕ) (perms : List (List ℕ)) (xs : List ℕ) → 1 ≤ d → AreImages d perms xs → length perms ≡ length xs / d
count_images d perms xs points are =
    sym (ap (λ n. n / d) (sym (ap length are.joined) ∙ length-rows d perms (long_perms d perms are.each)) ∙ mul-div_cancel (length perms) {n = d} points)

pub cut_images : (d m : ℕ) (perms : List (List ℕ)) (xs : List ℕ) → AreImages d perms xs → length perms ≡ m → first_chunks d m xs ≡ perms
cut_images d m perms xs are count =
    ap (λ n. first_chunks d n xs) (sym count) ∙ ap (first_chunks d (length perms)) (sym are.joined) ∙ cut-rows d perms (long_perms d perms are.each)

-- an action that is seen as these permutations
pub seen_as : (d m : ℕ) (perms : List (List ℕ)) (xs : List ℕ) → AreImages d perms xs → length perms ≡ m → tuple d (first_chunks d m xs) ≡ tuple d perms
seen_as d m perms xs are count = ap (tuple d) (cut_images d m perms xs are count)

-- and what is kept of it
pub kept_images : (d m : ℕ) (perms : List (List ℕ)) (xs inverses : List ℕ) (r s : ℕ) → 1 ≤ d → AreImages d perms xs → length perms ≡ m → inverses ≡ concat (map inverse_of perms) → m * MOST_DEGREE ≤ r → m * MOST_DEGREE ≤ s → IsKept (tuple d (first_chunks d m xs)) m xs inverses r s
kept_images d m perms xs inverses r s points are count back room back_room =
    subst (λ (action : PermTuple). IsKept action m xs inverses r s) (sym (seen_as d m perms xs are count)) (record {
      perms = record { points = points; count = count; perms = are.each };
      joined = are.joined;
      back = sym back;
      room = room;
      back_room = back_room;
    })

-- the permutations at some places
pub placed_perms : (d : ℕ) (places : List ℕ) (perms : List (List ℕ)) → AllZip (λ n p. IsNth (IsPerm d) Earlier (n + 1) p) places perms → All (IsPerm d) perms
placed_perms d [] [] h = All-nil (IsPerm d)
placed_perms d [] (p ∷ perms) h = absurd h
placed_perms d (n ∷ places) [] h = absurd h
placed_perms d (n ∷ places) (p ∷ perms) h = All-cons (IsPerm d) p perms h.0.is (placed_perms d places perms h.1)

pub placed_count : (d : ℕ) (places : List ℕ) (perms : List (List ℕ)) → AllZip (λ n p. IsNth (IsPerm d) Earlier (n + 1) p) places perms → length perms ≡ length places
placed_count d [] [] h = refl
placed_count d [] (p ∷ perms) h = absurd h
placed_count d (n ∷ places) [] h = absurd h
placed_count d (n ∷ places) (p ∷ perms) h = ap suc (placed_count d places perms h.1)

joined_points : (g : ℕ) → concat (replicate g (0 ∷ [])) ≡ replicate g 0
joined_points zero = refl
joined_points (suc g) = ap (λ t. 0 ∷ t) (joined_points g)

-- so many permutations of one point
pub one_point : (g n : ℕ) → g ≤ n → AreImages 1 (replicate g (0 ∷ [])) (take g (replicate n 0))
one_point g n h = record {
  each = All-replicate (IsPerm 1) g (0 ∷ []) (IsPerm-identity 1);
  joined = joined_points g ∙ sym (take-replicate g n 0 h);
}

-- images are those of permutations where the first ones are, and the others are
abbrev pub Whole : ℕ → List ℕ → Type 0
Whole d xs = (perms : List (List ℕ)) × AreImages d perms xs

pub whole_more : (d : ℕ) (x after rest : List ℕ) → IsPerm d x → rest ≡ x ++ after → Whole d after → Whole d rest
whole_more d x after rest p e whole =
    (x ∷ whole.0, record { each = All-cons (IsPerm d) x whole.0 p whole.1.each; joined = ap (λ t. x ++ t) whole.1.joined ∙ sym e })

pub whole_less : (d : ℕ) (x after rest : List ℕ) → 1 ≤ d → length x ≡ d → rest ≡ x ++ after → Whole d rest → IsPerm d x × Whole d after
whole_less d x after rest points long e whole =
    let first = first_perm d whole.0 x after points whole.1.each (whole.1.joined ∙ e) long in
    (first.perm, (first.tail, record { each = first.others; joined = first.rest }))

pub whole_none : (d : ℕ) (rest : List ℕ) → rest ≡ [] → Whole d rest
whole_none d rest e = ([], record { each = All-nil (IsPerm d); joined = sym e })

-- a number of images that the degree divides, and that is below it, is 0
pub none_left : (d : ℕ) (rest : List ℕ) → length rest % d ≡ 0 → length rest < d → rest ≡ []
none_left d rest whole short = nil_from_length rest (sym (mod-eq_of_lt short) ∙ whole)

pub some_left : (d : ℕ) (x after rest : List ℕ) → length x ≡ d → rest ≡ x ++ after → length rest % d ≡ 0 → length after % d ≡ 0
some_left d x after rest long e whole =
    let sum : length rest ≡ d + length after = ap length e ∙ length-append x after ∙ ap (λ n. n + length after) long in
    sym (add-mod_left d (length after)) ∙ ap (λ n. n % d) (sym sum) ∙ whole

-- a number of images that the degree doesn't divide
pub whole_divides : (d : ℕ) (xs : List ℕ) → Whole d xs → length xs % d ≡ 0
whole_divides d xs whole =
    ap (λ n. n % d) (sym (ap length whole.1.joined) ∙ length-rows d whole.0 (long_perms d whole.0 whole.1.each)) ∙ mul-mod_left (length whole.0) d
