-- The images of a table without an empty entry, cut into one list for each generator, are permutations.
use Rattle.std.proofs.Common.{◌≡◌, ◌≢◌, ℕ, zero, suc, ◌+◌, ◌*◌, ◌<◌, ℤ, pos, List, [], ◌++◌, length, get_or, take, drop, Some, refl, sym, ap, subst, ◌∙◌, arith}
use Rattle.std.specs.List.{concat}
use Rattle.std.specs.Simd.{first_chunks}
use Rattle.std.proofs.Math.Nat.{suc-mul}
use Rattle.std.proofs.lemmas.List.{nil_from_length, length-take, length-drop, take-append-drop, get_or_default}
use Rattle.std.proofs.lemmas.List.Elements.{All-nil, All-cons, All-get_or, All-from_get_or}
use Rattle.mg_words.specs.Letter.{IsLetterOf}
use Rattle.mg_numbers.specs.Perms.{PermTuple, IsPermTuple, IsPerm}
use Rattle.mg_action.specs.Layout.{AreImages}
use Rattle.mg_action.proofs.Rows.{AreLong, at-rows, tuple}
use Rattle.mg_tables.specs.Table.{Table, entry, IsTable, IsComplete}
use Rattle.mg_tables.specs.Enumerating.{AreImages as AreRowImages}
use Rattle.mg_tables.proofs.Complete.{rows_apart}
use Rattle.mg_tables.specs.Enumeration.{Enumerated}
use Rattle.mg_present.specs.Presentation.{Group, IsPresented}
use Rattle.mg_certs.specs.Claim.{action}
use Rattle.mg_certs.specs.Validity.{AcceptedModel}
use Rattle.mg_cosets.specs.Cosets.{IsActionOf}
use Rattle.mg_cosets.proofs.Acting.{table_acts}

cut_count : (d m : ℕ) (xs : List ℕ) → length (first_chunks d m xs) ≡ m
cut_count d zero xs = refl
cut_count d (suc m) xs = ap (λ (j : ℕ). suc j) (cut_count d m (drop d xs))

cut_long : (d m : ℕ) (xs : List ℕ) → length xs ≡ m * d → AreLong d (first_chunks d m xs)
cut_long d zero xs e = All-nil (λ (row : List ℕ). length row ≡ d)
cut_long d (suc m) xs e =
    All-cons (λ (row : List ℕ). length row ≡ d) (take d xs) (first_chunks d m (drop d xs)) (omega (arith, e, suc-mul m d, length-take d xs))
    (cut_long d m (drop d xs) (omega (arith, e, suc-mul m d, length-drop d xs)))

cut_joined : (d m : ℕ) (xs : List ℕ) → length xs ≡ m * d → concat (first_chunks d m xs) ≡ xs
cut_joined d zero xs e = sym (nil_from_length xs (omega (arith, e)))
cut_joined d (suc m) xs e = ap (λ (ys : List ℕ). take d xs ++ ys) (cut_joined d m (drop d xs) (omega (arith, e, suc-mul m d, length-drop d xs))) ∙ take-append-drop d xs

module _ (m : ℕ) (t : Table) (xs : List ℕ) (ht : IsTable m t) (are : AreRowImages m t xs) where
  abbrev d : ℕ
  d = length t

  abbrev perms : List (List ℕ)
  perms = first_chunks d m xs

  image_at : (g c : ℕ) → g < m → c < d → entry t c (pos (suc g)) ≡ Some (get_or (get_or perms g []) c 0)
  image_at g c few h =
      are.at g c few h
      ∙ ap Some (ap (λ (ys : List ℕ). get_or ys (g * d + c) 0) (sym (cut_joined d m xs are.count)) ∙ at-rows d perms g c [] (cut_long d m xs are.count) (omega (arith, few, cut_count d m xs)) h)

  letter : (g : ℕ) → g < m → IsLetterOf m (pos (suc g))
  letter g few = record { least = omega arith; most = omega (arith, few) }

  long_at : (g : ℕ) → g < m → length (get_or perms g []) ≡ d
  long_at g few = All-get_or (λ (row : List ℕ). length row ≡ d) perms g [] (omega (arith, few, cut_count d m xs)) (cut_long d m xs are.count)

  differ : (g i j : ℕ) → g < m → i < j → j < d → get_or (get_or perms g []) i 0 ≢ get_or (get_or perms g []) j 0
  differ g i j few before h e =
      let same : i ≡ j = rows_apart m t ht i j (get_or (get_or perms g []) j 0) (pos (suc g)) (letter g few) (image_at g i few (omega (arith, before, h)) ∙ ap Some e) (image_at g j few h) in
      omega (arith, before, same)

  perm_here : (g : ℕ) → g < m → IsPerm d (get_or perms g [])
  perm_here g few = record {
    count = long_at g few;
    below = All-from_get_or (λ x. x < d) (get_or perms g []) 0 (λ c lt.
        ht.rows c (get_or (get_or perms g []) c 0) (pos (suc g)) (letter g few) (image_at g c few (omega (arith, lt, long_at g few))));
    once = λ i j v a b same.
        differ g i j few a (omega (arith, b, long_at g few))
        (get_or_default (get_or perms g []) i 0 v (omega (arith, a, b)) ∙ same ∙ get_or_default (get_or perms g []) j v 0 b);
  }

  pub images_cut : AreImages d perms xs
  images_cut = record {
    each = All-from_get_or (IsPerm d) perms [] (λ g lt. perm_here g (omega (arith, lt, cut_count d m xs)));
    joined = cut_joined d m xs are.count;
  }

  pub images_act : IsActionOf m t (tuple d perms)
  images_act = record { degree = refl; count = cut_count d m xs; images = image_at }

cut_images : (m d : ℕ) (t : Table) (xs : List ℕ) → d ≡ length t → IsTable m t → AreRowImages m t xs → AreImages d (first_chunks (length t) m xs) xs
cut_images m d t xs e ht are = subst (λ n. AreImages n (first_chunks (length t) m xs) xs) (sym e) (images_cut m t xs ht are)

pub some_cut : (m d : ℕ) (t : Table) (xs : List ℕ) → d ≡ length t → IsTable m t → AreRowImages m t xs → (perms : List (List ℕ)) × AreImages d perms xs
some_cut m d t xs e ht are = (first_chunks (length t) m xs, cut_images m d t xs e ht are)

pub action_made : (m d : ℕ) (t : Table) (xs : List ℕ) (act : PermTuple) → d ≡ length t → IsTable m t → AreRowImages m t xs → ((perms : List (List ℕ)) → AreImages d perms xs → act ≡ tuple d perms) → IsActionOf m t act
action_made m d t xs act e ht are made =
    let here : act ≡ tuple (length t) (first_chunks (length t) m xs) =
    made (first_chunks (length t) m xs) (cut_images m d t xs e ht are) ∙ ap (λ n. tuple n (first_chunks (length t) m xs)) e in
    subst (IsActionOf m t) (sym here) (images_act m t xs ht are)

pub model_made : (group : Group) (subgroup : List (List ℤ)) (made : ℕ) (t : Table) (act : PermTuple) → IsPresented group → IsTable group.generators t → Enumerated group subgroup made t → IsComplete group.generators t
    → IsPermTuple (length act.images) act → IsActionOf group.generators t act → AcceptedModel group (action act)
model_made group subgroup made t act presented ht enumerated whole perms is = table_acts group subgroup t ht enumerated.stable whole act perms is presented
