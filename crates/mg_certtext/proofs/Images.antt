-- Image lists that stand one after another, with commas between them.
use Rattle.std.proofs.Common.{◌≡◌, ℕ, ◌<◌, ◌≤◌, List, [], ◌∷◌, ◌++◌, length, map, All, sym, ap, ◌∙◌, append_assoc, append-nil, Result, Ok, Err, OnOk, arith}
use Rattle.std.specs.Prelude.{codes}
use Rattle.std.specs.List.{concat}
use Rattle.std.proofs.lemmas.List.Concat.{flat_map-append}
use Rattle.std.proofs.lemmas.List.{length-append}
use Rattle.std.proofs.lemmas.List.Elements.{All-head}
use Rattle.mg_numbers.specs.Perms.{IsPerm}
use Rattle.mg_action.specs.Layout.{AreImages}
use Rattle.mg_action.proofs.Rows.{first_perm, rows_unique, long_perms}
use Rattle.mg_certtext.specs.Pieces.{spaced, more_listed, listed}
use Rattle.mg_certtext.specs.Models.{numbers_pieces}

-- pieces behind others
spaced_more : (written new : List ℕ) (one other : List (List ℕ)) → new ≡ written ++ spaced one → new ++ spaced other ≡ written ++ spaced (one ++ other)
spaced_more written new one other e =
    ap (λ t. t ++ spaced other) e ∙ append_assoc written (spaced one) (spaced other) ∙ ap (λ t. written ++ t) (sym (flat_map-append (λ piece. 32 ∷ piece) one other))

-- one list more behind a comma
pub image_more : (written comma new : List ℕ) (left : List (List ℕ)) (x : List ℕ) (tail : List (List ℕ)) → comma ≡ written ++ spaced (codes "," ∷ []) → new ≡ comma ++ spaced (numbers_pieces x) → left ≡ x ∷ tail →
    new ++ spaced (more_listed (map numbers_pieces tail)) ≡ written ++ spaced (more_listed (map numbers_pieces left))
image_more written comma new left x tail e f shape =
    spaced_more comma new (numbers_pieces x) (more_listed (map numbers_pieces tail)) f
    ∙ spaced_more written comma (codes "," ∷ []) (numbers_pieces x ++ more_listed (map numbers_pieces tail)) e
    ∙ ap (λ lists. written ++ spaced (more_listed (map numbers_pieces lists))) (sym shape)

-- all lists, before the first of them is pushed
pub images_at_start : (d : ℕ) (written : List ℕ) (left perms : List (List ℕ)) → 1 ≤ d → All (IsPerm d) left → All (IsPerm d) perms → concat left ≡ concat perms →
    written ++ spaced (more_listed (map numbers_pieces left)) ≡ written ++ spaced (more_listed (map numbers_pieces perms))
images_at_start d written left perms points each all same =
    ap (λ lists. written ++ spaced (more_listed (map numbers_pieces lists))) (rows_unique d left perms points (long_perms d left each) (long_perms d perms all) same)

-- and after the last
pub images_at_end : (d : ℕ) (written : List ℕ) (left : List (List ℕ)) (rest whole : List ℕ) → All (IsPerm d) left → concat left ≡ rest → length rest < d → written ++ spaced (more_listed (map numbers_pieces left)) ≡ whole → written ≡ whole
images_at_end d written [] rest whole each joined short done = sym (append-nil written) ∙ done
images_at_end d written (x ∷ left) rest whole each joined short done =
    absurd (omega (arith, short, ap length joined, length-append x (concat left), (All-head (IsPerm d) x left each).count))

-- those behind the first
pub behind_first : (d : ℕ) (perms : List (List ℕ)) (xs x after : List ℕ) → 1 ≤ d → AreImages d perms xs → xs ≡ x ++ after → length x ≡ d → (tail : List (List ℕ)) × (perms ≡ x ∷ tail) × AreImages d tail after
behind_first d perms xs x after points are split long =
    let first = first_perm d perms x after points are.each (are.joined ∙ split) long in
    (first.tail, first.shape, record { each = first.others; joined = first.rest })

-- the first list, and those behind it
images_joined : (written new last : List ℕ) (perms : List (List ℕ)) (x : List ℕ) (tail : List (List ℕ)) → new ≡ written ++ spaced (numbers_pieces x) → perms ≡ x ∷ tail → last ≡ new ++ spaced (more_listed (map numbers_pieces tail)) →
    last ≡ written ++ spaced (listed (map numbers_pieces perms))
images_joined written new last perms x tail e shape f =
    f ∙ spaced_more written new (numbers_pieces x) (more_listed (map numbers_pieces tail)) e ∙ ap (λ lists. written ++ spaced (listed (map numbers_pieces lists))) (sym shape)

pub images_listed : {E : Type 0} (r : Result (Unit {0}) E) (d : ℕ) (written new last : List ℕ) (perms : List (List ℕ)) (xs x after : List ℕ) → 1 ≤ d → AreImages d perms xs → xs ≡ x ++ after → length x ≡ d → new ≡ written ++ spaced (numbers_pieces x) →
    ((tail : List (List ℕ)) → AreImages d tail after → OnOk r (last ≡ new ++ spaced (more_listed (map numbers_pieces tail)))) → OnOk r (last ≡ written ++ spaced (listed (map numbers_pieces perms)))
images_listed (Ok u) d written new last perms xs x after points are split long e f =
    let first = behind_first d perms xs x after points are split long in images_joined written new last perms x first.0 e first.1 (f first.0 first.2)
images_listed (Err u) d written new last perms xs x after points are split long e f = tt
