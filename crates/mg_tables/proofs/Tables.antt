-- Tables as lists: their columns, and that tables with the same entries are equal.
use Rattle.std.proofs.Common.{◌≡◌, ℕ, zero, suc, ◌+◌, ◌*◌, ◌<◌, ◌≤◌, ℤ, pos, negsuc, [], length, get_or, None, refl, sym, subst, ◌∙◌, arith}
use Rattle.std.specs.Prelude.{nat_abs}
use Rattle.std.proofs.lemmas.List.{same_lists, get_or_default}
use Rattle.mg_words.specs.Letter.{IsLetterOf}
use Rattle.mg_tables.specs.Table.{Table, column, entry, IsTable}

-- the letter of a column
pub letter_of : (i : ℕ) → (x : ℤ) × (column x ≡ i) × (1 ≤ nat_abs x) × (2 * nat_abs x ≤ i + 2)
letter_of zero = (pos 1, refl, omega arith, omega arith)
letter_of (suc zero) = (negsuc 0, refl, omega arith, omega arith)
letter_of (suc (suc i)) = next i (letter_of i)
  where
    next : (i : ℕ) → ((x : ℤ) × (column x ≡ i) × (1 ≤ nat_abs x) × (2 * nat_abs x ≤ i + 2)) → (x : ℤ) × (column x ≡ suc (suc i)) × (1 ≤ nat_abs x) × (2 * nat_abs x ≤ suc (suc i) + 2)
    next i (pos zero, e, least, most) = absurd (omega (arith, least))
    next i (pos (suc n), e, least, most) = (pos (suc (suc n)), omega (arith, e), omega arith, omega (arith, most))
    next i (negsuc n, e, least, most) = (negsuc (suc n), omega (arith, e), omega arith, omega (arith, most))

pub letter_at : (m i : ℕ) → i < 2 * m → (x : ℤ) × IsLetterOf m x × (column x ≡ i)
letter_at m i h =
    let a : (x : ℤ) × (column x ≡ i) × (1 ≤ nat_abs x) × (2 * nat_abs x ≤ i + 2) = letter_of i in
    (a.0, record { least = a.2; most = omega (arith, a.3) }, a.1)

pub column-below : (m : ℕ) (x : ℤ) → IsLetterOf m x → column x < 2 * m
column-below m (pos zero) h = absurd (omega (arith, h.least))
column-below m (pos (suc n)) h = omega (arith, h.most)
column-below m (negsuc n) h = omega (arith, h.most)

-- tables with the same entries
pub same_tables : (m : ℕ) (s t : Table) → IsTable m s → IsTable m t → length s ≡ length t → ((c : ℕ) (x : ℤ) → c < length s → IsLetterOf m x → entry s c x ≡ entry t c x) → s ≡ t
same_tables m s t hs ht e h =
    same_lists s t e (λ c d below.
    get_or_default s c d [] below ∙ (same_row c below ∙ get_or_default t c [] d (omega arith)))
  where
    same_row : (c : ℕ) → c < length s → get_or s c [] ≡ get_or t c []
    same_row c below =
        let w : length (get_or s c []) ≡ 2 * m = hs.width c below in
        let v : length (get_or t c []) ≡ 2 * m = ht.width c (omega arith) in
        same_lists (get_or s c []) (get_or t c []) (w ∙ sym v) (λ i d lt.
        let l : (x : ℤ) × IsLetterOf m x × (column x ≡ i) = letter_at m i (omega arith) in
        get_or_default (get_or s c []) i d None lt
        ∙ (subst (λ k. get_or (get_or s c []) k None ≡ get_or (get_or t c []) k None) l.2 (h c l.0 below l.1)
        ∙ get_or_default (get_or t c []) i None d (omega arith)))
