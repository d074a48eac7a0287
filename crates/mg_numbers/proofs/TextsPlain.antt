-- Turns of a search that tests the numbers from 1 in order, one after another.
use Rattle.std.proofs.Common.{◌≡◌, ℕ, ◌+◌, ◌-◌, ◌<◌, inl, inr, arith}
use Rattle.std.proofs.lemmas.Bool.{cases_lt, cases_order}
use Rattle.mg_numbers.specs.Plain.{NoneAmong, First, TestsAll, FindsFirst, PassesNone}

module _ (P : ℕ → Type 0) where
  -- nothing lies above n and up to n
  pub none_at_start : (n : ℕ) → NoneAmong P n n
  none_at_start n k low high holds = omega arith

  -- two stretches, one after the other
  pub none_joined : (a b c : ℕ) → NoneAmong P a b → NoneAmong P b c → NoneAmong P a c
  none_joined a b c left right k low high holds =
      elim (cases_lt b k) [ inl above ↦ right k above high holds | inr below ↦ left k low below holds ]

  -- a turn that tests all of its units leaves none up to the new cursor
  pub none_after_all : (cursor units spent : ℕ) → NoneAmong P 0 cursor → TestsAll P cursor units spent → NoneAmong P 0 (cursor + spent)
  none_after_all cursor units spent before turn = none_joined 0 cursor (cursor + spent) before turn.none

  -- a turn that ends early passes over none either
  pub none_after_passing : (cursor units spent : ℕ) → NoneAmong P 0 cursor → PassesNone P cursor units spent → NoneAmong P 0 (cursor + spent)
  none_after_passing cursor units spent before turn = none_joined 0 cursor (cursor + spent) before turn.none

  -- what a turn finds is the least of all numbers, where there was none up to its cursor
  pub first_found : (cursor units spent : ℕ) → NoneAmong P 0 cursor → FindsFirst P cursor units spent → First P (cursor + spent)
  first_found cursor units spent before turn = record {
    from = omega (arith, turn.some);
    holds = turn.holds;
    least = λ k from below holds. none_joined 0 cursor (cursor + spent - 1) before turn.none_before k from (omega (arith, turn.some)) holds;
  }

  -- where there is none up to a number, the least is above it
  pub first_above : (cursor n : ℕ) → NoneAmong P 0 cursor → First P n → cursor < n
  first_above cursor n before first =
      elim (cases_lt cursor n) [ inl above ↦ above | inr below ↦ absurd (before n first.from below first.holds) ]

  -- there is one least number
  pub first_unique : (m n : ℕ) → First P m → First P n → m ≡ n
  first_unique m n a b =
      elim (cases_order m n) [
        | inl same ↦ same
        | inr rest ↦ elim rest [ inl below ↦ absurd (b.least m a.from below a.holds) | inr above ↦ absurd (a.least n b.from above b.holds) ]
      ]

-- the same for a property that each number with the first one has
pub first_alike : (P Q : ℕ → Type 0) → ((k : ℕ) → P k → Q k) → ((k : ℕ) → Q k → P k) → (n : ℕ) → First P n → First Q n
first_alike P Q there back n first = record {
  from = first.from;
  holds = there n first.holds;
  least = λ k from below holds. first.least k from below (back k holds);
}
