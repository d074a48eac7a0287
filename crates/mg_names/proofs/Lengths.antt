-- How long words are, written out, and over which generators they are.
use Rattle.std.proofs.Common.{◌≡◌, ℕ, zero, suc, ◌+◌, ◌*◌, ◌<◌, ◌≤◌, ℤ, nat_abs, Bool, true, false, Option, Some, None, IfSome, if◌then◌else◌, List, [], ◌∷◌, ◌++◌, length, refl, ap, ◌∙◌, arith, length-append}
use Rattle.mg_terms.specs.Event.{Event, AreWithin, base_events, factor_events, word_events}
use Rattle.mg_terms.specs.Word.{base_letters, factor_letters, word_letters}
use Rattle.mg_words.specs.Word.{power_of, commutator_of, IsOver}
use Rattle.mg_words.proofs.Chains.{length-inv, length-power_of, IsOver-append, IsOver-power_of, IsOver-commutator_of}
use Rattle.mg_names.specs.Named.{Base, named, one, round, commutator, Factor, bare, power, Word, single, times, plain_base, plain_factor, plain_word}
use Rattle.mg_names.specs.Scope.{same_text, generator_place, next_place}
use Rattle.mg_names.specs.Meaning.{signed, letter_at, base_written, factor_written, written}
use Rattle.mg_names.specs.Reads.{BaseFits, FactorFits, WordFits}

abs_signed : (negative : Bool) (n : ℕ) → nat_abs (signed negative n) ≡ n
abs_signed false n = refl
abs_signed true zero = refl
abs_signed true (suc n) = refl

length_power : (negative : Bool) (n : ℕ) (w : List ℤ) → length (power_of (signed negative n) w) ≡ length w * n
length_power negative n w = length-power_of (signed negative n) w ∙ ap (λ (k : ℕ). length w * k) (abs_signed negative n)

length_commutator : (u v : List ℤ) → length (commutator_of u v) ≡ 2 * (length u + length v)
length_commutator u v = let e = length-inv u in let f = length-inv v in simp length-append (omega arith)

length_letter : (o : Option ℕ) → length (letter_at o) ≤ 1
length_letter None = omega arith
length_letter (Some i) = omega arith

mutual
  pub base_length : (gs : List (List ℕ)) (b : Base) → length (base_written gs b) ≤ base_letters (plain_base b)
  base_length gs (named n) = length_letter (generator_place gs n.text)
  base_length gs one = omega arith
  base_length gs (round w) = word_length gs w
  base_length gs (commutator u v) =
      let h = word_length gs u in let k = word_length gs v in let e = length_commutator (written gs u) (written gs v) in omega arith

  pub factor_length : (gs : List (List ℕ)) (f : Factor) → length (factor_written gs f) ≤ factor_letters (plain_factor f)
  factor_length gs (bare b) = base_length gs b
  factor_length gs (power b negative n) =
      let e = length_power negative n (base_written gs b) in
      let h : length (base_written gs b) * n ≤ base_letters (plain_base b) * n = more (length (base_written gs b)) (base_letters (plain_base b)) n (base_length gs b) in
      omega arith
    where
      more : (x y n : ℕ) → x ≤ y → x * n ≤ y * n
      more x y n h = grind arith

  pub word_length : (gs : List (List ℕ)) (w : Word) → length (written gs w) ≤ word_letters (plain_word w)
  word_length gs (single f) = factor_length gs f
  word_length gs (times w star f) =
      let h = word_length gs w in let k = factor_length gs f in let e = length-append (written gs w) (factor_written gs f) in omega arith

-- all events of a word are within the limits, and so each power is
left_of : (xs ys : List Event) → AreWithin (xs ++ ys) → AreWithin xs
left_of [] ys h = tt
left_of (x ∷ xs) ys h = (h.0, left_of xs ys h.1)

right_of : (xs ys : List Event) → AreWithin (xs ++ ys) → AreWithin ys
right_of [] ys h = h
right_of (x ∷ xs) ys h = right_of xs ys h.1

mutual
  base_fits : (k d : ℕ) (b : Base) → AreWithin (base_events k d (plain_base b)) → BaseFits b
  base_fits k d (named n) h = tt
  base_fits k d one h = tt
  base_fits k d (round w) h = word_fits (k + 1) (d + 1) w (left_of (word_events (k + 1) (d + 1) (plain_word w)) _ h.1)
  base_fits k d (commutator u v) h = (
    word_fits (k + 1) (d + 1) u (left_of (word_events (k + 1) (d + 1) (plain_word u)) _ h.1),
    word_fits _ (d + 1) v (left_of (word_events _ (d + 1) (plain_word v)) _ (right_of (word_events (k + 1) (d + 1) (plain_word u)) _ h.1)),
  )

  factor_fits : (k d : ℕ) (f : Factor) → AreWithin (factor_events k d (plain_factor f)) → FactorFits f
  factor_fits k d (bare b) h = base_fits k d b h
  factor_fits k d (power b negative n) h =
      (base_fits k d b (left_of (base_events k d (plain_base b)) _ h), (right_of (base_events k d (plain_base b)) _ h).0)

  pub word_fits : (k d : ℕ) (w : Word) → AreWithin (word_events k d (plain_word w)) → WordFits w
  word_fits k d (single f) h = factor_fits k d f (left_of (factor_events k d (plain_factor f)) _ h)
  word_fits k d (times w star f) h = (
    word_fits k d w (left_of (word_events k d (plain_word w)) _ h),
    factor_fits _ d f (left_of (factor_events _ d (plain_factor f)) _ (right_of (word_events k d (plain_word w)) _ h)),
  )

-- words are over the generators that name their letters
abbrev IsBelow : ℕ → Option ℕ → Type 0
IsBelow m o = IfSome o (λ i. i < m)

below_next : (m : ℕ) (o : Option ℕ) → IsBelow m o → IsBelow (suc m) (next_place o)
below_next m None h = tt
below_next m (Some i) h = omega arith

pub place_below : (gs : List (List ℕ)) (text : List ℕ) → IsBelow (length gs) (generator_place gs text)
place_below [] text = tt
place_below (g ∷ gs) text =
    elim (same_text g text) as (λ (b : Bool). IsBelow (suc (length gs)) (if b then Some 0 else next_place (generator_place gs text))) [
      | true ↦ omega arith
      | false ↦ below_next (length gs) (generator_place gs text) (place_below gs text)
    ]

pub letter_over : (m : ℕ) (o : Option ℕ) → IsBelow m o → IsOver m (letter_at o)
letter_over m None h = tt
letter_over m (Some i) h = (record { least = omega arith; most = omega arith }, tt)

mutual
  base_over : (gs : List (List ℕ)) (b : Base) → IsOver (length gs) (base_written gs b)
  base_over gs (named n) = letter_over (length gs) (generator_place gs n.text) (place_below gs n.text)
  base_over gs one = tt
  base_over gs (round w) = word_over gs w
  base_over gs (commutator u v) = IsOver-commutator_of (length gs) (written gs u) (written gs v) (word_over gs u) (word_over gs v)

  factor_over : (gs : List (List ℕ)) (f : Factor) → IsOver (length gs) (factor_written gs f)
  factor_over gs (bare b) = base_over gs b
  factor_over gs (power b negative n) = IsOver-power_of (length gs) (signed negative n) (base_written gs b) (base_over gs b)

  pub word_over : (gs : List (List ℕ)) (w : Word) → IsOver (length gs) (written gs w)
  word_over gs (single f) = factor_over gs f
  word_over gs (times w star f) = IsOver-append (length gs) (written gs w) (factor_written gs f) (word_over gs w) (factor_over gs f)
