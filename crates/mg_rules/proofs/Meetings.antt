-- Where two left sides meet: parts of words that are the same, and how far away that can be.
use Rattle.std.proofs.Common.{◌≡◌, ◌≢◌, ℕ, ◌+◌, ◌<◌, ◌≤◌, ℤ, List, ◌++◌, length, take, drop, refl, sym, ap, ◌∙◌, inl, inr, arith}
use Rattle.std.proofs.lemmas.List.{length-append, length-take-le, length-drop, take-append-drop, take_at, drop_at}
use Rattle.mg_rules.specs.Meeting.{Overlaps, Includes, MeetAt}
use Rattle.mg_rules.proofs.Parts.{some_length, from_length}

pub includes_from : (first second : List ℤ) (place : ℕ) → place ≤ length first → take (length second) (drop place first) ≡ second → Includes first second place
includes_from first second place within same = record {
  a = take place first;
  c = drop (length second) (drop place first);
  left_first = sym (take-append-drop place first) ∙ ap (λ t. take place first ++ t) (sym (take-append-drop (length second) (drop place first)) ∙ ap (λ t. t ++ drop (length second) (drop place first)) same);
  at_place = length-take-le place first within;
}

pub includes_to : (first second : List ℤ) (place : ℕ) → Includes first second place → take (length second) (drop place first) ≡ second
includes_to first second place i =
    ap (λ t. take (length second) (drop place t)) i.left_first ∙ (ap (take (length second)) (drop_at i.a (second ++ i.c) place i.at_place) ∙ take_at second i.c (length second) refl)

pub overlaps_from : (first second : List ℤ) (place : ℕ) → 0 < place → place ≤ length first → 0 < length (drop place first) → length (drop place first) < length second
    → drop place first ≡ take (length (drop place first)) second → Overlaps first second place
overlaps_from first second place some within rest shorter same =
    let n : ℕ = length (drop place first) in
    record {
      a = take place first;
      b = drop place first;
      c = drop n second;
      some_a = from_length (take place first) (omega (arith, length-take-le place first within));
      some_b = from_length (drop place first) rest;
      some_c = from_length (drop n second) (omega (arith, length-drop n second));
      left_first = sym (take-append-drop place first);
      left_second = sym (take-append-drop n second) ∙ ap (λ t. t ++ drop n second) (sym same);
      at_place = length-take-le place first within;
    }

pub overlaps_to : (first second : List ℤ) (place : ℕ) → Overlaps first second place → drop place first ≡ take (length (drop place first)) second
overlaps_to first second place o =
    let rest : drop place first ≡ o.b = ap (drop place) o.left_first ∙ drop_at o.a o.b place o.at_place in
    rest ∙ sym (ap (λ t. take (length t) second) rest ∙ (ap (take (length o.b)) o.left_second ∙ take_at o.b o.c (length o.b) refl))

-- how long the parts of an overlap are
pub record OverlapSizes (first second : List ℤ) (place : ℕ) : Type 0 where
  pub some : 0 < place
  pub within : place < length first
  pub out : length first < place + length second

pub overlap_sizes : (first second : List ℤ) (place : ℕ) → Overlaps first second place → OverlapSizes first second place
overlap_sizes first second place o =
    let one : length first ≡ place + length o.b = ap length o.left_first ∙ (length-append o.a o.b ∙ ap (λ k. k + length o.b) o.at_place) in
    let other : length second ≡ length o.b + length o.c = ap length o.left_second ∙ length-append o.b o.c in
    let some_a : 0 < place = omega (arith, some_length o.a o.some_a, o.at_place) in
    record {
      some = some_a;
      within = omega (arith, one, some_length o.b o.some_b);
      out = omega (arith, one, other, some_length o.c o.some_c);
    }

pub include_sizes : (first second : List ℤ) (place : ℕ) → Includes first second place → place + length second ≤ length first
include_sizes first second place i =
    omega (arith, ap length i.left_first, length-append i.a (second ++ i.c), length-append second i.c, i.at_place)

-- a meeting is at a place of the first left side, or at its end
pub meet_within : (i j : ℕ) (first second : List ℤ) (place : ℕ) → MeetAt i j first second place → place ≤ length first
meet_within i j first second place (inl o) = omega (arith, (overlap_sizes first second place o).within)
meet_within i j first second place (inr h) = omega (arith, include_sizes first second place h.1)

-- where the second one isn't longer than what is left, only an inclusion can be
pub short_from : (i j : ℕ) (first second : List ℤ) (place : ℕ) → place ≤ length first → i ≢ j → take (length second) (drop place first) ≡ second → MeetAt i j first second place
short_from i j first second place within apart same = inr (apart, includes_from first second place within same)

pub short_to : (i j : ℕ) (first second : List ℤ) (place : ℕ) → place ≤ length first → length second ≤ length (drop place first) → MeetAt i j first second place → take (length second) (drop place first) ≡ second
short_to i j first second place within short (inl o) = absurd (let sizes = overlap_sizes first second place o in omega (arith, sizes.out, length-drop place first))
short_to i j first second place within short (inr h) = includes_to first second place h.1

-- where it is longer, only an overlap can be
pub long_overlaps : (i j : ℕ) (first second : List ℤ) (place : ℕ) → length (drop place first) < length second → MeetAt i j first second place → Overlaps first second place
long_overlaps i j first second place long (inl o) = o
long_overlaps i j first second place long (inr h) = absurd (let size = include_sizes first second place h.1 in omega (arith, size, length-drop place first))
