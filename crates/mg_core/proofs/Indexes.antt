-- Lemmas on the index of a log: what a search in it finds, and what an entry more brings.
use Rattle.std.proofs.Common.{◌≡◌, ◌≢◌, ℕ, zero, suc, ◌+◌, ◌<◌, ◌≤◌, List, [], ◌∷◌, ◌++◌, length, map, take, drop, Option, Some, None, Ordering, refl, ap, sym, ◌∙◌, subst, arith, add-one}
use Rattle.std.specs.Prelude.{slice_get, IfSome}
use Rattle.std.specs.List.{AllByRecursion}
use Rattle.std.specs.Cmp.{IsTotalOrder}
use Rattle.std.specs.Ordering.{ordering_reverse}
use Rattle.std.specs.declared.cmp.Ordering.TheVariants.{Less, Equal, Greater}
use Rattle.std.proofs.lemmas.Cmp.{tied_itself}
use Rattle.std.proofs.lemmas.Option.{slice_get_within}
use Rattle.mg_core.specs.Index.{PointsTo, Rising, IsIndexed, IsBetween, FirstAt, IsPlaceOf, NoneSettles, with_place}
use Rattle.mg_core.proofs.Scans.{all_append}
use Rattle.mg_core.proofs.Firsts.{all_get, all_map, all_both, first_more, first_behind}

-- the pair of a place
pub pair_at : {K : Type 0} (pairs : List (K × ℕ)) (i : ℕ) (place : ℕ) → slice_get (map (λ (p : K × ℕ). p.1) pairs) i ≡ Some place → (p : K × ℕ) × (slice_get pairs i ≡ Some p) × (p.1 ≡ place)
pair_at [] i place h = absurd (cc)
pair_at (p ∷ pairs) zero place h = (p, refl, cc)
pair_at (p ∷ pairs) (suc i) place h = pair_at pairs i place h

-- an insert among all of which something holds
pub all_insert : {X : Type 0} (P : X → Type 0) (xs : List X) (at : ℕ) (x : X) → AllByRecursion P xs → P x → AllByRecursion P (take at xs ++ x ∷ drop at xs)
all_insert P xs zero x h p = (p, h)
all_insert P [] (suc at) x h p = (p, tt)
all_insert P (y ∷ xs) (suc at) x h p = (h.0, all_insert P xs at x h.1 p)

pub all_inserted : {X : Type 0} (P : X → Type 0) (xs : List X) (at : ℕ) (x : X) → AllByRecursion P (take at xs ++ x ∷ drop at xs) → AllByRecursion P xs × P x
all_inserted P xs zero x h = (h.1, h.0)
all_inserted P [] (suc at) x h = (tt, h.0)
all_inserted P (y ∷ xs) (suc at) x h =
    let rest = all_inserted P xs at x h.1 in
    ((h.0, rest.0), rest.1)

pub map_insert : {X Y : Type 0} (f : X → Y) (xs : List X) (at : ℕ) (x : X) → map f (take at xs ++ x ∷ drop at xs) ≡ take at (map f xs) ++ f x ∷ drop at (map f xs)
map_insert f xs zero x = refl
map_insert f [] (suc at) x = refl
map_insert f (y ∷ xs) (suc at) x = ap (λ rest. f y ∷ rest) (map_insert f xs at x)

module _ {K : Type 0} (cmp : K → K → Ordering) (total : IsTotalOrder cmp) where
  turned : (a b : K) → cmp a b ≡ Greater → cmp b a ≡ Less
  turned a b e = total.antisymm b a ∙ ap ordering_reverse e

  below_differs : (a b : K) → cmp a b ≡ Less → a ≢ b
  below_differs a b e same =
      let tied = tied_itself total b in
      let moved = subst (λ x. cmp x b ≡ Less) same e in
      cc

  above_differs : (a b : K) → cmp b a ≡ Less → a ≢ b
  above_differs a b e same =
      let tied = tied_itself total b in
      let moved = subst (λ x. cmp b x ≡ Less) same e in
      cc

  pub rising_insert : (pairs : List (K × ℕ)) (at : ℕ) (p : K × ℕ) → Rising cmp pairs → AllByRecursion (λ (q : K × ℕ). cmp q.0 p.0 ≡ Less) (take at pairs) → AllByRecursion (λ (q : K × ℕ). cmp p.0 q.0 ≡ Less) (drop at pairs) → Rising cmp (take at pairs ++ p ∷ drop at pairs)
  rising_insert pairs zero p rising low high = (high, rising)
  rising_insert [] (suc at) p rising low high = (tt, tt)
  rising_insert (q ∷ pairs) (suc at) p rising low high =
      (all_insert (λ (x : K × ℕ). cmp q.0 x.0 ≡ Less) pairs at p rising.0 low.0, rising_insert pairs at p rising.1 low.1 high)

  -- a key below the searched one has only such before it, and one above has only such behind it
  pub below_upto : (pairs : List (K × ℕ)) (i : ℕ) (p : K × ℕ) (key : K) → Rising cmp pairs → slice_get pairs i ≡ Some p → cmp p.0 key ≡ Less → AllByRecursion (λ (q : K × ℕ). cmp q.0 key ≡ Less) (take (suc i) pairs)
  below_upto [] i p key rising there less = absurd (cc)
  below_upto (q ∷ pairs) zero p key rising there less = (let same : q ≡ p = cc in subst (λ (x : K × ℕ). cmp x.0 key ≡ Less) (sym same) less, tt)
  below_upto (q ∷ pairs) (suc i) p key rising there less =
      (total.trans q.0 p.0 key (all_get (λ (x : K × ℕ). cmp q.0 x.0 ≡ Less) pairs i p rising.0 there) less, below_upto pairs i p key rising.1 there less)

  pub above_from : (pairs : List (K × ℕ)) (i : ℕ) (p : K × ℕ) (key : K) → Rising cmp pairs → slice_get pairs i ≡ Some p → cmp p.0 key ≡ Greater → AllByRecursion (λ (q : K × ℕ). cmp key q.0 ≡ Less) (drop i pairs)
  above_from [] i p key rising there greater = absurd (cc)
  above_from (q ∷ pairs) zero p key rising there greater =
      let same : q ≡ p = cc in
      let less = turned q.0 key (subst (λ (x : K × ℕ). cmp x.0 key ≡ Greater) (sym same) greater) in
      (less, all_map (λ (x : K × ℕ). cmp q.0 x.0 ≡ Less) (λ (x : K × ℕ). cmp key x.0 ≡ Less) pairs (λ x more. total.trans key q.0 x.0 less more) rising.0)
  above_from (q ∷ pairs) (suc i) p key rising there greater = above_from pairs i p key rising.1 there greater

  -- where all keys are below or above, none is the searched one
  pub none_between : (pairs : List (K × ℕ)) (i : ℕ) (key : K) → AllByRecursion (λ (q : K × ℕ). cmp q.0 key ≡ Less) (take i pairs) → AllByRecursion (λ (q : K × ℕ). cmp key q.0 ≡ Less) (drop i pairs) → AllByRecursion (λ (q : K × ℕ). q.0 ≢ key) pairs
  none_between pairs zero key low high = all_map (λ (q : K × ℕ). cmp key q.0 ≡ Less) (λ (q : K × ℕ). q.0 ≢ key) pairs (λ q e. above_differs q.0 key e) high
  none_between [] (suc i) key low high = tt
  none_between (q ∷ pairs) (suc i) key low high = (below_differs q.0 key low.0, none_between pairs i key low.1 high)

  module _ {R : Type 0} (settles : R → Option K) (facts : List R) (places : List ℕ) (key : K) where
    -- a search begins with all places
    pub between_all : IsIndexed settles cmp facts places → (high : ℕ) → high ≡ length places → IsBetween settles cmp facts places key 0 high
    between_all index high all = record {
      pairs = index.pairs;
      places_are = index.places_are;
      is_index = index.is_index;
      upto = omega arith;
      within = omega (arith, all);
      below = tt;
      above = past index.pairs high (omega (arith, all, ap length index.places_are, length_places index.pairs));
    }
      where
        length_places : (pairs : List (K × ℕ)) → length (map (λ (p : K × ℕ). p.1) pairs) ≡ length pairs
        length_places [] = refl
        length_places (p ∷ pairs) = ap suc (length_places pairs)

        past : (pairs : List (K × ℕ)) (i : ℕ) → length pairs ≤ i → AllByRecursion (λ (q : K × ℕ). cmp key q.0 ≡ Less) (drop i pairs)
        past [] zero few = tt
        past [] (suc i) few = tt
        past (p ∷ pairs) zero few = absurd (omega arith)
        past (p ∷ pairs) (suc i) few = past pairs i (omega (arith, few))

    -- the key of a place among those that are searched
    pub key_between : (low high i : ℕ) (place : ℕ) → IsBetween settles cmp facts places key low high → slice_get places i ≡ Some place → (k : K) × PointsTo settles facts k place
    key_between low high i place h there =
        let pair = pair_at h.pairs i place (subst (λ ps. slice_get ps i ≡ Some place) h.places_are there) in
        let points = all_get (λ (p : K × ℕ). PointsTo settles facts p.0 p.1) h.pairs i pair.0 h.is_index.points pair.1 in
        (pair.0.0, subst (λ p. PointsTo settles facts pair.0.0 p) pair.2 points)

    pub between_up : (low high i : ℕ) (place : ℕ) → IsBetween settles cmp facts places key low high → i < high → slice_get places i ≡ Some place → ((k : K) → PointsTo settles facts k place → cmp k key ≡ Less) → IsBetween settles cmp facts places key (i + 1) high
    between_up low high i place h small there less =
        let pair = pair_at h.pairs i place (subst (λ ps. slice_get ps i ≡ Some place) h.places_are there) in
        let points = all_get (λ (p : K × ℕ). PointsTo settles facts p.0 p.1) h.pairs i pair.0 h.is_index.points pair.1 in
        let here = less pair.0.0 (subst (λ p. PointsTo settles facts pair.0.0 p) pair.2 points) in
        record {
          pairs = h.pairs;
          places_are = h.places_are;
          is_index = h.is_index;
          upto = omega (arith, small);
          within = h.within;
          below = rw add-one (below_upto h.pairs i pair.0 key h.is_index.rising pair.1 here);
          above = h.above;
        }

    pub between_down : (low high i : ℕ) (place : ℕ) → IsBetween settles cmp facts places key low high → low ≤ i → slice_get places i ≡ Some place → ((k : K) → PointsTo settles facts k place → cmp k key ≡ Greater) → IsBetween settles cmp facts places key low i
    between_down low high i place h small there greater =
        let pair = pair_at h.pairs i place (subst (λ ps. slice_get ps i ≡ Some place) h.places_are there) in
        let points = all_get (λ (p : K × ℕ). PointsTo settles facts p.0 p.1) h.pairs i pair.0 h.is_index.points pair.1 in
        let here = greater pair.0.0 (subst (λ p. PointsTo settles facts pair.0.0 p) pair.2 points) in
        record {
          pairs = h.pairs;
          places_are = h.places_are;
          is_index = h.is_index;
          upto = small;
          within = (let inside = slice_get_within places i place there in omega (arith, inside));
          below = h.below;
          above = above_from h.pairs i pair.0 key h.is_index.rising pair.1 here;
        }

    -- a place whose key ties with the searched one is that of its verdict
    pub found_at : ((a b : K) → cmp a b ≡ Equal → a ≡ b) → (low high i : ℕ) (place : ℕ) → IsBetween settles cmp facts places key low high → slice_get places i ≡ Some place → ((k : K) → PointsTo settles facts k place → cmp k key ≡ Equal) → PointsTo settles facts key place
    found_at exact low high i place h there equal =
        let k = key_between low high i place h there in
        subst (λ x. PointsTo settles facts x place) (exact k.0 key (equal k.0 k.1)) k.1

    -- no fact settles a key that the search misses
    pub missed : (at : ℕ) → IsBetween settles cmp facts places key at at → NoneSettles settles facts key
    missed at h = h.is_index.all key (none_between h.pairs at key h.below h.above)

  module _ {R : Type 0} (settles : R → Option K) (facts records : List R) where
    points_more : (key : K) (place : ℕ) → PointsTo settles facts key place → PointsTo settles (facts ++ records) key place
    points_more key place h = record { verdict = h.verdict; is_first = first_more settles facts records key place h.verdict h.is_first }

    all_points_more : (pairs : List (K × ℕ)) → AllByRecursion (λ (p : K × ℕ). PointsTo settles facts p.0 p.1) pairs → AllByRecursion (λ (p : K × ℕ). PointsTo settles (facts ++ records) p.0 p.1) pairs
    all_points_more pairs h = all_map (λ (p : K × ℕ). PointsTo settles facts p.0 p.1) (λ (p : K × ℕ). PointsTo settles (facts ++ records) p.0 p.1) pairs (λ p points. points_more p.0 p.1 points) h

    module _ (key : K) (of_key : AllByRecursion (λ r. IfSome (settles r) (λ k. k ≡ key)) records) where
      -- none of the records settles another key
      other_keys : (other : K) → other ≢ key → NoneSettles settles records other
      other_keys other differs = all_map (λ r. IfSome (settles r) (λ k. k ≡ key)) (λ r. settles r ≢ Some other) records
          (λ r of settled. differs (subst (λ o. IfSome o (λ k. k ≡ key)) settled of)) of_key

      -- what an index has for the facts and these records behind them
      pub indexed_more : (places : List ℕ) (at : ℕ) (place : Option ℕ) → IsBetween settles cmp facts places key at at → IsPlaceOf settles records key (length facts) place → IsIndexed settles cmp (facts ++ records) (with_place places at place)
      indexed_more places at None h none = record {
        pairs = h.pairs;
        places_are = h.places_are;
        is_index = record {
          points = all_points_more h.pairs h.is_index.points;
          rising = h.is_index.rising;
          all = λ other absent. all_append (λ r. settles r ≢ Some other) facts records (h.is_index.all other absent)
              (all_map (λ r. settles r ≢ Some key × IfSome (settles r) (λ k. k ≡ key)) (λ r. settles r ≢ Some other) records
              (λ r both settled. both.0 (settled ∙ ap Some (subst (λ o. IfSome o (λ k. k ≡ key)) settled both.1)))
              (all_both (λ r. settles r ≢ Some key) (λ r. IfSome (settles r) (λ k. k ≡ key)) records none of_key));
        };
      }
      indexed_more places at (Some place) h placed =
          let new : K × ℕ = (key, place) in
          let first = subst (λ i. FirstAt settles (facts ++ records) key i placed.1) (sym placed.3) (first_behind settles facts records key placed.0 placed.1 (missed settles facts places key at h) placed.2) in
          record {
            pairs = take at h.pairs ++ new ∷ drop at h.pairs;
            places_are = ap (λ ps. take at ps ++ place ∷ drop at ps) h.places_are ∙ sym (map_insert (λ (p : K × ℕ). p.1) h.pairs at new);
            is_index = record {
              points = all_insert (λ (p : K × ℕ). PointsTo settles (facts ++ records) p.0 p.1) h.pairs at new (all_points_more h.pairs h.is_index.points) (record { verdict = placed.1; is_first = first });
              rising = rising_insert h.pairs at new h.is_index.rising h.below h.above;
              all = λ other absent.
                  let parts = all_inserted (λ (p : K × ℕ). p.0 ≢ other) h.pairs at new absent in
                  all_append (λ r. settles r ≢ Some other) facts records (h.is_index.all other parts.0) (other_keys other (λ same. parts.1 (sym same)));
            };
          }
