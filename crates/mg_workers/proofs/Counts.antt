-- Lemmas on how many units and entries a run puts into the log.
use Rattle.std.proofs.Common.{◌≡◌, ◌≢◌, ℕ, zero, suc, ◌+◌, ◌*◌, ◌≤◌, Bool, true, false, cond, not, ◌&&◌, ◌||◌, ◌==◌, List, [], ◌∷◌, ◌++◌, Some, length, set, refl, ap, sym, ◌∙◌, subst, arith, append-nil, append_assoc, length-append, add-zero}
use Rattle.std.proofs.Math.Nat.{mul-suc}
use Rattle.std.specs.Prelude.{slice_get}
use Rattle.std.specs.List.{AllByRecursion}
use Rattle.std.proofs.lemmas.Bool.Decides.{nat_tests}
use Rattle.mg_core.specs.declared.entries.Entry.{Entry}
use Rattle.mg_core.specs.declared.entries.Facts.{Facts}
use Rattle.mg_turn.specs.declared.outcome.TurnEnd.{TurnEnd}
use Rattle.mg_turn.specs.declared.outcome.TurnEnd.TheVariants.{More, Found, Closed, Idle, Stopped, Full}
use Rattle.mg_core.specs.Recording.{Recording}
use Rattle.mg_turn.specs.Turn.{Searching, Sound, EndFits, is_stopped}
use Rattle.mg_workers.specs.Run.{Row, Running, entry_of, row_after, end_after, leaves_at}
use Rattle.mg_workers.specs.Rows.{EachPair, AreApart, units_of, entries_of, total_spent}
use Rattle.mg_workers.proofs.Pairs.{all_at, all_along, pairs_same, pairs_then, pairs_imply, pairs_set, Others}
use Rattle.mg_workers.proofs.Events.{event_sound, Happens, LeadsBy, Run}

-- how often a row may still put an entry without units into the log
abbrev pub chances : Bool → Bool → ℕ
chances left looked = cond left 0 1 + cond looked 0 1

few_chances : (left looked : Bool) → chances left looked ≤ 2
few_chances true true = omega arith
few_chances true false = omega arith
few_chances false true = omega arith
few_chances false false = omega arith

-- a turn spends a unit, or uses up a chance
module _ {R K G S : Type 0} (recording : Recording R K G) (searching : Searching R K G S) where
  pub uses : (search : S) (units : ℕ) (facts : Facts R) (spent : ℕ) (end : TurnEnd R) (dropped looked : Bool) → EndFits recording searching search units facts spent end → (is_stopped end ≡ true → dropped ≡ false → looked ≡ false) →
      1 + chances (leaves_at (end_after dropped end)) (looked || (is_stopped end && not dropped)) ≤ spent + chances false looked
  uses search units facts spent More true true fits once = omega arith
  uses search units facts spent More true false fits once = omega arith
  uses search units facts spent More false true fits once = omega (arith, fits.0)
  uses search units facts spent More false false fits once = omega (arith, fits.0)
  uses search units facts spent (Found records) true true fits once = omega arith
  uses search units facts spent (Found records) true false fits once = omega arith
  uses search units facts spent (Found records) false true fits once = omega arith
  uses search units facts spent (Found records) false false fits once = omega arith
  uses search units facts spent (Closed records) true true fits once = omega arith
  uses search units facts spent (Closed records) true false fits once = omega arith
  uses search units facts spent (Closed records) false true fits once = omega arith
  uses search units facts spent (Closed records) false false fits once = omega arith
  uses search units facts spent Idle true true fits once = omega arith
  uses search units facts spent Idle true false fits once = omega arith
  uses search units facts spent Idle false true fits once = omega arith
  uses search units facts spent Idle false false fits once = omega arith
  uses search units facts spent (Stopped seen) true true fits once = omega arith
  uses search units facts spent (Stopped seen) true false fits once = omega arith
  uses search units facts spent (Stopped seen) false true fits once = let bad : true ≡ false = once refl refl in absurd (cc)
  uses search units facts spent (Stopped seen) false false fits once = omega arith
  uses search units facts spent (Full what count) true true fits once = omega arith
  uses search units facts spent (Full what count) true false fits once = omega arith
  uses search units facts spent (Full what count) false true fits once = omega arith
  uses search units facts spent (Full what count) false false fits once = omega arith

pub units_of-append : {R : Type 0} (number : ℕ) (log more : List (Entry R)) → units_of number (log ++ more) ≡ units_of number log + units_of number more
units_of-append number [] more = omega arith
units_of-append number (entry ∷ log) more = omega (arith, units_of-append number log more)

entries_of-append : {R : Type 0} (number : ℕ) (log more : List (Entry R)) → entries_of number (log ++ more) ≡ entries_of number log + entries_of number more
entries_of-append number [] more = omega arith
entries_of-append number (entry ∷ log) more = omega (arith, entries_of-append number log more)

-- sums over rows of which one changes
module _ {S : Type 0} (f : Row S → ℕ) where
  abbrev pub total : List (Row S) → ℕ
  total [] = 0
  total (x ∷ xs) = f x + total xs

  pub total-set : (xs : List (Row S)) (i : ℕ) (x y : Row S) → slice_get xs i ≡ Some x → total (set xs i y) + f x ≡ total xs + f y
  total-set [] i x y e = absurd (cc)
  total-set (w ∷ ws) zero x y e = let same : w ≡ x = cc in omega (arith, ap f same)
  total-set (w ∷ ws) (suc i) x y e = omega (arith, total-set ws i x y e)

  total_few : (most : ℕ) → ((x : Row S) → f x ≤ most) → (xs : List (Row S)) → total xs ≤ most * length xs
  total_few most few [] = omega arith
  total_few most few (x ∷ xs) = omega (arith, few x, total_few most few xs, mul-suc most (length xs))

total_spent_is : {S : Type 0} (rows : List (Row S)) → total_spent rows ≡ total (λ row. row.spent) rows
total_spent_is [] = refl
total_spent_is (row ∷ rows) = ap (λ n. row.spent + n) (total_spent_is rows)

-- what more entries are to a row and the row after them
pub record Counts {R S : Type 0} (more : List (Entry R)) (row after : Row S) : Type 0 where
  pub number : after.number ≡ row.number
  pub units : units_of row.number more + row.spent ≡ after.spent
  pub few : entries_of row.number more + row.spent + chances after.left after.looked ≤ after.spent + chances row.left row.looked

counts_then : {R S : Type 0} (one two : List (Entry R)) (x y z : Row S) → Counts one x y → Counts two y z → Counts (one ++ two) x z
counts_then one two x y z a b =
    let units = subst (λ n. units_of n two + y.spent ≡ z.spent) a.number b.units in
    let few = subst (λ n. entries_of n two + y.spent + chances z.left z.looked ≤ z.spent + chances y.left y.looked) a.number b.few in
    record {
      number = b.number ∙ a.number;
      units = omega (arith, units_of-append x.number one two, units, a.units);
      few = omega (arith, entries_of-append x.number one two, few, a.few);
    }

pub apart_along : {S : Type 0} (xs ys : List (Row S)) → EachPair (λ x y. y.number ≡ x.number) xs ys → AreApart xs → AreApart ys
apart_along [] [] r h = tt
apart_along [] (y ∷ ys) r h = absurd r
apart_along (x ∷ xs) [] r h = absurd r
apart_along {S} (x ∷ xs) (y ∷ ys) r h = (
  all_along (λ (v w : Row S). w.number ≡ v.number) (λ (v : Row S). x.number ≢ v.number) (λ (w : Row S). y.number ≢ w.number) (λ v w same other e. other (sym r.0 ∙ e ∙ same)) xs ys r.1 h.0,
  apart_along xs ys r.1 h.1,
)

pub others_apart : {S : Type 0} (xs : List (Row S)) (i : ℕ) (x : Row S) → AreApart xs → slice_get xs i ≡ Some x → Others (λ (v z : Row S). v.number ≢ z.number) xs i x
others_apart [] i x h e = tt
others_apart {S} (w ∷ ws) zero x h e =
    let same : w ≡ x = cc in
    subst (λ (v : Row S). AllByRecursion (λ (z : Row S). v.number ≢ z.number) ws) same h.0
others_apart {S} (w ∷ ws) (suc i) x h e =
    let other = all_at (λ (z : Row S). w.number ≢ z.number) ws i x h.0 e in
    ((λ same. other (sym same)), others_apart ws i x h.1 e)

module _ {R K G S : Type 0} (recording : Recording R K G) (searching : Searching R K G S) (workers : ℕ) (IsSize : ℕ → ℕ → ℕ → ℕ → Type 0) (begin : List (Entry R)) (sound : Sound recording searching) where
  pub event_uses : (old new : Running R S) (e : Happens recording searching workers IsSize begin old new) →
      1 + chances (leaves_at (end_after e.dropped e.outcome.end)) (e.row.looked || (is_stopped e.outcome.end && not e.dropped)) ≤ e.outcome.spent + chances e.row.left e.row.looked
  event_uses old new e =
      let turn = event_sound recording searching workers IsSize begin sound old new e in
      let used = uses recording searching e.row.search e.units e.facts e.outcome.spent e.outcome.end e.dropped e.row.looked turn.end e.once in
      subst (λ left. 1 + chances (leaves_at (end_after e.dropped e.outcome.end)) (e.row.looked || (is_stopped e.outcome.end && not e.dropped)) ≤ e.outcome.spent + chances left e.row.looked) (sym e.stays) used

  event_counts : (old new : Running R S) → AreApart old.rows → (e : Happens recording searching workers IsSize begin old new) → EachPair (Counts (entry_of e.pass e.row e.outcome e.dropped ∷ [])) old.rows new.rows
  event_counts old new apart e =
      let entry = entry_of e.pass e.row e.outcome e.dropped in
      let used = event_uses old new e in
      let own : (e.row.number == e.row.number) ≡ true = grind (arith, nat_tests) in
      let units : units_of e.row.number (entry ∷ []) ≡ e.outcome.spent = ap (λ b. cond b e.outcome.spent 0 + 0) own ∙ add-zero _ in
      let one : entries_of e.row.number (entry ∷ []) ≡ 1 = ap (λ b. cond b 1 0 + 0) own in
      subst (EachPair (Counts (entry ∷ [])) old.rows) (sym e.rows)
      (pairs_set (Counts (entry ∷ [])) (λ x z. x.number ≢ z.number) old.rows e.place e.row (row_after e.row e.facts e.outcome e.dropped e.search) e.of_row
      (record { number = refl; units = omega (arith, units); few = omega (arith, one, used) })
      (λ z other.
      let foreign : (e.row.number == z.number) ≡ false = grind (arith, nat_tests, other) in
      let none : units_of z.number (entry ∷ []) ≡ 0 = ap (λ b. cond b e.outcome.spent 0 + 0) foreign in
      let no_entry : entries_of z.number (entry ∷ []) ≡ 0 = ap (λ b. cond b 1 0 + 0) foreign in
      record { number = refl; units = omega (arith, none); few = omega (arith, no_entry) })
      (others_apart old.rows e.place e.row apart e.of_row))

  each_itself : (rows : List (Row S)) → AllByRecursion (λ row. Counts {R = R} [] row row) rows
  each_itself [] = tt
  each_itself (row ∷ rows) = (record { number = refl; units = omega arith; few = omega arith }, each_itself rows)

  leads_count : (states : List (Running R S)) (old new : Running R S) → AreApart old.rows → LeadsBy recording searching workers IsSize begin old states new →
      (more : List (Entry R)) × (new.log ≡ old.log ++ more) × EachPair (Counts more) old.rows new.rows
  leads_count [] old new apart h = (
    [],
    ap (λ (r : Running R S). r.log) (sym h) ∙ sym (append-nil old.log),
    subst (λ (r : Running R S). EachPair (Counts {R = R} []) old.rows r.rows) h (pairs_same (Counts {R = R} []) old.rows (each_itself old.rows)),
  )
  leads_count (mid ∷ states) old new apart h =
      let e = h.0 in
      let entry = entry_of e.pass e.row e.outcome e.dropped in
      let first = event_counts old mid apart e in
      let rest = leads_count states mid new (apart_along old.rows mid.rows (pairs_imply (Counts (entry ∷ [])) (λ x y. y.number ≡ x.number) (λ x y c. c.number) old.rows mid.rows first) apart) h.1 in (
        entry ∷ rest.0,
        rest.1 ∙ ap (λ log. log ++ rest.0) e.log ∙ append_assoc old.log (entry ∷ []) rest.0,
        pairs_then (Counts (entry ∷ [])) (Counts rest.0) (Counts (entry ∷ rest.0)) (counts_then (entry ∷ []) rest.0) old.rows mid.rows new.rows first rest.2,
      )

  -- the entries of a run, counted for each row
  pub runs_count : (old new : Running R S) → AreApart old.rows → Run recording searching workers IsSize begin old new →
      (more : List (Entry R)) × (new.log ≡ old.log ++ more) × EachPair (λ row after. (units_of row.number more + row.spent ≡ after.spent) × (entries_of row.number more + row.spent ≤ after.spent + 2)) old.rows new.rows
  runs_count old new apart h =
      let counted = leads_count h.0 old new apart h.1 in
      (counted.0, counted.1, pairs_imply (Counts counted.0) _ (λ row after c. (c.units, omega (arith, c.few, few_chances row.left row.looked))) old.rows new.rows counted.2)

  leads_total : (states : List (Running R S)) (old new : Running R S) → LeadsBy recording searching workers IsSize begin old states new →
      length new.log + total (λ row. row.spent) old.rows + total (λ row. chances row.left row.looked) new.rows ≤ length old.log + total (λ row. row.spent) new.rows + total (λ row. chances row.left row.looked) old.rows
  leads_total [] old new h = subst (λ (r : Running R S). length r.log + total (λ row. row.spent) old.rows + total (λ row. chances row.left row.looked) r.rows ≤ length old.log + total (λ row. row.spent) r.rows + total (λ row. chances row.left row.looked) old.rows) h (omega arith)
  leads_total (mid ∷ states) old new h =
      let e = h.0 in
      let entry = entry_of e.pass e.row e.outcome e.dropped in
      let after = row_after e.row e.facts e.outcome e.dropped e.search in
      let used = event_uses old mid e in
      let grown = ap length e.log ∙ length-append old.log (entry ∷ []) in
      let spent = ap (total (λ row. row.spent)) e.rows in
      let left = ap (total (λ row. chances row.left row.looked)) e.rows in
      let spent_set = total-set (λ row. row.spent) old.rows e.place e.row after e.of_row in
      let left_set = total-set (λ row. chances row.left row.looked) old.rows e.place e.row after e.of_row in
      omega (arith, leads_total states mid new h.1, used, grown, spent, left, spent_set, left_set)

  -- the entries of a run are at most the units spent and two more for each row
  pub runs_total : (old new : Running R S) → Run recording searching workers IsSize begin old new → length new.log + total_spent old.rows ≤ length old.log + total_spent new.rows + 2 * length old.rows
  runs_total old new h =
      omega (arith, leads_total h.0 old new h.1, total_few (λ row. chances row.left row.looked) 2 (λ row. few_chances row.left row.looked) old.rows, total_spent_is old.rows, total_spent_is new.rows)
