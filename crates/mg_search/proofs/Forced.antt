-- From the table of one row without entries, what is forced leads to a stable table of one row, by entries alone. So an
-- enumeration can always begin.
use Rattle.std.proofs.Common.{◌≡◌, ℕ, zero, suc, ◌+◌, ◌*◌, ◌<◌, ◌≤◌, ℤ, List, [], ◌∷◌, ◌++◌, length, get_or, set, replicate, Option, Some, None, inl, inr, ◌⊎◌, refl, sym, ap, subst, ◌∙◌, arith}
use Rattle.std.specs.Prelude.{neg_ℤ, slice_get, pos, negsuc, All}
use Rattle.std.specs.List.{AllByRecursion}
use Rattle.std.specs.Option.{option_and_then}
use Rattle.std.proofs.lemmas.List.{append_assoc, append-nil, length-set, length-replicate}
use Rattle.std.proofs.lemmas.List.Elements.{All-from_recursion}
use Rattle.std.proofs.lemmas.Option.{same_Some, slice_get_within, get_or_from_slice_get}
use Rattle.mg_words.specs.Letter.{IsLetterOf}
use Rattle.mg_words.specs.Word.{IsOver, inv}
use Rattle.mg_present.specs.Presentation.{Group, IsRelator}
use Rattle.mg_present.specs.Ask.{Inquiry, IsAsked, IsReducedOver}
use Rattle.mg_tables.specs.Table.{Row, Table, column, entry, row_after, first_table}
use Rattle.mg_tables.specs.Force.{Sign, a_relator, a_member, Cut, IsRead, ForcesRows, ForcesLetter, ForcesJoining, ForcesEntry, IsStable}
use Rattle.mg_tables.specs.Enumeration.{Step, an_entry, Leads, Enumerated}

never : {P : Type 0} {A : Type 0} {o : Option A} {a : A} → o ≡ None → o ≡ Some a → P
never e f = absurd cc

-- each entry of the row leads to row 0
abbrev pub LeadsHome : Row → Type 0
LeadsHome [] = Unit {0}
LeadsHome (None ∷ row) = LeadsHome row
LeadsHome (Some d ∷ row) = (d ≡ 0) × LeadsHome row

-- how many entries of the row are empty
abbrev pub empties : Row → ℕ
empties [] = 0
empties (None ∷ row) = suc (empties row)
empties (Some d ∷ row) = empties row

home_at : (row : Row) (i d : ℕ) → LeadsHome row → get_or row i None ≡ Some d → d ≡ 0
home_at [] zero d h e = never refl e
home_at [] (suc i) d h e = never refl e
home_at (None ∷ row) zero d h e = never refl e
home_at (Some x ∷ row) zero d h e = sym (same_Some x d e) ∙ h.0
home_at (None ∷ row) (suc i) d h e = home_at row i d h e
home_at (Some x ∷ row) (suc i) d h e = home_at row i d h.1 e

home_set : (row : Row) (i : ℕ) → LeadsHome row → LeadsHome (set row i (Some 0))
home_set [] zero h = tt
home_set [] (suc i) h = tt
home_set (None ∷ row) zero h = (refl, h)
home_set (Some x ∷ row) zero h = (refl, h.1)
home_set (None ∷ row) (suc i) h = home_set row i h
home_set (Some x ∷ row) (suc i) h = (h.0, home_set row i h.1)

home_first : (n : ℕ) → LeadsHome (replicate n None)
home_first zero = tt
home_first (suc n) = home_first n

no_more_empty : (row : Row) (i : ℕ) → empties (set row i (Some 0)) ≤ empties row
no_more_empty [] zero = omega arith
no_more_empty [] (suc i) = omega arith
no_more_empty (None ∷ row) zero = omega arith
no_more_empty (Some x ∷ row) zero = omega arith
no_more_empty (None ∷ row) (suc i) = let less = no_more_empty row i in omega (arith, less)
no_more_empty (Some x ∷ row) (suc i) = no_more_empty row i

less_empty : (row : Row) (i : ℕ) → i < length row → get_or row i None ≡ None → empties (set row i (Some 0)) < empties row
less_empty [] i low e = absurd (omega (arith, low))
less_empty (None ∷ row) zero low e = omega arith
less_empty (Some x ∷ row) zero low e = never e refl
less_empty (None ∷ row) (suc i) low e = let less = less_empty row i (omega (arith, low)) e in omega (arith, less)
less_empty (Some x ∷ row) (suc i) low e = less_empty row i (omega (arith, low)) e

column_below : (m : ℕ) (x : ℤ) → IsLetterOf m x → column x < 2 * m
column_below m (pos zero) h = absurd (omega (arith, h.least))
column_below m (pos (suc n)) h = omega (arith, h.most)
column_below m (negsuc n) h = omega (arith, h.most)

-- a way from row 0 ends there
way_home : (row : Row) → LeadsHome row → (w : List ℤ) (p : ℕ) → row_after (row ∷ []) 0 w ≡ Some p → p ≡ 0
way_home row home [] p e = sym (same_Some 0 p e)
way_home row home (x ∷ w) p e = next (get_or row (column x) None) refl e (λ f. way_home row home w p f)
  where
    next : (o : Option ℕ) → get_or row (column x) None ≡ o → option_and_then (λ d. row_after (row ∷ []) d w) o ≡ Some p → (row_after (row ∷ []) 0 w ≡ Some p → p ≡ 0) → p ≡ 0
    next None at f on = never refl f
    next (Some d) at f on = on (subst (λ (c : ℕ). row_after (row ∷ []) c w ≡ Some p) (home_at row (column x) d home at) f)

abbrev pub ForcesHere : Row → List ℤ → ℤ → List ℤ → Type 0
ForcesHere row u x v = ForcesLetter (row ∷ []) 0 u x v 0 0

abbrev pub ForcesNone : Row → List ℤ → ℤ → List ℤ → Type 0
ForcesNone row u x v = (p q : ℕ) → ForcesLetter (row ∷ []) 0 u x v p q → ⊥

-- a cut of a word forces an entry or none
cut_forces : (row : Row) → LeadsHome row → (u : List ℤ) (x : ℤ) (v : List ℤ) → ForcesHere row u x v ⊎ ForcesNone row u x v
cut_forces row home u x v =
    go (row_after (row ∷ []) 0 u) refl (row_after (row ∷ []) 0 (inv v)) refl (entry (row ∷ []) 0 x) refl (entry (row ∷ []) 0 (neg_ℤ x)) refl
  where
    go : (a : Option ℕ) → row_after (row ∷ []) 0 u ≡ a → (b : Option ℕ) → row_after (row ∷ []) 0 (inv v) ≡ b
        → (c : Option ℕ) → entry (row ∷ []) 0 x ≡ c → (d : Option ℕ) → entry (row ∷ []) 0 (neg_ℤ x) ≡ d → ForcesHere row u x v ⊎ ForcesNone row u x v
    go None ea b eb c ec d ed = inr (λ p q f. never ea f.before)
    go (Some k) ea None eb c ec d ed = inr (λ p q f. never eb f.after)
    go (Some k) ea (Some l) eb (Some e) ec d ed =
        inr (λ p q f. never (subst (λ (c : ℕ). entry (row ∷ []) c x ≡ None) (way_home row home u p f.before) f.empty) ec)
    go (Some k) ea (Some l) eb None ec (Some e) ed =
        inr (λ p q f. never (subst (λ (c : ℕ). entry (row ∷ []) c (neg_ℤ x) ≡ None) (way_home row home (inv v) q f.after) f.empty_back) ed)
    go (Some k) ea (Some l) eb None ec None ed =
        inl (record {
          before = ea ∙ ap (λ (n : ℕ). Some n) (way_home row home u k ea);
          after = eb ∙ ap (λ (n : ℕ). Some n) (way_home row home (inv v) l eb);
          empty = ec;
          empty_back = ed;
        })

-- some cut of the rest of a word forces an entry
record Forced (row : Row) (front rest : List ℤ) : Type 0 where
  u : List ℤ
  x : ℤ
  v : List ℤ
  split : rest ≡ u ++ x ∷ v
  forces : ForcesHere row (front ++ u) x v

abbrev NoneForced : Row → List ℤ → List ℤ → Type 0
NoneForced row front rest = (u : List ℤ) (x : ℤ) (v : List ℤ) → rest ≡ u ++ x ∷ v → ForcesNone row (front ++ u) x v

no_split : (u : List ℤ) (x : ℤ) (v : List ℤ) → [] ≡ u ++ x ∷ v → ⊥
no_split [] x v e = cc e
no_split (y ∷ u) x v e = cc e

one_on : (front : List ℤ) (x : ℤ) (u : List ℤ) → (front ++ x ∷ []) ++ u ≡ front ++ x ∷ u
one_on front x u = append_assoc front (x ∷ []) u

word_forces : (row : Row) → LeadsHome row → (front rest : List ℤ) → Forced row front rest ⊎ NoneForced row front rest
word_forces row home front [] = inr (λ u x v e p q f. no_split u x v e)
word_forces row home front (y ∷ rest) = elim (cut_forces row home front y rest) [
  | inl f ↦ inl (record { u = []; x = y; v = rest; split = refl; forces = subst (λ (w : List ℤ). ForcesHere row w y rest) (sym (append-nil front)) f })
  | inr none ↦ elim (word_forces row home (front ++ y ∷ []) rest) [
    | inl more ↦ inl (record {
      u = y ∷ more.u;
      x = more.x;
      v = more.v;
      split = ap (λ (w : List ℤ). y ∷ w) more.split;
      forces = subst (λ (w : List ℤ). ForcesHere row w more.x more.v) (one_on front y more.u) more.forces;
    })
    | inr no_more ↦ inr (neither none no_more)
  ]
]
  where
    neither : ForcesNone row front y rest → NoneForced row (front ++ y ∷ []) rest → NoneForced row front (y ∷ rest)
    neither none no_more [] x v e p q f =
        let first : y ≡ x = cc e in
        let later : rest ≡ v = cc e in
        none p q (subst (λ (w : List ℤ). ForcesLetter (row ∷ []) 0 front y w p q) (sym later)
        (subst (λ (z : ℤ). ForcesLetter (row ∷ []) 0 front z v p q) (sym first)
        (subst (λ (w : List ℤ). ForcesLetter (row ∷ []) 0 w x v p q) (append-nil front) f)))
    neither none no_more (z ∷ u) x v e p q f =
        let first : y ≡ z = cc e in
        let later : rest ≡ u ++ x ∷ v = cc e in
        no_more u x v later p q (subst (λ (w : List ℤ). ForcesLetter (row ∷ []) 0 w x v p q) (sym (one_on front y u) ∙ refl)
        (subst (λ (c : ℤ). ForcesLetter (row ∷ []) 0 (front ++ c ∷ u) x v p q) (sym first) f))

-- some word of these forces an entry
record SomeForces (row : Row) (words : List (List ℤ)) : Type 0 where
  k : ℕ
  word : List ℤ
  there : slice_get words k ≡ Some word
  forced : Forced row [] word

abbrev NoneForces : Row → List (List ℤ) → Type 0
NoneForces row words = (k : ℕ) (word : List ℤ) → slice_get words k ≡ Some word → NoneForced row [] word

words_force : (row : Row) → LeadsHome row → (words : List (List ℤ)) → SomeForces row words ⊎ NoneForces row words
words_force row home [] = inr (λ k word there. never refl there)
words_force row home (w ∷ words) = elim (word_forces row home [] w) [
  | inl forced ↦ inl (record { k = 0; word = w; there = refl; forced = forced })
  | inr none ↦ elim (words_force row home words) [
    | inl more ↦ inl (record { k = suc more.k; word = more.word; there = more.there; forced = more.forced })
    | inr no_more ↦ inr (neither none no_more)
  ]
]
  where
    neither : NoneForced row [] w → NoneForces row words → NoneForces row (w ∷ words)
    neither none no_more zero word there = subst (NoneForced row []) (same_Some w word there) none
    neither none no_more (suc k) word there = no_more k word there

module _ (group : Group) (subgroup : List (List ℤ)) (relators_over : (k : ℕ) (w : List ℤ) → slice_get group.relators k ≡ Some w → IsOver group.generators w) (members_over : (k : ℕ) (w : List ℤ) → slice_get subgroup k ≡ Some w → IsOver group.generators w) where
  -- an entry of row 0 that is forced
  record Entry (row : Row) : Type 0 where
    cut : Cut
    x : ℤ
    letter : IsLetterOf group.generators x
    forces : ForcesEntry group subgroup (row ∷ []) cut 0 x 0

  letter_in : (u : List ℤ) (x : ℤ) (v : List ℤ) → IsOver group.generators (u ++ x ∷ v) → IsLetterOf group.generators x
  letter_in [] x v h = h.0
  letter_in (y ∷ u) x v h = letter_in u x v h.1

  by_word : (row : Row) (sign : Sign) (word : List ℤ) → IsRead group subgroup (row ∷ []) sign 0 word → IsOver group.generators word → Forced row [] word → Entry row
  by_word row sign word read over forced = record {
    cut = record { sign = sign; row = 0; place = length forced.u };
    x = forced.x;
    letter = letter_in forced.u forced.x forced.v (subst (IsOver group.generators) forced.split over);
    forces = record { front = forced.u; back = forced.v; read = subst (IsRead group subgroup (row ∷ []) sign 0) forced.split read; place = refl; forces = forced.forces };
  }

  -- which row a word is read at
  at_home : (row : Row) (sign : Sign) (r : ℕ) (w : List ℤ) → IsRead group subgroup (row ∷ []) sign r w → r ≡ 0
  at_home row (a_relator k) r w h = let low = h.1 in omega (arith, low)
  at_home row (a_member k) r w h = h.1

  unread : (row : Row) → NoneForces row group.relators → NoneForces row subgroup → (sign : Sign) (r : ℕ) (w : List ℤ) → IsRead group subgroup (row ∷ []) sign r w → NoneForced row [] w
  unread row none no_member (a_relator k) r w h = none k w h.0
  unread row none no_member (a_member k) r w h = no_member k w h.0

  quiet : (row : Row) → LeadsHome row → NoneForces row group.relators → NoneForces row subgroup → IsStable group subgroup (row ∷ [])
  quiet row home none no_member = record {
    no_joining = λ cut p q f. joins_none cut p q f;
    no_entry = λ cut p x q f. enters_none cut p x q f;
  }
    where
      joins_none : (cut : Cut) (p q : ℕ) → ForcesJoining group subgroup (row ∷ []) cut p q → ⊥
      joins_none cut p q f =
          let home_is = at_home row cut.sign cut.row (f.front ++ f.back) f.read in
          let from = subst (λ (r : ℕ). ForcesRows (row ∷ []) r f.front f.back p q) home_is f.forces in
          from.differ (way_home row home f.front p from.before ∙ sym (way_home row home (inv f.back) q from.after))

      enters_none : (cut : Cut) (p : ℕ) (x : ℤ) (q : ℕ) → ForcesEntry group subgroup (row ∷ []) cut p x q → ⊥
      enters_none cut p x q f =
          let home_is = at_home row cut.sign cut.row (f.front ++ x ∷ f.back) f.read in
          unread row none no_member cut.sign cut.row (f.front ++ x ∷ f.back) f.read f.front x f.back refl p q
          (subst (λ (r : ℕ). ForcesLetter (row ∷ []) r f.front x f.back p q) home_is f.forces)

  -- the table of one row is stable, or an entry is forced
  forces_or_stable : (row : Row) → LeadsHome row → Entry row ⊎ IsStable group subgroup (row ∷ [])
  forces_or_stable row home = elim (words_force row home group.relators) [
    | inl some ↦ inl (by_word row (a_relator some.k) some.word (some.there, omega arith) (relators_over some.k some.word some.there) some.forced)
    | inr none ↦ elim (words_force row home subgroup) [
      | inl some ↦ inl (by_word row (a_member some.k) some.word (some.there, refl) (members_over some.k some.word some.there) some.forced)
      | inr no_member ↦ inr (quiet row home none no_member)
    ]
  ]

  -- a stable table to which forced entries lead
  record Closed (row : Row) : Type 0 where
    tables : List Table
    table : Table
    leads : Leads group subgroup (row ∷ []) tables 0 table
    stable : IsStable group subgroup table

  abbrev pub filled_row : Row → ℤ → Row
  filled_row row x = set (set row (column x) (Some 0)) (column (neg_ℤ x)) (Some 0)

  less_left : (row : Row) (forced : Entry row) → length row ≡ 2 * group.generators → empties (filled_row row forced.x) < empties row
  less_left row forced wide =
      let low = column_below group.generators forced.x forced.letter in
      let less = less_empty row (column forced.x) (omega (arith, low, wide)) forced.forces.forces.empty in
      let no_more = no_more_empty (set row (column forced.x) (Some 0)) (column (neg_ℤ forced.x)) in
      omega (arith, less, no_more)

  still_wide : (row : Row) (x : ℤ) → length (filled_row row x) ≡ length row
  still_wide row x = length-set (set row (column x) (Some 0)) (column (neg_ℤ x)) (Some 0) ∙ length-set row (column x) (Some 0)

  still_home : (row : Row) (x : ℤ) → LeadsHome row → LeadsHome (filled_row row x)
  still_home row x home = home_set (set row (column x) (Some 0)) (column (neg_ℤ x)) (home_set row (column x) home)

  one_step_more : (row : Row) (forced : Entry row) → Closed (filled_row row forced.x) → Closed row
  one_step_more row forced more = record {
    tables = (filled_row row forced.x ∷ []) ∷ more.tables;
    table = more.table;
    leads = (0, 0, an_entry forced.cut 0 forced.x 0 forced.forces refl refl, more.leads, refl);
    stable = more.stable;
  }

  closed : (n : ℕ) (row : Row) → empties row ≤ n → LeadsHome row → length row ≡ 2 * group.generators → Closed row
  closed zero row few home wide = elim (forces_or_stable row home) [
    | inr stable ↦ record { tables = []; table = row ∷ []; leads = (refl, refl); stable = stable }
    | inl forced ↦ (let less = less_left row forced wide in absurd (omega (arith, few, less)))
  ]
  closed (suc n) row few home wide = elim (forces_or_stable row home) [
    | inr stable ↦ record { tables = []; table = row ∷ []; leads = (refl, refl); stable = stable }
    | inl forced ↦
        (let less = less_left row forced wide in
        one_step_more row forced (closed n (filled_row row forced.x) (omega (arith, few, less)) (still_home row forced.x home) (still_wide row forced.x ∙ wide)))
  ]

relator_over : (group : Group) → AllByRecursion (IsRelator group.generators) group.relators → (k : ℕ) (w : List ℤ) → slice_get group.relators k ≡ Some w → IsOver group.generators w
relator_over group relators k w there =
    let all : All (IsRelator group.generators) group.relators = All-from_recursion (IsRelator group.generators) group.relators relators in
    let at : IsRelator group.generators w = subst (IsRelator group.generators) (get_or_from_slice_get group.relators k w [] there) (all k [] (slice_get_within group.relators k w there)) in
    at.over

member_over : (m : ℕ) (words : List (List ℤ)) → AllByRecursion (IsReducedOver m) words → (k : ℕ) (w : List ℤ) → slice_get words k ≡ Some w → IsOver m w
member_over m words members k w there =
    let all : All (IsReducedOver m) words = All-from_recursion (IsReducedOver m) words members in
    let at : IsReducedOver m w = subst (IsReducedOver m) (get_or_from_slice_get words k w [] there) (all k [] (slice_get_within words k w there)) in
    at.over

-- a table with which an enumeration for the Ask can begin
pub first_enumeration : (ask : Inquiry) → IsAsked ask → (table : Table) × Enumerated ask.group ask.subgroup 0 table
first_enumeration ask asked =
    let row : Row = replicate (2 * ask.group.generators) None in
    let there = closed ask.group ask.subgroup (relator_over ask.group asked.group.relators) (member_over ask.group.generators ask.subgroup asked.words.subgroup_words)
    (empties row) row (omega arith) (home_first (2 * ask.group.generators)) (length-replicate (2 * ask.group.generators) None) in
    (there.table, record { tables = there.tables; leads = there.leads; stable = there.stable })
