-- Lemmas on lists of notes.
use Rattle.std.proofs.Common.{◌≡◌, ◌≢◌, ℕ, zero, suc, ◌+◌, ◌<◌, ◌≤◌, List, [], ◌∷◌, ◌++◌, map, length, get_or, set, take, take_all, Option, None, Some, MatchOption, IfNone, IfSome, refl, ap, sym, ◌∙◌, arith}
use Rattle.once_cell.specs.declared.race.note.Note.{Note}
use mathlib.Core.List.{map-append}
use Rattle.once_cell.specs.Once.{Agrees}
use Rattle.mg_cancel.specs.Notes.{noted, unknown, cells_of, known_at, StillKnows}

module _ {R : Type 0} where
  pub cells_set : (notes : List (Note R)) (i : ℕ) (old new : Note R) → old ≡ get_or notes i old → new.cell ≡ old.cell → cells_of (map noted (set notes i new)) ≡ cells_of (map noted notes)
  cells_set [] i old new at same = refl
  cells_set (n ∷ notes) zero old new at same = (let e : new.cell ≡ n.cell = same ∙ ap (λ (k : Note R). k.cell) at in ap (λ c. c ∷ cells_of (map noted notes)) e)
  cells_set (n ∷ notes) (suc i) old new at same = ap (λ cs. n.cell ∷ cs) (cells_set notes i old new at same)

  pub known_else : (notes : List (Note R)) (i j : ℕ) (new : Note R) → j ≢ i → known_at (map noted (set notes i new)) j ≡ known_at (map noted notes) j
  known_else [] i j new ne = refl
  known_else (n ∷ notes) zero zero new ne = absurd (ne refl)
  known_else (n ∷ notes) zero (suc j) new ne = refl
  known_else (n ∷ notes) (suc i) zero new ne = refl
  known_else (n ∷ notes) (suc i) (suc j) new ne = known_else notes i j new (λ e. ne (ap suc e))

  pub known_here : (notes : List (Note R)) (i : ℕ) (new : Note R) → i < length notes → known_at (map noted (set notes i new)) i ≡ new.known
  known_here [] i new h = absurd (omega arith)
  known_here (n ∷ notes) zero new h = refl
  known_here (n ∷ notes) (suc i) new h = known_here notes i new (omega arith)

  pub known_there : (notes : List (Note R)) (i : ℕ) (old : Note R) → i < length notes → old ≡ get_or notes i old → known_at (map noted notes) i ≡ old.known
  known_there [] i old h at = absurd (omega arith)
  known_there (n ∷ notes) zero old h at = ap (λ (k : Note R). k.known) (sym at)
  known_there (n ∷ notes) (suc i) old h at = known_there notes i old (omega arith) at

  pub same_length : {C : Type 0} (name : C → ℕ) (notes : List (Note R)) (cells : List C) → cells_of (map noted notes) ≡ map name cells → length notes ≡ length cells
  same_length name [] [] e = refl
  same_length name [] (c ∷ cells) e = absurd (cc (e))
  same_length name (n ∷ notes) [] e = absurd (cc (e))
  same_length name (n ∷ notes) (c ∷ cells) e =
      let t : cells_of (map noted notes) ≡ map name cells = cc (e) in
      ap suc (same_length name notes cells t)

  pub same_cell : {C : Type 0} (name : C → ℕ) (notes : List (Note R)) (cells : List C) → cells_of (map noted notes) ≡ map name cells → (i : ℕ) (note : Note R) (c : C) → i < length cells → note ≡ get_or notes i note → c ≡ get_or cells i c → note.cell ≡ name c
  same_cell name [] [] e i note c h at at' = absurd (omega arith)
  same_cell name [] (k ∷ cells) e i note c h at at' = absurd (cc (e))
  same_cell name (n ∷ notes) [] e i note c h at at' = absurd (cc (e))
  same_cell name (n ∷ notes) (k ∷ cells) e zero note c h at at' =
      let heads : n.cell ≡ name k = cc (e) in
      ap (λ (z : Note R). z.cell) at ∙ (heads ∙ ap name (sym at'))
  same_cell name (n ∷ notes) (k ∷ cells) e (suc i) note c h at at' =
      let t : cells_of (map noted notes) ≡ map name cells = cc (e) in
      same_cell name notes cells t i note c (omega arith) at at'

pub length_named : {C : Type 0} (name : C → ℕ) (cells : List C) → length (map name cells) ≡ length cells
length_named name [] = refl
length_named name (c ∷ cells) = ap suc (length_named name cells)

pub named_within : {C : Type 0} (name : C → ℕ) (cells : List C) (named : List ℕ) (i : ℕ) → map name cells ≡ named → i < length named → i < length cells
named_within name cells named i e h = (let l = length_named name cells in let k = ap length e in omega (arith, h, l, k))

unknown_more : {R C : Type 0} (name : C → ℕ) (cells : List C) (i : ℕ) (c : C) → i < length cells → c ≡ get_or cells i c → map (unknown {R = R}) (take (suc i) (map name cells)) ≡ map (unknown {R = R}) (take i (map name cells)) ++ unknown (name c) ∷ []
unknown_more name [] i c h at = absurd (omega arith)
unknown_more {R} name (k ∷ cells) zero c h at = ap (λ z. unknown {R = R} (name z) ∷ []) (sym at)
unknown_more {R} name (k ∷ cells) (suc i) c h at = ap (λ l. unknown {R = R} (name k) ∷ l) (unknown_more {R = R} name cells i c (omega arith) at)

pub one_noted : {R C : Type 0} (name : C → ℕ) (cells : List C) (named : List ℕ) (i : ℕ) (c : C) (notes now : List (Note R)) (note : Note R) → map name cells ≡ named → i < length cells → c ≡ get_or cells i c
    → map noted notes ≡ map unknown (take i named) → now ≡ notes ++ note ∷ [] → note.cell ≡ name c → note.known ≡ None → map noted now ≡ map unknown (take (i + 1) named)
one_noted {R} name cells named i c notes now note is h at so more cell known =
    let e : i + 1 ≡ suc i = omega arith in
    ap (map noted) more ∙ (map-append noted notes (note ∷ []) ∙ (ap (λ l. l ++ noted note ∷ []) so
    ∙ (ap (λ n. map (unknown {R = R}) (take i named) ++ n ∷ []) (λ j. (cell j, known j))
    ∙ (ap (λ l. map (unknown {R = R}) (take i l) ++ unknown (name c) ∷ []) (sym is)
    ∙ (sym (unknown_more {R = R} name cells i c h at) ∙ (ap (λ k. map (unknown {R = R}) (take k (map name cells))) (sym e) ∙ ap (λ l. map (unknown {R = R}) (take (i + 1) l)) is))))))

pub cells_are : {R : Type 0} (notes : List (Note R)) → cells_of (map noted notes) ≡ map (λ (n : Note R). n.cell) notes
cells_are [] = refl
cells_are (n ∷ notes) = ap (λ l. n.cell ∷ l) (cells_are notes)

pub length_mapped : {A B : Type 0} (f : A → B) (xs : List A) → length (map f xs) ≡ length xs
length_mapped f [] = refl
length_mapped f (x ∷ xs) = ap suc (length_mapped f xs)

-- what a look finds is what was known
pub still_found : {R B : Type 0} (of : B → R) (old new : Option R) (found : Option B) → MatchOption found ((old ≡ None) × (new ≡ None)) (λ b. (new ≡ Some (of b)) × Agrees old (of b)) → StillKnows old new
still_found of None new found h = tt
still_found of (Some v) new None h = absurd (cc (h.0))
still_found of (Some v) new (Some b) h = h.0 ∙ ap Some (sym h.1)

pub still_lent : {R : Type 0} (old new : Option R) (lent : R) → new ≡ Some lent → Agrees old lent → StillKnows old new
still_lent None new lent is agrees = tt
still_lent (Some v) new lent is agrees = is ∙ ap Some (sym agrees)

pub when_none : {B : Type 0} (P S : Type 0) (Q : B → Type 0) → (P → S) → (found : Option B) → MatchOption found P Q → IfNone found S
when_none P S Q f None h = f h
when_none P S Q f (Some b) h = tt

pub when_some : {B : Type 0} (P : Type 0) (Q S : B → Type 0) → ((b : B) → Q b → S b) → (found : Option B) → MatchOption found P Q → IfSome found S
when_some P Q S f None h = tt
when_some P Q S f (Some b) h = f b h

-- notes of cells have as many members as there are cells
pub of_within : {R : Type 0} (notes : List (Note R)) (named : List ℕ) (i : ℕ) → cells_of (map noted notes) ≡ named → i < length named → i < length notes
of_within notes named i of h =
    let l = ap length (sym (cells_are notes) ∙ of) in
    let k = length_mapped (λ (n : Note _). n.cell) notes in omega (arith, h, l, k)

of_unknown : (R : Type 0) (cells : List ℕ) → cells_of (map (unknown {R = R}) cells) ≡ cells
of_unknown R [] = refl
of_unknown R (c ∷ cells) = ap (λ l. c ∷ l) (of_unknown R cells)

pub all_noted : {R C : Type 0} (name : C → ℕ) (cells : List C) (named : List ℕ) (i : ℕ) (notes : List (Note R)) → map name cells ≡ named → length cells ≤ i → map noted notes ≡ map unknown (take i named) → cells_of (map noted notes) ≡ named
all_noted {R} name cells named i notes is h so =
    let l = length_named name cells in
    let k = ap length is in
    ap cells_of so ∙ (of_unknown R (take i named) ∙ take_all i named (omega (arith, h, l, k)))
