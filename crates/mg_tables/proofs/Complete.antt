-- A stable table without empty entry is an action in which the subgroup words fix row 0.
use Rattle.std.proofs.Common.{◌≡◌, ℕ, ◌<◌, ℤ, List, [], ◌∷◌, length, get_or, Option, Some, None, refl, sym, ap, subst, ◌∙◌, inl, inr}
use Rattle.std.specs.Prelude.{slice_get, IsSome, All}
use Rattle.std.specs.Option.{option_and_then}
use Rattle.std.proofs.lemmas.Bool.{cases_eq, false≢true}
use Rattle.std.proofs.lemmas.List.{append-nil}
use Rattle.std.proofs.lemmas.List.Elements.{All-from_recursion}
use Rattle.std.proofs.lemmas.Option.{slice_get_within, get_or_from_slice_get}
use Rattle.mg_words.specs.Letter.{IsLetterOf}
use Rattle.mg_words.specs.Word.{IsOver}
use Rattle.mg_present.specs.Presentation.{Group, IsRelator, IsPresented}
use Rattle.mg_tables.specs.Table.{Table, entry, row_after, IsTable, IsComplete}
use Rattle.mg_tables.specs.Force.{Sign, Cut, IsRead, IsStable}

value_there : (o : Option ℕ) → IsSome o → (d : ℕ) × (o ≡ Some d)
value_there None h = absurd (false≢true h)
value_there (Some d) h = (d, refl)

-- where a letter leads
pub leads_on : (m : ℕ) (t : Table) → IsComplete m t → (c : ℕ) (x : ℤ) → c < length t → IsLetterOf m x → (d : ℕ) × (entry t c x ≡ Some d)
leads_on m t h c x below l = value_there (entry t c x) (h c x below l)

-- where a word leads
pub word_leads_on : (m : ℕ) (t : Table) → IsTable m t → IsComplete m t → (w : List ℤ) (c : ℕ) → c < length t → IsOver m w → (d : ℕ) × (row_after t c w ≡ Some d)
word_leads_on m t ht h [] c below over = (c, refl)
word_leads_on m t ht h (x ∷ w) c below over =
    let d : (d : ℕ) × (entry t c x ≡ Some d) = leads_on m t h c x below over.0 in
    let e : (e : ℕ) × (row_after t d.0 w ≡ Some e) = word_leads_on m t ht h w d.0 (ht.rows c d.0 x over.0 d.1) over.1 in
    (e.0, ap (option_and_then (λ k. row_after t k w)) d.1 ∙ e.1)

-- a letter leads different rows to different rows
pub rows_apart : (m : ℕ) (t : Table) → IsTable m t → (c d e : ℕ) (x : ℤ) → IsLetterOf m x → entry t c x ≡ Some e → entry t d x ≡ Some e → c ≡ d
rows_apart m t ht c d e x l p q = Some_same (sym (ht.inverse c e x l p) ∙ ht.inverse d e x l q)
  where
    Some_same : {a b : ℕ} → Some a ≡ Some b → a ≡ b
    Some_same e = cc

-- a word that is read leads the row back to itself
pub word_fixes : (group : Group) (subgroup : List (List ℤ)) (t : Table) → IsTable group.generators t → IsStable group subgroup t → IsComplete group.generators t →
    (sign : Sign) (c : ℕ) (w : List ℤ) → c < length t → IsOver group.generators w → IsRead group subgroup t sign c w → row_after t c w ≡ Some c
word_fixes group subgroup t ht hs h sign c w below over read =
    let d : (d : ℕ) × (row_after t c w ≡ Some d) = word_leads_on group.generators t ht h w c below over in
    elim (cases_eq d.0 c) [
      | inl e ↦ d.1 ∙ ap Some e
      | inr ne ↦
          let cut : Cut = record { sign = sign; row = c; place = length w } in
          absurd (hs.no_joining cut d.0 c (record {
            front = w;
            back = [];
            read = subst (λ v. IsRead group subgroup t sign c v) (sym (append-nil w)) read;
            place = refl;
            forces = record { before = d.1; after = refl; differ = ne };
          }))
    ]

-- relators are words over the generators
pub relator_over : (group : Group) → IsPresented group → (k : ℕ) (w : List ℤ) → slice_get group.relators k ≡ Some w → IsOver group.generators w
relator_over group fits k w e =
    let all : All (IsRelator group.generators) group.relators = All-from_recursion (IsRelator group.generators) group.relators fits.relators in
    let is : IsRelator group.generators (get_or group.relators k []) = all k [] (slice_get_within group.relators k w e) in
    subst (λ (v : List ℤ). IsOver group.generators v) (get_or_from_slice_get group.relators k w [] e) is.over
