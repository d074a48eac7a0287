-- The steps of the checker's loops.
use Rattle.std.proofs.Common.{◌≡◌, ◌≢◌, ℕ, ◌+◌, ◌*◌, ◌<◌, ◌≤◌, Bool, true, false, ℤ, List, [], ◌∷◌, ◌++◌, length, get_or, take, drop, neg_ℤ, ◌-◌, Some, refl, sym, ap, subst, ◌∙◌, append_assoc, arith, eq-eqb, reverse, Result, Ok, Err, inl, inr}
use Rattle.std.specs.Prelude.{◌↔◌, ◌==◌, IsTrue, IfOk, EachIndex, slice_get, slice_index_or, nat_abs, not}
use Rattle.std.proofs.lemmas.Bool.{false≢true, cases_lt}
use Rattle.std.proofs.lemmas.Bool.Decides.{Decides-eqb}
use Rattle.std.specs.Ordering.{is_eq}
use Rattle.std.specs.declared.cmp.Ordering.{Ordering}
use Rattle.std.specs.declared.cmp.Ordering.TheVariants.{Less, Equal, Greater}
use Rattle.std.proofs.lemmas.List.{append-nil, length-append, length-take, length-map, length-drop, length-reverse, take_more, drop_more, drop_all, get_or_past, nil_from_length}
use Rattle.std.proofs.Math.Nat.{mul-le-mul_left}
use Rattle.std.proofs.lemmas.Option.{slice_get_within, get_or_from_slice_get}
use Rattle.mg_words.specs.Letter.{IsLetterOf, number_of}
use Rattle.mg_words.specs.Word.{IsReduced, inv}
use Rattle.mg_words.specs.Reduction.{PushesReduced, free_form}
use Rattle.mg_words.proofs.Chains.{inv-inv, length-inv}
use Rattle.mg_words.proofs.Free.{free_form-left, free_form-right, free_form-times_inverse, free_form-reduced, free_form-length, pushed_onto, pushed_is}
use Rattle.mg_present.specs.Ask.{Inquiry, IsAsked}
use Rattle.mg_present.specs.Same.{signed}
use Rattle.mg_derive.specs.declared.symbol.Symbol.{Symbol}
use Rattle.mg_derive.specs.declared.symbol.Symbol.TheVariants.{Letter, Relator, Member, Cut}
use Rattle.mg_derive.specs.Symbols.{IsPlaceIn, word_of, written_out, letters_alone}
use Rattle.mg_derive.specs.Reading.{Runs, Standing, Takes}
use Rattle.mg_derive.specs.Acceptance.{IsAccepted}
use Rattle.mg_derive.specs.Room.{Room, HasRoomForLength}
use Rattle.mg_derive.specs.Walk.{WritesAtMost}
use Rattle.mg_derive.proofs.Parts.{accepted_from_runs, runs_from_accepted}

-- a reduced word, before the letters of another are pushed
pub word_start : (u : List ℤ) → IsReduced u → u ≡ free_form (u ++ [])
word_start u h = sym (free_form-reduced u h) ∙ ap free_form (sym (append-nil u))

pub word_next : (u w old new : List ℤ) (i : ℕ) (x : ℤ) → i < length w → x ≡ get_or w i x → old ≡ free_form (u ++ take i w) → PushesReduced old x new → new ≡ free_form (u ++ take (i + 1) w)
word_next u w old new i x l r e p =
    pushed_onto (u ++ take i w) x new (subst (λ (t : List ℤ). PushesReduced t x new) e p)
    ∙ ap free_form (append_assoc u (take i w) (x ∷ []) ∙ ap (λ t. u ++ t) (ap (λ z. take i w ++ z ∷ []) r ∙ sym (take_more w i x l)))

pub word_room : (u w v : List ℤ) (i : ℕ) → i < length w → v ≡ free_form (u ++ take i w) → length v + 1 ≤ length u + length w
word_room u w v i l e = omega (arith, ap length e, free_form-length (u ++ take i w), length-append u (take i w), length-take i w)

signed_length : (inverse : Bool) (w : List ℤ) → length (signed inverse w) ≡ length w
signed_length false w = refl
signed_length true w = length-map (reverse w) neg_ℤ ∙ length-reverse w

-- a product is no longer than its factors
pub product_length : (u w v : List ℤ) → v ≡ free_form (u ++ w) → length v ≤ length u + length w
product_length u w v e = omega (arith, ap length e, free_form-length (u ++ w), length-append u w)

-- what a test of the order says
pub equal_from_test : (o : Ordering) (r : Bool) → r ≡ is_eq o → r ≡ true → o ≡ Equal
equal_from_test Less r e t = cc
equal_from_test Equal r e t = refl
equal_from_test Greater r e t = cc

pub test_from_equal : (o : Ordering) (r : Bool) → r ≡ is_eq o → o ≡ Equal → r ≡ true
test_from_equal o r e f = e ∙ ap is_eq f

-- what a test of emptiness and a test of sameness say
pub not_empty : (items l : List ℤ) (r : Bool) → r ≡ (length items == 0) → items ≡ l → r ≡ false → l ≢ []
not_empty items l r e i f n = let k : items ≡ [] = i ∙ n in false≢true (sym f ∙ (e ∙ ap (λ t. length t == 0) k))

pub empty : (items l : List ℤ) (r : Bool) → r ≡ (length items == 0) → items ≡ l → r ≡ true → l ≡ []
empty items l r e i f = sym i ∙ nil_from_length items ((Decides-eqb (length items) 0).0 (sym e ∙ f))

pub not_same : (u v : List ℤ) (r : Bool) → (IsTrue r ↔ (u ≡ v)) → r ≡ false → u ≢ v
not_same u v r h f e = false≢true (sym f ∙ h.1 e)

-- a letter by its place and sign
abs_number : (place : ℕ) (inverse : Bool) → 1 ≤ place → nat_abs (number_of place inverse) ≡ place
abs_number place false h = refl
abs_number place true h = omega arith

pub letter_within : (m place : ℕ) (inverse : Bool) (x : ℤ) → number_of place inverse ≡ x → 1 ≤ place → place ≤ m → IsLetterOf m x
letter_within m place inverse x e h k =
    let a : nat_abs x ≡ place = sym (ap nat_abs e) ∙ abs_number place inverse h in
    record { least = omega arith; most = omega arith }

-- ---- one symbol refused

-- the goal at a place
pub goal_at : (all : List (List ℤ)) (i : ℕ) (g : List ℤ) → slice_get all i ≡ Some g → drop i all ≡ g ∷ drop (i + 1) all
goal_at all i g e = drop_more all i [] (slice_get_within all i g e) ∙ ap (λ t. t ∷ drop (i + 1) all) (get_or_from_slice_get all i g [] e)

pub cut_refused_letters : (ask : Inquiry) (goals : List (List ℤ)) (members : Bool) (l w : List ℤ) (symbol : Symbol) → symbol ≡ Cut → l ≢ []
    → (rest : List Symbol) → Runs ask (symbol ∷ rest) goals members l w → ⊥
cut_refused_letters ask goals members l w symbol e n rest r =
    let h : Runs ask (Cut ∷ rest) goals members l w = subst (λ (t : Symbol). Runs ask (t ∷ rest) goals members l w) e r in n h.2.1

pub cut_refused_goal : (ask : Inquiry) (all : List (List ℤ)) (i : ℕ) (g : List ℤ) (members : Bool) (l w : List ℤ) (symbol : Symbol) → symbol ≡ Cut
    → slice_get all i ≡ Some g → w ≢ g → (rest : List Symbol) → Runs ask (symbol ∷ rest) (drop i all) members l w → ⊥
cut_refused_goal ask all i g members l w symbol e s n rest r =
    let h : Runs ask (Cut ∷ rest) (drop i all) members l w = subst (λ (t : Symbol). Runs ask (t ∷ rest) (drop i all) members l w) e r in
    let f : g ∷ drop (i + 1) all ≡ w ∷ drop 1 (drop i all) = sym (goal_at all i g s) ∙ h.2.0 in
    n (cc f)

-- ---- one symbol read

pub letter_exact : (ask : Inquiry) (goal : ℕ) (members : Bool) (l w l' w' : List ℤ) (symbol : Symbol) (x : ℤ) → symbol ≡ Letter x → goal < length ask.goals → IsLetterOf ask.group.generators x → members ≡ false
    → IsReduced l → IsReduced w → PushesReduced l x l' → PushesReduced w x w' → Takes ask symbol (record { goal = goal; members = members; letters = l; written = w }) (record { goal = goal; members = members; letters = l'; written = w' })
letter_exact ask goal members l w l' w' symbol x e some s m h k p q =
    let there : Takes ask (Letter x) (record { goal = goal; members = members; letters = l; written = w }) (record { goal = goal; members = members; letters = l'; written = w' }) =
    record { some = some; is_symbol = s; allowed = m; goal = refl; members = m; letters = pushed_is l x l' h p; written = pushed_is w x w' k q } in
    subst (λ (t : Symbol). Takes ask t (record { goal = goal; members = members; letters = l; written = w }) (record { goal = goal; members = members; letters = l'; written = w' })) (sym e) there

pub relator_exact : (ask : Inquiry) (goal : ℕ) (members : Bool) (l w w' : List ℤ) (symbol : Symbol) (place : ℕ) (inverse : Bool) → symbol ≡ Relator place inverse → goal < length ask.goals → IsPlaceIn ask.group.relators place → members ≡ false
    → IsReduced l → w' ≡ free_form (w ++ word_of ask (Relator place inverse)) → Takes ask symbol (record { goal = goal; members = members; letters = l; written = w }) (record { goal = goal; members = members; letters = l; written = w' })
relator_exact ask goal members l w w' symbol place inverse e some s m h p =
    let there : Takes ask (Relator place inverse) (record { goal = goal; members = members; letters = l; written = w }) (record { goal = goal; members = members; letters = l; written = w' }) =
    record { some = some; is_symbol = s; allowed = m; goal = refl; members = m; letters = word_start l h; written = p } in
    subst (λ (t : Symbol). Takes ask t (record { goal = goal; members = members; letters = l; written = w }) (record { goal = goal; members = members; letters = l; written = w' })) (sym e) there

pub member_exact : (ask : Inquiry) (goal : ℕ) (members : Bool) (l w w' : List ℤ) (symbol : Symbol) (place : ℕ) (inverse : Bool) → symbol ≡ Member place inverse → goal < length ask.goals → IsPlaceIn ask.subgroup place
    → IsReduced l → w' ≡ free_form (w ++ word_of ask (Member place inverse)) → Takes ask symbol (record { goal = goal; members = members; letters = l; written = w }) (record { goal = goal; members = true; letters = l; written = w' })
member_exact ask goal members l w w' symbol place inverse e some s h p =
    let there : Takes ask (Member place inverse) (record { goal = goal; members = members; letters = l; written = w }) (record { goal = goal; members = true; letters = l; written = w' }) =
    record { some = some; is_symbol = s; allowed = tt; goal = refl; members = refl; letters = word_start l h; written = p } in
    subst (λ (t : Symbol). Takes ask t (record { goal = goal; members = members; letters = l; written = w }) (record { goal = goal; members = true; letters = l; written = w' })) (sym e) there

pub cut_exact : (ask : Inquiry) (goal : ℕ) (g : List ℤ) (members : Bool) (l w w' : List ℤ) (symbol : Symbol) → symbol ≡ Cut → goal < length ask.goals → slice_get ask.goals goal ≡ Some g → l ≡ [] → w ≡ g → w' ≡ []
    → Takes ask symbol (record { goal = goal; members = members; letters = l; written = w }) (record { goal = goal + 1; members = false; letters = l; written = w' })
cut_exact ask goal g members l w w' symbol e some s el ew en =
    let there : Takes ask Cut (record { goal = goal; members = members; letters = l; written = w }) (record { goal = goal + 1; members = false; letters = l; written = w' }) = record {
      some = some;
      is_symbol = tt;
      allowed = (el, ew ∙ sym (get_or_from_slice_get ask.goals goal g [] s));
      goal = refl;
      members = refl;
      letters = el ∙ ap (λ t. free_form (t ++ [])) (sym el);
      written = en;
    } in
    subst (λ (t : Symbol). Takes ask t (record { goal = goal; members = members; letters = l; written = w }) (record { goal = goal + 1; members = false; letters = l; written = w' })) (sym e) there

-- ---- one symbol taken back

pub undone : (u w : List ℤ) → IsReduced u → free_form (free_form (u ++ w) ++ inv w) ≡ u
undone u w h =
    sym (free_form-left (u ++ w) (inv w))
    ∙ (ap free_form (append_assoc u w (inv w))
    ∙ (free_form-right u (w ++ inv w)
    ∙ (ap (λ t. free_form (u ++ t)) (free_form-times_inverse w) ∙ sym (word_start u h))))

back_to : (u v w z : List ℤ) → IsReduced u → v ≡ free_form (u ++ z) → w ≡ free_form (v ++ inv z) → w ≡ u
back_to u v w z h e f = f ∙ (ap (λ t. free_form (t ++ inv z)) e ∙ undone u z h)

signed_back : (inverse : Bool) (w : List ℤ) → signed (not inverse) w ≡ inv (signed inverse w)
signed_back false w = refl
signed_back true w = sym (inv-inv w)

-- what is taken back where a symbol took these words to those
pub letter_back : (ask : Inquiry) (symbol : Symbol) (x y : ℤ) (before after : Standing) (l w l' w' : List ℤ) → symbol ≡ Letter x → y ≡ neg_ℤ x → Takes ask symbol before after → after.letters ≡ l → after.written ≡ w
    → IsReduced before.letters → IsReduced before.written → IsReduced l → IsReduced w → PushesReduced l y l' → PushesReduced w y w' → (l' ≡ before.letters) × (w' ≡ before.written)
letter_back ask symbol x y before after l w l' w' e f t el ew hl hw k m p q =
    let there : Takes ask (Letter x) before after = subst (λ (s : Symbol). Takes ask s before after) e t in (
      back_to before.letters l l' (x ∷ []) hl (sym el ∙ there.letters) (pushed_is l y l' k p ∙ ap (λ z. free_form (l ++ z ∷ [])) f),
      back_to before.written w w' (x ∷ []) hw (sym ew ∙ there.written) (pushed_is w y w' m q ∙ ap (λ z. free_form (w ++ z ∷ [])) f),
    )

letters_stay : (before l : List ℤ) → IsReduced before → l ≡ free_form (before ++ []) → l ≡ before
letters_stay before l h e = e ∙ sym (word_start before h)

pub relator_back : (ask : Inquiry) (symbol : Symbol) (place : ℕ) (inverse : Bool) (before after : Standing) (l w w' : List ℤ) → symbol ≡ Relator place inverse → Takes ask symbol before after → after.letters ≡ l → after.written ≡ w
    → IsReduced before.letters → IsReduced before.written → w' ≡ free_form (w ++ word_of ask (Relator place (not inverse))) → (l ≡ before.letters) × (w' ≡ before.written)
relator_back ask symbol place inverse before after l w w' e t el ew hl hw p =
    let there : Takes ask (Relator place inverse) before after = subst (λ (s : Symbol). Takes ask s before after) e t in (
      letters_stay before.letters l hl (sym el ∙ there.letters),
      back_to before.written w w' (word_of ask (Relator place inverse)) hw (sym ew ∙ there.written) (p ∙ ap (λ z. free_form (w ++ z)) (signed_back inverse _)),
    )

pub member_back : (ask : Inquiry) (symbol : Symbol) (place : ℕ) (inverse : Bool) (before after : Standing) (l w w' : List ℤ) → symbol ≡ Member place inverse → Takes ask symbol before after → after.letters ≡ l → after.written ≡ w
    → IsReduced before.letters → IsReduced before.written → w' ≡ free_form (w ++ word_of ask (Member place (not inverse))) → (l ≡ before.letters) × (w' ≡ before.written)
member_back ask symbol place inverse before after l w w' e t el ew hl hw p =
    let there : Takes ask (Member place inverse) before after = subst (λ (s : Symbol). Takes ask s before after) e t in (
      letters_stay before.letters l hl (sym el ∙ there.letters),
      back_to before.written w w' (word_of ask (Member place inverse)) hw (sym ew ∙ there.written) (p ∙ ap (λ z. free_form (w ++ z)) (signed_back inverse _)),
    )

pub cut_back : (ask : Inquiry) (symbol : Symbol) (goal : ℕ) (g : List ℤ) (before after : Standing) (l w' : List ℤ) → symbol ≡ Cut → Takes ask symbol before after → after.letters ≡ l → before.goal ≡ goal
    → IsReduced before.letters → IsReduced before.written → slice_get ask.goals goal ≡ Some g → w' ≡ free_form g → (l ≡ before.letters) × (w' ≡ before.written)
cut_back ask symbol goal g before after l w' e t el f hl hw s p =
    let there : Takes ask Cut before after = subst (λ (s : Symbol). Takes ask s before after) e t in
    let same : before.written ≡ g = there.allowed.1 ∙ (ap (λ i. get_or ask.goals i []) f ∙ get_or_from_slice_get ask.goals goal g [] s) in
    (letters_stay before.letters l hl (sym el ∙ there.letters), p ∙ (ap free_form (sym same) ∙ free_form-reduced before.written hw))

-- ---- the whole text

pub refused_here : (ask : Inquiry) (text : List Symbol) (i : ℕ) (symbol : Symbol) (goals : List (List ℤ)) (members : Bool) (l w : List ℤ) → IsAsked ask
    → i < length text → symbol ≡ get_or text i symbol → (Runs ask (drop i text) goals members l w ↔ Runs ask text ask.goals false [] [])
    → ((rest : List Symbol) → Runs ask (symbol ∷ rest) goals members l w → ⊥) → IsTrue false ↔ IsAccepted ask text
refused_here ask text i symbol goals members l w a k e h n =
    let d : drop i text ≡ symbol ∷ drop (i + 1) text = drop_more text i symbol k ∙ ap (λ s. s ∷ drop (i + 1) text) (sym e) in
    (λ t. absurd (false≢true t), λ r. absurd (n (drop (i + 1) text) (subst (λ (t : List Symbol). Runs ask t goals members l w) d (h.1 (runs_from_accepted ask text a r)))))

-- all goals are done exactly where none is left
none_left : (X : Type 0) (all : List X) (i : ℕ) → i ≤ length all → drop i all ≡ [] → i ≡ length all
none_left X all i h e = omega (arith, length-drop i all, ap length e)

pub finished : (ask : Inquiry) (text : List Symbol) (i goal : ℕ) (members : Bool) (l w : List ℤ) (r : Bool) → IsAsked ask
    → goal ≤ length ask.goals → length text ≤ i → r ≡ (goal == length ask.goals) → (Runs ask (drop i text) (drop goal ask.goals) members l w ↔ Runs ask text ask.goals false [] [])
    → IsTrue r ↔ IsAccepted ask text
finished ask text i goal members l w r a g n e h =
    let d : drop i text ≡ [] = drop_all i text n in
    let there : IsTrue r → IsAccepted ask text = λ t.
    let k : goal ≡ length ask.goals = (Decides-eqb goal (length ask.goals)).0 (sym e ∙ t) in
    accepted_from_runs ask text a (h.0 (subst (λ (t : List Symbol). Runs ask t (drop goal ask.goals) members l w) (sym d) (drop_all goal ask.goals (omega arith)))) in
    let back : IsAccepted ask text → IsTrue r = λ p.
    let f : drop goal ask.goals ≡ [] = subst (λ (t : List Symbol). Runs ask t (drop goal ask.goals) members l w) d (h.1 (runs_from_accepted ask text a p)) in
    e ∙ eq-eqb goal (length ask.goals) (none_left (List ℤ) ask.goals goal g f) in
    (there, back)

-- ---- room for texts of a length

-- no symbol writes more letters than the longest word has
any_index : (words : List (List ℤ)) (most : ℕ) → EachIndex words (λ k. length (slice_index_or words k []) ≤ most) → (k : ℕ) → length (slice_index_or words k []) ≤ most
any_index words most h k =
    elim (cases_lt k (length words)) as (λ _. length (slice_index_or words k []) ≤ most) [
      | inl within ↦ h k within
      | inr past ↦ omega (arith, ap length (get_or_past words k [] past))
    ]

length_signed : (inverse : Bool) (w : List ℤ) → length (signed inverse w) ≡ length w
length_signed false w = refl
length_signed true w = length-inv w

longest_writes : (ask : Inquiry) (relator member most : ℕ) → EachIndex ask.group.relators (λ k. length (slice_index_or ask.group.relators k []) ≤ relator)
    → EachIndex ask.subgroup (λ k. length (slice_index_or ask.subgroup k []) ≤ member) → 1 ≤ most → relator ≤ most → member ≤ most → WritesAtMost ask most
longest_writes ask relator member most r m one below_r below_m (Letter x) = one
longest_writes ask relator member most r m one below_r below_m (Relator place inverse) =
    omega (arith, length_signed inverse (slice_index_or ask.group.relators (place - 1) []), any_index ask.group.relators relator r (place - 1))
longest_writes ask relator member most r m one below_r below_m (Member place inverse) =
    omega (arith, length_signed inverse (slice_index_or ask.subgroup (place - 1) []), any_index ask.subgroup member m (place - 1))
longest_writes ask relator member most r m one below_r below_m Cut = omega arith

pub longest_written : (ask : Inquiry) (relators members : List (List ℤ)) (relator member most : ℕ) → relators ≡ ask.group.relators → members ≡ ask.subgroup
    → EachIndex relators (λ k. length (slice_index_or relators k []) ≤ relator) → EachIndex members (λ k. length (slice_index_or members k []) ≤ member)
    → 1 ≤ most → relator ≤ most → member ≤ most → WritesAtMost ask most
longest_written ask relators members relator member most e f r m =
    longest_writes ask relator member most
    (subst (λ (words : List (List ℤ)). EachIndex words (λ k. length (slice_index_or words k []) ≤ relator)) e r)
    (subst (λ (words : List (List ℤ)). EachIndex words (λ k. length (slice_index_or words k []) ≤ member)) f m)

written_within : (ask : Inquiry) (most : ℕ) → WritesAtMost ask most → (text : List Symbol) → length (written_out ask text) ≤ most * length text
written_within ask most h [] = omega arith
written_within ask most h (symbol ∷ text) =
    rw length-append (omega (arith, h symbol, written_within ask most h text))

letters_within : (text : List Symbol) → length (letters_alone text) ≤ length text
letters_within [] = omega arith
letters_within (Letter x ∷ text) = omega (arith, letters_within text)
letters_within (Relator place inverse ∷ text) = omega (arith, letters_within text)
letters_within (Member place inverse ∷ text) = omega (arith, letters_within text)
letters_within (Cut ∷ text) = omega (arith, letters_within text)

pub room_for_length : (ask : Inquiry) (most symbols : ℕ) (room : Room) → WritesAtMost ask most → symbols ≤ room.letters → most * symbols ≤ room.written
    → HasRoomForLength ask symbols room
room_for_length ask most symbols room h l w text n = record {
  letters = omega (arith, letters_within text);
  written = omega (arith, written_within ask most h text, mul-le-mul_left most n);
}

-- two things that an answer says, joined
pub both_ok : {A E : Type 0} (r : Result A E) (P Q R : A → Type 0) → IfOk r P → IfOk r Q → ((x : A) → P x → Q x → R x) → IfOk r R
both_ok (Ok x) P Q R p q f = f x p q
both_ok (Err e) P Q R p q f = p
