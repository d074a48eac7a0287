-- What an accepted text shows: each goal lies in the subgroup. A part written out is the same as its
-- letters followed by its members, since each relator sign goes by one deletion; the letters vanish.
use Rattle.std.proofs.Common.{◌≡◌, ℕ, ◌-◌, ◌<◌, ◌≤◌, Bool, true, false, ℤ, List, [], ◌∷◌, ◌++◌, length, get_or, refl, ap, subst, ◌∙◌, arith}
use Rattle.std.specs.Prelude.{slice_index_or, Contains}
use Rattle.std.specs.List.{AllByRecursion, flat_map}
use Rattle.std.proofs.lemmas.List.{append-nil}
use Rattle.std.proofs.lemmas.List.Elements.{Contains-get_or}
use Rattle.std.proofs.lemmas.Grind.{flat_map-append}
use Rattle.mg_words.specs.Chain.{FreelyEqual, Same}
use Rattle.mg_words.proofs.Chains.{Same-refl, Same-sym, Same-trans, Same-before, Same-after, Same-from_free, Same-relator, Same-relator_inverse}
use Rattle.mg_present.specs.Presentation.{Group}
use Rattle.mg_present.specs.Ask.{Inquiry}
use Rattle.mg_present.specs.Same.{signed, product, Lies, Holds}
use Rattle.mg_present.proofs.Sameness.{lies_in_none}
use Rattle.mg_derive.specs.declared.symbol.Symbol.{Symbol}
use Rattle.mg_derive.specs.declared.symbol.Symbol.TheVariants.{Letter, Relator, Member, Cut}
use Rattle.mg_derive.specs.Symbols.{IsPlaceIn, IsSymbolOf, word_of, letter_of, written_out, letters_alone}
use Rattle.mg_derive.specs.Acceptance.{IsOfGroup, IsMember, IsInOrder, Vanishes, Write, IsAccepted}
use Rattle.mg_derive.proofs.Lists.{all_left, all_right}

-- the word of a relator sign is the same as the empty word
relator_vanishes : (m : ℕ) (rs : List (List ℤ)) (place : ℕ) (inverse : Bool) → IsPlaceIn rs place → Same m rs (signed inverse (slice_index_or rs (place - 1) [])) []
relator_vanishes m rs place inverse h =
    let below : place - 1 < length rs = let least = h.least in let most = h.most in omega arith in
    let there : Contains rs (get_or rs (place - 1) []) = Contains-get_or rs (place - 1) [] below in
    elim inverse as (λ b. Same m rs (signed b (slice_index_or rs (place - 1) [])) [])
    [ false ↦ Same-relator m rs (get_or rs (place - 1) []) there | true ↦ Same-relator_inverse m rs (get_or rs (place - 1) []) there ]

-- letters and relator signs written out are the same as the letters alone
front_is_letters : (ask : Inquiry) (front : List Symbol) → AllByRecursion (IsSymbolOf ask) front → AllByRecursion IsOfGroup front
    → Same ask.group.generators ask.group.relators (written_out ask front) (letters_alone front)
front_is_letters ask [] h k = Same-refl ask.group.generators ask.group.relators []
front_is_letters ask (Letter x ∷ rest) h k =
    Same-before ask.group.generators ask.group.relators (x ∷ []) (written_out ask rest) (letters_alone rest) (front_is_letters ask rest h.1 k.1)
front_is_letters ask (Relator place inverse ∷ rest) h k =
    Same-trans ask.group.generators ask.group.relators (word_of ask (Relator place inverse) ++ written_out ask rest) (written_out ask rest) (letters_alone rest)
    (Same-after ask.group.generators ask.group.relators (written_out ask rest) (word_of ask (Relator place inverse)) [] (relator_vanishes ask.group.generators ask.group.relators place inverse h.0))
    (front_is_letters ask rest h.1 k.1)
front_is_letters ask (Member place inverse ∷ rest) h k = absurd k.0
front_is_letters ask (Cut ∷ rest) h k = absurd k.0

-- the factors that member signs stand for
factors_of : List Symbol → List (ℕ × Bool)
factors_of [] = []
factors_of (Member place inverse ∷ rest) = (place - 1, inverse) ∷ factors_of rest
factors_of (Letter x ∷ rest) = factors_of rest
factors_of (Relator place inverse ∷ rest) = factors_of rest
factors_of (Cut ∷ rest) = factors_of rest

-- member signs written out are the product of their factors, and have no letters
back_is_product : (ask : Inquiry) (back : List Symbol) → AllByRecursion IsMember back → written_out ask back ≡ product ask.subgroup (factors_of back)
unfolding factors_of
back_is_product ask [] k = refl
back_is_product ask (Member place inverse ∷ rest) k = ap (λ t. word_of ask (Member place inverse) ++ t) (back_is_product ask rest k.1)
back_is_product ask (Letter x ∷ rest) k = absurd k.0
back_is_product ask (Relator place inverse ∷ rest) k = absurd k.0
back_is_product ask (Cut ∷ rest) k = absurd k.0

back_has_no_letters : (back : List Symbol) → AllByRecursion IsMember back → letters_alone back ≡ []
back_has_no_letters [] k = refl
back_has_no_letters (Member place inverse ∷ rest) k = back_has_no_letters rest k.1
back_has_no_letters (Letter x ∷ rest) k = absurd k.0
back_has_no_letters (Relator place inverse ∷ rest) k = absurd k.0
back_has_no_letters (Cut ∷ rest) k = absurd k.0

factors_there : (ask : Inquiry) (back : List Symbol) → AllByRecursion (IsSymbolOf ask) back → AllByRecursion IsMember back
    → AllByRecursion (λ (factor : ℕ × Bool). factor.0 < length ask.subgroup) (factors_of back)
unfolding factors_of
factors_there ask [] h k = tt
factors_there ask (Member place inverse ∷ rest) h k =
    let least : 1 ≤ place = h.0.least in
    let most : place ≤ length ask.subgroup = h.0.most in
    let below : place - 1 < length ask.subgroup = omega arith in
    (below, factors_there ask rest h.1 k.1)
factors_there ask (Letter x ∷ rest) h k = absurd k.0
factors_there ask (Relator place inverse ∷ rest) h k = absurd k.0
factors_there ask (Cut ∷ rest) h k = absurd k.0

-- the goal of a part lies in the subgroup
split_lies : (ask : Inquiry) (front back : List Symbol) (goal : List ℤ) → AllByRecursion (IsSymbolOf ask) front → AllByRecursion (IsSymbolOf ask) back
    → AllByRecursion IsOfGroup front → AllByRecursion IsMember back
    → FreelyEqual ask.group.generators (letters_alone (front ++ back)) [] → FreelyEqual ask.group.generators (written_out ask (front ++ back)) goal
    → Lies ask.group ask.subgroup goal
split_lies ask front back goal hf hb of_group members vanish write =
    let m : ℕ = ask.group.generators in
    let rs : List (List ℤ) = ask.group.relators in
    let w : List ℤ = written_out ask front in
    let v : List ℤ = written_out ask back in
    let u : List ℤ = letters_alone front in
    let letters : letters_alone (front ++ back) ≡ u =
    flat_map-append letter_of front back ∙ (ap (λ t. u ++ t) (back_has_no_letters back members) ∙ append-nil u) in
    let gone : Same m rs u [] = Same-from_free m rs u [] (subst (λ (t : List ℤ). FreelyEqual m t []) letters vanish) in
    let front_gone : Same m rs w [] = Same-trans m rs w u [] (front_is_letters ask front hf of_group) gone in
    let rest : Same m rs (w ++ v) v = Same-after m rs v w [] front_gone in
    let whole : Same m rs (w ++ v) goal =
    subst (λ (t : List ℤ). Same m rs t goal) (flat_map-append (word_of ask) front back) (Same-from_free m rs (written_out ask (front ++ back)) goal write) in
    record {
      factors = factors_of back;
      there = factors_there ask back hb members;
      same = subst (λ (t : List ℤ). Same m rs t goal) (back_is_product ask back members) (Same-trans m rs v (w ++ v) goal (Same-sym m rs (w ++ v) v rest) whole);
    }

part_lies : (ask : Inquiry) (part : List Symbol) (goal : List ℤ) → AllByRecursion (IsSymbolOf ask) part → IsInOrder part
    → Vanishes ask part → FreelyEqual ask.group.generators (written_out ask part) goal → Lies ask.group ask.subgroup goal
part_lies ask part goal h order vanish write =
    let symbols : AllByRecursion (IsSymbolOf ask) (order.front ++ order.back) = subst (λ (t : List Symbol). AllByRecursion (IsSymbolOf ask) t) order.split h in
    split_lies ask order.front order.back goal (all_left (IsSymbolOf ask) order.front order.back symbols) (all_right (IsSymbolOf ask) order.front order.back symbols)
    order.of_group order.members
    (subst (λ (t : List Symbol). Vanishes ask t) order.split vanish)
    (subst (λ (t : List Symbol). FreelyEqual ask.group.generators (written_out ask t) goal) order.split write)

parts_lie : (ask : Inquiry) (parts : List (List Symbol)) (goals : List (List ℤ)) → AllByRecursion (IsSymbolOf ask) (flat_map (λ part. part ++ Cut ∷ []) parts)
    → AllByRecursion IsInOrder parts → AllByRecursion (Vanishes ask) parts → Write ask parts goals → AllByRecursion (Lies ask.group ask.subgroup) goals
parts_lie ask [] [] h order vanish write = tt
parts_lie ask [] (goal ∷ goals) h order vanish write = absurd write
parts_lie ask (part ∷ parts) [] h order vanish write = absurd write
parts_lie ask (part ∷ parts) (goal ∷ goals) h order vanish write =
    let rest : List Symbol = flat_map (λ (p : List Symbol). p ++ Cut ∷ []) parts in (
      part_lies ask part goal (all_left (IsSymbolOf ask) part (Cut ∷ []) (all_left (IsSymbolOf ask) (part ++ Cut ∷ []) rest h)) order.0 vanish.0 write.0,
      parts_lie ask parts goals (all_right (IsSymbolOf ask) (part ++ Cut ∷ []) rest h) order.1 vanish.1 write.1,
    )

-- each goal of an accepted text lies in the subgroup
pub accepted_holds : (ask : Inquiry) (text : List Symbol) → IsAccepted ask text → Holds ask
accepted_holds ask text accepted =
    parts_lie ask accepted.parts ask.goals
    (subst (λ (t : List Symbol). AllByRecursion (IsSymbolOf ask) t) accepted.cut accepted.symbols)
    accepted.in_order accepted.vanish accepted.write

-- without subgroup words each goal is the same as the empty word
all_vanish : (group : Group) (goals : List (List ℤ)) → AllByRecursion (Lies group []) goals → AllByRecursion (λ goal. Same group.generators group.relators goal []) goals
all_vanish group [] h = tt
all_vanish group (goal ∷ goals) h = (lies_in_none group goal h.0, all_vanish group goals h.1)

pub accepted_vanish : (ask : Inquiry) (text : List Symbol) → ask.subgroup ≡ [] → IsAccepted ask text → AllByRecursion (λ goal. Same ask.group.generators ask.group.relators goal []) ask.goals
accepted_vanish ask text none accepted =
    all_vanish ask.group ask.goals (subst (λ (members : List (List ℤ)). AllByRecursion (Lies ask.group members) ask.goals) none (accepted_holds ask text accepted))
