-- Every true Ask has an accepted text. Along a chain from the product of subgroup words to a goal each word u has a
-- front: letters and relator signs whose letters vanish and which, written out before that product, are freely equal
-- to u. A pair of inverse letters changes nothing. A relator between p and q comes with the letters of p, its sign
-- and the letters of the inverse of p put before the front, and goes with the other sign.
use Rattle.std.proofs.Common.{◌≡◌, ℕ, ◌+◌, ◌-◌, ◌<◌, Bool, true, false, not, ℤ, neg_ℤ, List, [], ◌∷◌, ◌++◌, length, map, get_or, refl, sym, ap, subst, ◌∙◌, inl, inr, append_assoc, arith}
use Rattle.std.specs.Prelude.{slice_index_or, Contains}
use Rattle.std.specs.List.{AllByRecursion, flat_map}
use Rattle.std.proofs.lemmas.List.{append-nil, get_or_default}
use Rattle.std.proofs.lemmas.Grind.{flat_map-append}
use Rattle.mg_words.specs.Word.{inv, IsOver}
use Rattle.mg_words.specs.Chain.{IsPiece, a_pair, a_relator, an_inverse, Step, Leads, FreelyEqual}
use Rattle.mg_words.proofs.Chains.{IsOver-append, IsOver-left, IsOver-right, IsLetterOf-neg, IsOver-inv, Same-refl, Same-sym, Same-trans, Same-before, Same-after, Same-pair, Same-times_inverse, Same-inverse_times}
use Rattle.mg_present.specs.Presentation.{IsRelator}
use Rattle.mg_present.specs.Ask.{Inquiry, IsAsked, IsReducedOver}
use Rattle.mg_present.specs.Same.{signed, product, Lies, Holds}
use Rattle.mg_derive.specs.declared.symbol.Symbol.{Symbol}
use Rattle.mg_derive.specs.declared.symbol.Symbol.TheVariants.{Letter, Relator, Member, Cut}
use Rattle.mg_derive.specs.Symbols.{IsSymbolOf, word_of, letter_of, written_out, letters_alone}
use Rattle.mg_derive.specs.Acceptance.{IsOverGenerators, IsOfGroup, IsMember, IsInOrder, Vanishes, Write, IsAccepted, AcceptedAt}
use Rattle.mg_derive.proofs.Lists.{all_append, all_at}

-- ---- words as lists of symbols

-- a word as a list of symbols
abbrev spelled : List ℤ → List Symbol
spelled w = map Letter w

spelled_symbols : (ask : Inquiry) (w : List ℤ) → IsOver ask.group.generators w → AllByRecursion (IsSymbolOf ask) (spelled w)
spelled_symbols ask [] h = tt
spelled_symbols ask (x ∷ w) h = (h.0, spelled_symbols ask w h.1)

spelled_of_group : (w : List ℤ) → AllByRecursion IsOfGroup (spelled w)
spelled_of_group [] = tt
spelled_of_group (x ∷ w) = (tt, spelled_of_group w)

spelled_written : (ask : Inquiry) (w : List ℤ) → written_out ask (spelled w) ≡ w
spelled_written ask [] = refl
spelled_written ask (x ∷ w) = ap (λ t. x ∷ t) (spelled_written ask w)

spelled_letters : (w : List ℤ) → letters_alone (spelled w) ≡ w
spelled_letters [] = refl
spelled_letters (x ∷ w) = ap (λ t. x ∷ t) (spelled_letters w)

-- the letters of p, a relator sign and the letters of the inverse of p, before a list
abbrev conjugated : List ℤ → ℕ → Bool → List Symbol → List Symbol
conjugated p place inverse front = spelled p ++ Relator place inverse ∷ (spelled (inv p) ++ front)

conjugated_written : (ask : Inquiry) (p : List ℤ) (place : ℕ) (inverse : Bool) (front : List Symbol)
    → written_out ask (conjugated p place inverse front) ≡ p ++ (word_of ask (Relator place inverse) ++ (inv p ++ written_out ask front))
conjugated_written ask p place inverse front =
    flat_map-append (word_of ask) (spelled p) (Relator place inverse ∷ (spelled (inv p) ++ front))
    ∙ (ap (λ t. t ++ written_out ask (Relator place inverse ∷ (spelled (inv p) ++ front))) (spelled_written ask p)
    ∙ ap (λ t. p ++ (word_of ask (Relator place inverse) ++ t))
    (flat_map-append (word_of ask) (spelled (inv p)) front ∙ ap (λ t. t ++ written_out ask front) (spelled_written ask (inv p))))

conjugated_letters : (p : List ℤ) (place : ℕ) (inverse : Bool) (front : List Symbol)
    → letters_alone (conjugated p place inverse front) ≡ p ++ (inv p ++ letters_alone front)
conjugated_letters p place inverse front =
    flat_map-append letter_of (spelled p) (Relator place inverse ∷ (spelled (inv p) ++ front))
    ∙ (ap (λ t. t ++ letters_alone (spelled (inv p) ++ front)) (spelled_letters p)
    ∙ ap (λ t. p ++ t) (flat_map-append letter_of (spelled (inv p)) front ∙ ap (λ t. t ++ letters_alone front) (spelled_letters (inv p))))

-- ---- words in the free group

-- p, then the inverse of p
undone : (m : ℕ) (p q : List ℤ) → IsOver m p → FreelyEqual m (p ++ (inv p ++ q)) q
undone m p q h =
    subst (λ (t : List ℤ). FreelyEqual m t q) (append_assoc p (inv p) q) (Same-after m [] q (p ++ inv p) [] (Same-times_inverse m [] p h))

undone_back : (m : ℕ) (p q : List ℤ) → IsOver m p → FreelyEqual m (inv p ++ (p ++ q)) q
undone_back m p q h =
    subst (λ (t : List ℤ). FreelyEqual m t q) (append_assoc (inv p) p q) (Same-after m [] q (inv p ++ p) [] (Same-inverse_times m [] p h))

-- ---- the front of a word

-- letters and relator signs whose letters vanish and which, written out before v, are freely equal to u
record HasFront (ask : Inquiry) (v u : List ℤ) : Type 0 where
  front : List Symbol
  symbols : AllByRecursion (IsSymbolOf ask) front
  of_group : AllByRecursion IsOfGroup front
  vanish : Vanishes ask front
  write : FreelyEqual ask.group.generators (written_out ask front ++ v) u

first_front : (ask : Inquiry) (v : List ℤ) → HasFront ask v v
first_front ask v = record {
  front = [];
  symbols = tt;
  of_group = tt;
  vanish = Same-refl ask.group.generators [] [];
  write = Same-refl ask.group.generators [] v;
}

-- what is freely equal has the same front
same_front : (ask : Inquiry) (v u w : List ℤ) → HasFront ask v u → FreelyEqual ask.group.generators u w → HasFront ask v w
same_front ask v u w h same = record {
  front = h.front;
  symbols = h.symbols;
  of_group = h.of_group;
  vanish = h.vanish;
  write = Same-trans ask.group.generators [] (written_out ask h.front ++ v) u w h.write same;
}

-- a relator sign put between p and q
put_between : (ask : Inquiry) (v p q : List ℤ) (place : ℕ) (inverse : Bool) → IsOver ask.group.generators p → IsSymbolOf ask (Relator place inverse)
    → HasFront ask v (p ++ q) → HasFront ask v (p ++ (word_of ask (Relator place inverse) ++ q))
put_between ask v p q place inverse over sign h =
    let m : ℕ = ask.group.generators in
    let r : List ℤ = word_of ask (Relator place inverse) in
    let w : List ℤ = written_out ask h.front in
    let back : FreelyEqual m (inv p ++ (w ++ v)) q =
    Same-trans m [] (inv p ++ (w ++ v)) (inv p ++ (p ++ q)) q (Same-before m [] (inv p) (w ++ v) (p ++ q) h.write) (undone_back m p q over) in
    let there : FreelyEqual m (p ++ (r ++ (inv p ++ (w ++ v)))) (p ++ (r ++ q)) =
    Same-before m [] p (r ++ (inv p ++ (w ++ v))) (r ++ q) (Same-before m [] r (inv p ++ (w ++ v)) q back) in
    let joined : p ++ (r ++ (inv p ++ (w ++ v))) ≡ written_out ask (conjugated p place inverse h.front) ++ v =
    sym (ap (λ t. t ++ v) (conjugated_written ask p place inverse h.front)
    ∙ (append_assoc p (r ++ (inv p ++ w)) v ∙ ap (λ t. p ++ t) (append_assoc r (inv p ++ w) v ∙ ap (λ t. r ++ t) (append_assoc (inv p) w v)))) in
    record {
      front = conjugated p place inverse h.front;
      symbols = all_append (IsSymbolOf ask) (spelled p) (Relator place inverse ∷ (spelled (inv p) ++ h.front)) (spelled_symbols ask p over)
          (sign, all_append (IsSymbolOf ask) (spelled (inv p)) h.front (spelled_symbols ask (inv p) (IsOver-inv m p over)) h.symbols);
      of_group = all_append IsOfGroup (spelled p) (Relator place inverse ∷ (spelled (inv p) ++ h.front)) (spelled_of_group p)
          (tt, all_append IsOfGroup (spelled (inv p)) h.front (spelled_of_group (inv p)) h.of_group);
      vanish = subst (λ (t : List ℤ). FreelyEqual m t []) (sym (conjugated_letters p place inverse h.front))
          (Same-trans m [] (p ++ (inv p ++ letters_alone h.front)) (letters_alone h.front) [] (undone m p (letters_alone h.front) over) h.vanish);
      write = subst (λ (t : List ℤ). FreelyEqual m t (p ++ (r ++ q))) joined there;
    }

-- the other sign takes the word of a relator sign away
signed_away : (m : ℕ) (inverse : Bool) (r q : List ℤ) → IsOver m r → FreelyEqual m (signed (not inverse) r ++ (signed inverse r ++ q)) q
signed_away m false r q h = undone_back m r q h
signed_away m true r q h = undone m r q h

take_away : (ask : Inquiry) (v p q : List ℤ) (place : ℕ) (inverse : Bool) → IsOver ask.group.generators p → IsSymbolOf ask (Relator place inverse)
    → IsOver ask.group.generators (slice_index_or ask.group.relators (place - 1) [])
    → HasFront ask v (p ++ (word_of ask (Relator place inverse) ++ q)) → HasFront ask v (p ++ q)
take_away ask v p q place inverse over sign known h =
    let m : ℕ = ask.group.generators in
    let r : List ℤ = word_of ask (Relator place inverse) in
    let back : List ℤ = word_of ask (Relator place (not inverse)) in
    same_front ask v (p ++ (back ++ (r ++ q))) (p ++ q)
    (put_between ask v p (r ++ q) place (not inverse) over sign h)
    (Same-before m [] p (back ++ (r ++ q)) q (signed_away m inverse (slice_index_or ask.group.relators (place - 1) []) q known))

-- ---- pieces

-- a word that is that of a relator sign
record IsOfSign (ask : Inquiry) (piece : List ℤ) : Type 0 where
  place : ℕ
  inverse : Bool
  sign : IsSymbolOf ask (Relator place inverse)
  word : word_of ask (Relator place inverse) ≡ piece
  known : IsOver ask.group.generators (slice_index_or ask.group.relators (place - 1) [])

sign_of : (ask : Inquiry) (inverse : Bool) (r : List ℤ) → IsOverGenerators ask → Contains ask.group.relators r → IsOfSign ask (signed inverse r)
sign_of ask inverse r h c =
    let e : c.0 + 1 - 1 ≡ c.0 = omega arith in
    let below : c.0 + 1 - 1 < length ask.group.relators = omega (arith, c.1) in
    record {
      place = c.0 + 1;
      inverse = inverse;
      sign = record { least = omega arith; most = omega (arith, c.1) };
      word = ap (signed inverse) (ap (λ i. get_or ask.group.relators i []) e ∙ (get_or_default ask.group.relators c.0 [] r c.1 ∙ c.2));
      known = all_at (IsOver ask.group.generators) ask.group.relators (c.0 + 1 - 1) [] h.relators below;
    }

-- a piece goes in or out, and the front follows
put_piece : (ask : Inquiry) (v p piece q : List ℤ) → IsOver ask.group.generators p → IsOfSign ask piece → HasFront ask v (p ++ q) → HasFront ask v (p ++ (piece ++ q))
put_piece ask v p piece q over s h =
    subst (λ (t : List ℤ). HasFront ask v (p ++ (t ++ q))) s.word (put_between ask v p q s.place s.inverse over s.sign h)

take_piece : (ask : Inquiry) (v p piece q : List ℤ) → IsOver ask.group.generators p → IsOfSign ask piece → HasFront ask v (p ++ (piece ++ q)) → HasFront ask v (p ++ q)
take_piece ask v p piece q over s h =
    take_away ask v p q s.place s.inverse over s.sign s.known (subst (λ (t : List ℤ). HasFront ask v (p ++ (t ++ q))) (sym s.word) h)

put_in : (ask : Inquiry) (v p piece q : List ℤ) → IsOverGenerators ask → IsOver ask.group.generators p → IsPiece ask.group.generators ask.group.relators piece
    → HasFront ask v (p ++ q) → HasFront ask v (p ++ (piece ++ q))
put_in ask v p piece q k over (a_pair x l e) h =
    subst (λ (t : List ℤ). HasFront ask v (p ++ (t ++ q))) (sym e)
    (same_front ask v (p ++ q) (p ++ x ∷ neg_ℤ x ∷ q) h (Same-sym ask.group.generators [] (p ++ x ∷ neg_ℤ x ∷ q) (p ++ q) (Same-pair ask.group.generators [] p x q l)))
put_in ask v p piece q k over (a_relator c) h = put_piece ask v p piece q over (sign_of ask false piece k c) h
put_in ask v p piece q k over (an_inverse r c e) h =
    put_piece ask v p piece q over (subst (λ (t : List ℤ). IsOfSign ask t) (sym e) (sign_of ask true r k c)) h

take_out : (ask : Inquiry) (v p piece q : List ℤ) → IsOverGenerators ask → IsOver ask.group.generators p → IsPiece ask.group.generators ask.group.relators piece
    → HasFront ask v (p ++ (piece ++ q)) → HasFront ask v (p ++ q)
take_out ask v p piece q k over (a_pair x l e) h =
    same_front ask v (p ++ x ∷ neg_ℤ x ∷ q) (p ++ q) (subst (λ (t : List ℤ). HasFront ask v (p ++ (t ++ q))) e h) (Same-pair ask.group.generators [] p x q l)
take_out ask v p piece q k over (a_relator c) h = take_piece ask v p piece q over (sign_of ask false piece k c) h
take_out ask v p piece q k over (an_inverse r c e) h =
    take_piece ask v p piece q over (subst (λ (t : List ℤ). IsOfSign ask t) (sym e) (sign_of ask true r k c)) h

-- ---- words of a chain are over the generators

over_sign : (m : ℕ) (inverse : Bool) (w : List ℤ) → IsOver m w → IsOver m (signed inverse w)
over_sign m false w h = h
over_sign m true w h = IsOver-inv m w h

over_of_sign : (ask : Inquiry) (piece : List ℤ) → IsOfSign ask piece → IsOver ask.group.generators piece
over_of_sign ask piece s =
    subst (λ (t : List ℤ). IsOver ask.group.generators t) s.word
    (over_sign ask.group.generators s.inverse (slice_index_or ask.group.relators (s.place - 1) []) s.known)

over_piece : (ask : Inquiry) (piece : List ℤ) → IsOverGenerators ask → IsPiece ask.group.generators ask.group.relators piece → IsOver ask.group.generators piece
over_piece ask piece k (a_pair x l e) =
    subst (λ (t : List ℤ). IsOver ask.group.generators t) (sym e) (l, (IsLetterOf-neg ask.group.generators x l, tt))
over_piece ask piece k (a_relator c) = over_of_sign ask piece (sign_of ask false piece k c)
over_piece ask piece k (an_inverse r c e) =
    subst (λ (t : List ℤ). IsOver ask.group.generators t) (sym e) (over_of_sign ask (inv r) (sign_of ask true r k c))

over_step : (ask : Inquiry) (u w : List ℤ) → IsOverGenerators ask → Step ask.group.generators ask.group.relators u w
    → IsOver ask.group.generators u → IsOver ask.group.generators w
over_step ask u w k (inl i) h =
    let m : ℕ = ask.group.generators in
    let o : IsOver m (i.before ++ i.after) = subst (λ (t : List ℤ). IsOver m t) i.without h in
    subst (λ (t : List ℤ). IsOver m t) (sym i.with_it)
    (IsOver-append m i.before (i.piece ++ i.after) (IsOver-left m i.before i.after o)
    (IsOver-append m i.piece i.after (over_piece ask i.piece k i.is_piece) (IsOver-right m i.before i.after o)))
over_step ask u w k (inr i) h =
    let m : ℕ = ask.group.generators in
    let o : IsOver m (i.before ++ (i.piece ++ i.after)) = subst (λ (t : List ℤ). IsOver m t) i.with_it h in
    subst (λ (t : List ℤ). IsOver m t) (sym i.without)
    (IsOver-append m i.before i.after (IsOver-left m i.before (i.piece ++ i.after) o)
    (IsOver-right m i.piece i.after (IsOver-right m i.before (i.piece ++ i.after) o)))

-- ---- along a chain

front_step : (ask : Inquiry) (v u w : List ℤ) → IsOverGenerators ask → Step ask.group.generators ask.group.relators u w
    → IsOver ask.group.generators u → HasFront ask v u → HasFront ask v w
front_step ask v u w k (inl i) o h =
    let before_over : IsOver ask.group.generators i.before =
    IsOver-left ask.group.generators i.before i.after (subst (λ (t : List ℤ). IsOver ask.group.generators t) i.without o) in
    subst (λ (t : List ℤ). HasFront ask v t) (sym i.with_it)
    (put_in ask v i.before i.piece i.after k before_over i.is_piece (subst (λ (t : List ℤ). HasFront ask v t) i.without h))
front_step ask v u w k (inr i) o h =
    let before_over : IsOver ask.group.generators i.before =
    IsOver-left ask.group.generators i.before (i.piece ++ i.after) (subst (λ (t : List ℤ). IsOver ask.group.generators t) i.with_it o) in
    subst (λ (t : List ℤ). HasFront ask v t) (sym i.without)
    (take_out ask v i.before i.piece i.after k before_over i.is_piece (subst (λ (t : List ℤ). HasFront ask v t) i.with_it h))

front_along : (ask : Inquiry) (v u w : List ℤ) (words : List (List ℤ)) → IsOverGenerators ask → Leads ask.group.generators ask.group.relators u words w
    → IsOver ask.group.generators u → HasFront ask v u → HasFront ask v w
front_along ask v u w [] k e o h = subst (λ (t : List ℤ). HasFront ask v t) e h
front_along ask v u w (t ∷ words) k l o h = front_along ask v t w words k l.1 (over_step ask u t k l.0 o) (front_step ask v u t k l.0 o h)

-- ---- the product of subgroup words

-- the member signs of some factors
signs_of : List (ℕ × Bool) → List Symbol
signs_of [] = []
signs_of (factor ∷ factors) = Member (factor.0 + 1) factor.1 ∷ signs_of factors

abbrev AreThere : Inquiry → List (ℕ × Bool) → Type 0
AreThere ask factors = AllByRecursion (λ (factor : ℕ × Bool). factor.0 < length ask.subgroup) factors

signs_symbols : (ask : Inquiry) (factors : List (ℕ × Bool)) → AreThere ask factors → AllByRecursion (IsSymbolOf ask) (signs_of factors)
unfolding signs_of
signs_symbols ask [] h = tt
signs_symbols ask (factor ∷ factors) h =
    let below : factor.0 < length ask.subgroup = h.0 in
    (record { least = omega arith; most = omega arith }, signs_symbols ask factors h.1)

signs_members : (factors : List (ℕ × Bool)) → AllByRecursion IsMember (signs_of factors)
unfolding signs_of
signs_members [] = tt
signs_members (factor ∷ factors) = (tt, signs_members factors)

signs_letters : (factors : List (ℕ × Bool)) → letters_alone (signs_of factors) ≡ []
unfolding signs_of
signs_letters [] = refl
signs_letters (factor ∷ factors) = signs_letters factors

signs_written : (ask : Inquiry) (factors : List (ℕ × Bool)) → written_out ask (signs_of factors) ≡ product ask.subgroup factors
unfolding signs_of
signs_written ask [] = refl
signs_written ask (factor ∷ factors) =
    let e : factor.0 + 1 - 1 ≡ factor.0 = omega arith in
    ap (λ i. signed factor.1 (slice_index_or ask.subgroup i []) ++ written_out ask (signs_of factors)) e
    ∙ ap (λ t. signed factor.1 (slice_index_or ask.subgroup factor.0 []) ++ t) (signs_written ask factors)

over_product : (ask : Inquiry) (factors : List (ℕ × Bool)) → IsOverGenerators ask → AreThere ask factors → IsOver ask.group.generators (product ask.subgroup factors)
over_product ask [] k h = tt
over_product ask (factor ∷ factors) k h =
    let m : ℕ = ask.group.generators in
    let w : List ℤ = slice_index_or ask.subgroup factor.0 [] in
    IsOver-append m (signed factor.1 w) (product ask.subgroup factors)
    (over_sign m factor.1 w (all_at (IsOver m) ask.subgroup factor.0 [] k.subgroup h.0))
    (over_product ask factors k h.1)

-- ---- the part of a goal

record HasPart (ask : Inquiry) (goal : List ℤ) : Type 0 where
  part : List Symbol
  symbols : AllByRecursion (IsSymbolOf ask) part
  in_order : IsInOrder part
  vanish : Vanishes ask part
  write : FreelyEqual ask.group.generators (written_out ask part) goal

part_from : (ask : Inquiry) (goal : List ℤ) (factors : List (ℕ × Bool)) → AreThere ask factors → HasFront ask (product ask.subgroup factors) goal → HasPart ask goal
part_from ask goal factors there h =
    let m : ℕ = ask.group.generators in
    let back : List Symbol = signs_of factors in
    let letters : letters_alone (h.front ++ back) ≡ letters_alone h.front =
    flat_map-append letter_of h.front back ∙ (ap (λ t. letters_alone h.front ++ t) (signs_letters factors) ∙ append-nil (letters_alone h.front)) in
    let written : written_out ask (h.front ++ back) ≡ written_out ask h.front ++ product ask.subgroup factors =
    flat_map-append (word_of ask) h.front back ∙ ap (λ t. written_out ask h.front ++ t) (signs_written ask factors) in
    record {
      part = h.front ++ back;
      symbols = all_append (IsSymbolOf ask) h.front back h.symbols (signs_symbols ask factors there);
      in_order = record { front = h.front; back = back; split = refl; of_group = h.of_group; members = signs_members factors };
      vanish = subst (λ (t : List ℤ). FreelyEqual m t []) (sym letters) h.vanish;
      write = subst (λ (t : List ℤ). FreelyEqual m t goal) (sym written) h.write;
    }

part_of : (ask : Inquiry) (goal : List ℤ) → IsOverGenerators ask → Lies ask.group ask.subgroup goal → HasPart ask goal
part_of ask goal k h =
    let v : List ℤ = product ask.subgroup h.factors in
    part_from ask goal h.factors h.there
    (front_along ask v v goal h.same.0 k h.same.1 (over_product ask h.factors k h.there) (first_front ask v))

-- ---- the text of all goals

record HaveParts (ask : Inquiry) (goals : List (List ℤ)) : Type 0 where
  parts : List (List Symbol)
  symbols : AllByRecursion (IsSymbolOf ask) (flat_map (λ part. part ++ Cut ∷ []) parts)
  in_order : AllByRecursion IsInOrder parts
  vanish : AllByRecursion (Vanishes ask) parts
  write : Write ask parts goals

parts_of : (ask : Inquiry) (goals : List (List ℤ)) → IsOverGenerators ask → AllByRecursion (Lies ask.group ask.subgroup) goals → HaveParts ask goals
parts_of ask [] k h = record { parts = []; symbols = tt; in_order = tt; vanish = tt; write = tt }
parts_of ask (goal ∷ goals) k h =
    let first = part_of ask goal k h.0 in
    let others = parts_of ask goals k h.1 in
    record {
      parts = first.part ∷ others.parts;
      symbols = all_append (IsSymbolOf ask) (first.part ++ Cut ∷ []) (flat_map (λ part. part ++ Cut ∷ []) others.parts)
          (all_append (IsSymbolOf ask) first.part (Cut ∷ []) first.symbols (tt, tt)) others.symbols;
      in_order = (first.in_order, others.in_order);
      vanish = (first.vanish, others.vanish);
      write = (first.write, others.write);
    }

-- where each goal lies in the subgroup, some text is accepted
pub some_text : (ask : Inquiry) → IsOverGenerators ask → Holds ask → (text : List Symbol) × IsAccepted ask text
some_text ask k h =
    let all = parts_of ask ask.goals k h in (
      flat_map (λ part. part ++ Cut ∷ []) all.parts,
      record { symbols = all.symbols; parts = all.parts; cut = refl; in_order = all.in_order; vanish = all.vanish; write = all.write },
    )

-- and some number is that of an accepted text
pub some_number : (ask : Inquiry) → IsOverGenerators ask → Holds ask → (n : ℕ) × AcceptedAt ask n
some_number ask k h =
    let t = some_text ask k h in
    (_, record { text = t.0; numbered = record { symbols = t.1.symbols; number = refl }; accepted = t.1 })

-- the words of an Ask of the program are over the generators
relators_over : (m : ℕ) (rs : List (List ℤ)) → AllByRecursion (IsRelator m) rs → AllByRecursion (IsOver m) rs
relators_over m [] h = tt
relators_over m (r ∷ rs) h = (h.0.over, relators_over m rs h.1)

words_over : (m : ℕ) (ws : List (List ℤ)) → AllByRecursion (IsReducedOver m) ws → AllByRecursion (IsOver m) ws
words_over m [] h = tt
words_over m (w ∷ ws) h = (h.0.over, words_over m ws h.1)

pub asked_is_over : (ask : Inquiry) → IsAsked ask → IsOverGenerators ask
asked_is_over ask a = record {
  relators = relators_over ask.group.generators ask.group.relators a.group.relators;
  subgroup = words_over ask.group.generators ask.subgroup a.words.subgroup_words;
}
