-- Where a log is accepted both sides of each rule are the same in the group, and each goal is the same as the empty
-- word: by strong induction on the number of the rule.
use Rattle.std.proofs.Common.{◌≡◌, ℕ, zero, suc, ◌<◌, Bool, true, false, ℤ, List, [], ◌∷◌, ◌++◌, length, take, refl, sym, subst, arith}
use Rattle.std.specs.Prelude.{None, Some, slice_get, Contains}
use Rattle.std.specs.List.{AllByRecursion}
use Rattle.std.proofs.lemmas.Option.{slice_get_within, get_or_from_slice_get}
use Rattle.std.proofs.Math.Seq.{take-nil, take-length}
use Rattle.mg_words.specs.Chain.{IsPiece, a_pair, a_relator, an_inverse}
use Rattle.mg_words.proofs.Chains.{Same-equal, Same-sym, Same-trans, Same-before, Same-after, Same-piece}
use Rattle.mg_present.specs.Presentation.{Group}
use Rattle.mg_present.specs.Ask.{Inquiry}
use Rattle.mg_present.specs.Same.{Same, signed, Lies, Holds}
use Rattle.mg_present.proofs.Sameness.{lies_empty, lies_same}
use Rattle.mg_rulelog.specs.declared.moves.Move.{Move}
use Rattle.mg_rulelog.specs.declared.moves.Move.TheVariants.{InPair, OutPair, InRelator, OutRelator, By, Back}
use Rattle.mg_rulelog.specs.declared.log.RuleLog.{RuleLog}
use Rattle.mg_rulelog.specs.Rule.{Sides, Logged, sides_of, all_sides, sides_numbered, relator_numbered}
use Rattle.mg_rulelog.specs.Moves.{Replaces, Takes, Leads, pair_of}
use Rattle.mg_rulelog.specs.Acceptance.{AllFollow, AllErase, IsAccepted}

-- both sides of each rule are the same
abbrev AreSame : Group → List Sides → Type 0
AreSame group rules = (number : ℕ) (rule : Sides) → sides_numbered rules number ≡ Some rule → Same group rule.left rule.right

contained : (words : List (List ℤ)) (n : ℕ) (word : List ℤ) → slice_get words n ≡ Some word → Contains words word
contained words n word e = (n, slice_get_within words n word e, get_or_from_slice_get words n word word e)

is_piece : (group : Group) (number : ℕ) (inverse : Bool) (relator : List ℤ) → relator_numbered group.relators number ≡ Some relator → IsPiece group.generators group.relators (signed inverse relator)
is_piece group zero inverse relator e = let never : None ≡ Some relator = e in cc
is_piece group (suc n) false relator e = a_relator (contained group.relators n relator e)
is_piece group (suc n) true relator e = an_inverse relator (contained group.relators n relator e) refl

out_same : (group : Group) (piece : List ℤ) (place : ℕ) (u v : List ℤ) → IsPiece group.generators group.relators piece → Replaces piece [] place u v → Same group u v
out_same group piece place u v h r =
    let m : ℕ = group.generators in
    let rs : List (List ℤ) = group.relators in
    Same-trans m rs u (r.before ++ (piece ++ r.behind)) v (Same-equal m rs _ _ r.stands)
    (Same-trans m rs (r.before ++ (piece ++ r.behind)) (r.before ++ r.behind) v (Same-piece m rs r.before piece r.behind h) (Same-equal m rs _ _ (sym r.replaced)))

in_same : (group : Group) (piece : List ℤ) (place : ℕ) (u v : List ℤ) → IsPiece group.generators group.relators piece → Replaces [] piece place u v → Same group u v
in_same group piece place u v h r =
    Same-sym group.generators group.relators v u
    (out_same group piece place v u h (record { before = r.before; behind = r.behind; at = r.at; stands = r.replaced; replaced = r.stands }))

sides_same : (group : Group) (old new : List ℤ) (place : ℕ) (u v : List ℤ) → Same group old new → Replaces old new place u v → Same group u v
sides_same group old new place u v h r =
    let m : ℕ = group.generators in
    let rs : List (List ℤ) = group.relators in
    Same-trans m rs u (r.before ++ (old ++ r.behind)) v (Same-equal m rs _ _ r.stands)
    (Same-trans m rs (r.before ++ (old ++ r.behind)) (r.before ++ (new ++ r.behind)) v (Same-before m rs r.before (old ++ r.behind) (new ++ r.behind) (Same-after m rs r.behind old new h)) (Same-equal m rs _ _ (sym r.replaced)))

takes_same : (group : Group) (rules : List Sides) → AreSame group rules → (move : Move) (u v : List ℤ) → Takes group rules move u v → Same group u v
takes_same group rules same (InPair x place) u v h = in_same group (pair_of x) place u v (a_pair x h.0 refl) h.1
takes_same group rules same (OutPair x place) u v h = out_same group (pair_of x) place u v (a_pair x h.0 refl) h.1
takes_same group rules same (InRelator number inverse place) u v h = in_same group (signed inverse h.0) place u v (is_piece group number inverse h.0 h.1) h.2
takes_same group rules same (OutRelator number inverse place) u v h = out_same group (signed inverse h.0) place u v (is_piece group number inverse h.0 h.1) h.2
takes_same group rules same (By number place) u v h = sides_same group h.0.left h.0.right place u v (same number h.0 h.1) h.2
takes_same group rules same (Back number place) u v h =
    sides_same group h.0.right h.0.left place u v (Same-sym group.generators group.relators h.0.left h.0.right (same number h.0 h.1)) h.2

-- moves over rules whose sides are the same lead to the same
pub leads_same : (group : Group) (rules : List Sides) → AreSame group rules → (moves : List Move) (u v : List ℤ) → Leads group rules moves u v → Same group u v
leads_same group rules same [] u v h = Same-equal group.generators group.relators u v h
leads_same group rules same (move ∷ moves) u v h =
    Same-trans group.generators group.relators u h.0 v (takes_same group rules same move u h.0 h.1) (leads_same group rules same moves h.0 v h.2)

-- a rule of a beginning of a list stands in the list
sides_found : (rules : List Logged) (n place : ℕ) (sides : Sides) → slice_get (all_sides (take n rules)) place ≡ Some sides
    → (rule : Logged) × (place < n) × (slice_get rules place ≡ Some rule) × (sides_of rule ≡ sides)
sides_found [] n place sides e = let never : None ≡ Some sides = subst (λ (t : List Logged). slice_get (all_sides t) place ≡ Some sides) (take-nil n) e in cc
sides_found (rule ∷ rules) zero place sides e = let never : None ≡ Some sides = e in cc
sides_found (rule ∷ rules) (suc n) zero sides e = (rule, omega arith, refl, let same : Some (sides_of rule) ≡ Some sides = e in cc)
sides_found (rule ∷ rules) (suc n) (suc place) sides e =
    let r = sides_found rules n place sides e in (r.0, let less = r.1 in omega arith, r.2, r.3)

-- the rules before a place have the same sides
abbrev AreSameBelow : Group → List Logged → ℕ → Type 0
AreSameBelow group rules n = (place : ℕ) (rule : Logged) → place < n → slice_get rules place ≡ Some rule → Same group rule.left rule.right

below_take : (group : Group) (rules : List Logged) (n : ℕ) → AreSameBelow group rules n → AreSame group (all_sides (take n rules))
below_take group rules n below zero sides e = let never : None ≡ Some sides = e in cc
below_take group rules n below (suc place) sides e =
    let r = sides_found rules n place sides e in
    subst (λ (t : Sides). Same group t.left t.right) r.3 (below place r.0 r.1 r.2)

follow_below : (group : Group) (rules : List Logged) → AllFollow group rules → (n : ℕ) → AreSameBelow group rules n
follow_below group rules follow zero place rule below e = absurd (omega (arith, below))
follow_below group rules follow (suc n) place rule below e =
    leads_same group (all_sides (take place rules))
    (below_take group rules place (λ k r less there. follow_below group rules follow n k r (omega (arith, below, less)) there))
    rule.moves rule.left rule.right (follow place rule e).reason

from_places : (P : Logged → Type 0) (rules : List Logged) → ((place : ℕ) (rule : Logged) → slice_get rules place ≡ Some rule → P rule) → AllByRecursion P rules
from_places P [] each = tt
from_places P (rule ∷ rules) each = (each 0 rule refl, from_places P rules (λ place r e. each (suc place) r e))

-- both sides of each rule of a log whose rules follow from the rules before them are the same
pub follow_same : (group : Group) (rules : List Logged) → AllFollow group rules → AllByRecursion (λ rule. Same group rule.left rule.right) rules
follow_same group rules follow =
    from_places (λ rule. Same group rule.left rule.right) rules (λ place rule e. follow_below group rules follow (suc place) place rule (omega arith) e)

all_sides_same : (group : Group) (rules : List Logged) → AllFollow group rules → AreSame group (all_sides rules)
all_sides_same group rules follow =
    subst (λ (t : List Logged). AreSame group (all_sides t)) (take-length rules)
    (below_take group rules (length rules) (follow_below group rules follow (length rules)))

erase_vanish : (group : Group) (rules : List Sides) → AreSame group rules → (lists : List (List Move)) (goals : List (List ℤ)) → AllErase group rules lists goals → AllByRecursion (λ goal. Same group goal []) goals
erase_vanish group rules same [] [] h = tt
erase_vanish group rules same (moves ∷ lists) (goal ∷ goals) h = (leads_same group rules same moves goal [] h.0.leads, erase_vanish group rules same lists goals h.1)
erase_vanish group rules same [] (goal ∷ goals) h = absurd h
erase_vanish group rules same (moves ∷ lists) [] h = absurd h

-- each goal of an accepted log is the same as the empty word
pub accepted_vanish : (ask : Inquiry) (log : RuleLog) → IsAccepted ask log → AllByRecursion (λ goal. Same ask.group goal []) ask.goals
accepted_vanish ask log h = erase_vanish ask.group (all_sides log.rules) (all_sides_same ask.group log.rules h.rules) log.goals ask.goals h.goals

all_lie : (ask : Inquiry) (goals : List (List ℤ)) → AllByRecursion (λ goal. Same ask.group goal []) goals → AllByRecursion (Lies ask.group ask.subgroup) goals
all_lie ask [] h = tt
all_lie ask (goal ∷ goals) h =
    (lies_same ask.group ask.subgroup [] goal (lies_empty ask.group ask.subgroup) (Same-sym ask.group.generators ask.group.relators goal [] h.0), all_lie ask goals h.1)

-- the Ask of an accepted log holds, whatever its subgroup words
pub accepted_holds : (ask : Inquiry) (log : RuleLog) → IsAccepted ask log → Holds ask
accepted_holds ask log h = all_lie ask ask.goals (accepted_vanish ask log h)
