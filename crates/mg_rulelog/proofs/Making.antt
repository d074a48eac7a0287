-- A move leads to one word alone, so that a list of moves is made step by step.
use Rattle.std.proofs.Common.{◌≡◌, ◌↔◌, IsTrue, ℕ, suc, ◌+◌, ◌<◌, ◌≤◌, Bool, true, false, ℤ, neg_ℤ, List, [], ◌∷◌, ◌++◌, length, take, drop, refl, sym, ap, subst, ◌∙◌, append_assoc, add-one, drop-cons, get_or, true≢false, arith}
use Rattle.std.specs.Prelude.{Some}
use Rattle.std.proofs.lemmas.List.{length-append, length-take-le, take-append-drop, drop_all}
use Rattle.std.proofs.Math.Seq.{take-append_seam, drop-append_seam}
use Rattle.mg_words.specs.Letter.{IsLetterOf}
use Rattle.mg_present.specs.Presentation.{Group}
use Rattle.mg_present.specs.Same.{signed}
use Rattle.mg_rulelog.specs.declared.moves.Move.{Move}
use Rattle.mg_rulelog.specs.declared.moves.Move.TheVariants.{InPair, OutPair, InRelator, OutRelator, By, Back}
use Rattle.mg_rulelog.specs.Rule.{Sides, sides_numbered, relator_numbered}
use Rattle.mg_rulelog.specs.Moves.{Replaces, Takes, Leads, pair_of}
use Rattle.mg_rulelog.specs.Tape.{Tells}

front_same : (a b c d : List ℤ) → length a ≡ length b → a ++ c ≡ b ++ d → a ≡ b
front_same a b c d lengths e =
    sym (take-append_seam a c) ∙ (ap (λ t. take (length a) t) e ∙ (ap (λ n. take n (b ++ d)) lengths ∙ take-append_seam b d))

back_same : (a b c d : List ℤ) → length a ≡ length b → a ++ c ≡ b ++ d → c ≡ d
back_same a b c d lengths e =
    sym (drop-append_seam a c) ∙ (ap (λ t. drop (length a) t) e ∙ (ap (λ n. drop n (b ++ d)) lengths ∙ drop-append_seam b d))

replaces_one : (old new : List ℤ) (place : ℕ) (u v w : List ℤ) → Replaces old new place u v → Replaces old new place u w → v ≡ w
replaces_one old new place u v w r s =
    let lengths : length r.before ≡ length s.before = r.at ∙ sym s.at in
    let whole : r.before ++ (old ++ r.behind) ≡ s.before ++ (old ++ s.behind) = sym r.stands ∙ s.stands in
    let before : r.before ≡ s.before = front_same r.before s.before (old ++ r.behind) (old ++ s.behind) lengths whole in
    let behind : r.behind ≡ s.behind = back_same old old r.behind s.behind refl (back_same r.before s.before (old ++ r.behind) (old ++ s.behind) lengths whole) in
    r.replaced ∙ (ap (λ t. t ++ (new ++ r.behind)) before ∙ (ap (λ t. s.before ++ (new ++ t)) behind ∙ sym s.replaced))

relator_one : (group : Group) (number : ℕ) (r s : List ℤ) → relator_numbered group.relators number ≡ Some r → relator_numbered group.relators number ≡ Some s → s ≡ r
relator_one group number r s e f = let same : Some s ≡ Some r = sym f ∙ e in cc

sides_one : (rules : List Sides) (number : ℕ) (r s : Sides) → sides_numbered rules number ≡ Some r → sides_numbered rules number ≡ Some s → s ≡ r
sides_one rules number r s e f = let same : Some s ≡ Some r = sym f ∙ e in cc

takes_one : (group : Group) (rules : List Sides) (move : Move) (u v w : List ℤ) → Takes group rules move u v → Takes group rules move u w → v ≡ w
takes_one group rules (InPair x place) u v w h k = replaces_one [] (pair_of x) place u v w h.1 k.1
takes_one group rules (OutPair x place) u v w h k = replaces_one (pair_of x) [] place u v w h.1 k.1
takes_one group rules (InRelator number inverse place) u v w h k =
    replaces_one [] (signed inverse h.0) place u v w h.2
    (subst (λ (t : List ℤ). Replaces [] (signed inverse t) place u w) (relator_one group number h.0 k.0 h.1 k.1) k.2)
takes_one group rules (OutRelator number inverse place) u v w h k =
    replaces_one (signed inverse h.0) [] place u v w h.2
    (subst (λ (t : List ℤ). Replaces (signed inverse t) [] place u w) (relator_one group number h.0 k.0 h.1 k.1) k.2)
takes_one group rules (By number place) u v w h k =
    replaces_one h.0.left h.0.right place u v w h.2
    (subst (λ (t : Sides). Replaces t.left t.right place u w) (sides_one rules number h.0 k.0 h.1 k.1) k.2)
takes_one group rules (Back number place) u v w h k =
    replaces_one h.0.right h.0.left place u v w h.2
    (subst (λ (t : Sides). Replaces t.right t.left place u w) (sides_one rules number h.0 k.0 h.1 k.1) k.2)

-- a word and the moves that are left of a list of moves
abbrev pub LeadsStill : Group → List Sides → List Move → ℕ → List ℤ → List ℤ → List ℤ → Type 0
LeadsStill group rules moves i from u to = Leads group rules (drop i moves) u to ↔ Leads group rules moves from to

pub walk_begins : (group : Group) (rules : List Sides) (moves : List Move) (from u to : List ℤ) → u ≡ from → LeadsStill group rules moves 0 from u to
walk_begins group rules moves from u to e =
    (λ h. subst (λ (t : List ℤ). Leads group rules moves t to) e h, λ h. subst (λ (t : List ℤ). Leads group rules moves t to) (sym e) h)

rest_at : (moves : List Move) (i : ℕ) (step : Move) → i < length moves → step ≡ get_or moves i step → drop i moves ≡ step ∷ drop (i + 1) moves
rest_at moves i step lt e = rw add-one (drop-cons moves i step lt ∙ ap (λ (z : Move). z ∷ drop (suc i) moves) (sym e))

-- after a move the other moves lead on exactly where all of them lead
pub walk_on : (group : Group) (rules : List Sides) (moves : List Move) (i : ℕ) (step : Move) (from u v to : List ℤ) → i < length moves → step ≡ get_or moves i step → Takes group rules step u v → LeadsStill group rules moves i from u to → LeadsStill group rules moves (i + 1) from v to
walk_on group rules moves i step from u v to lt e made still =
    let at : drop i moves ≡ step ∷ drop (i + 1) moves = rest_at moves i step lt e in (
      λ h. still.0 (subst (λ (t : List Move). Leads group rules t u to) (sym at) (v, made, h)),
      λ h. let k : Leads group rules (step ∷ drop (i + 1) moves) u to = subst (λ (t : List Move). Leads group rules t u to) at (still.1 h) in
          subst (λ (t : List ℤ). Leads group rules (drop (i + 1) moves) t to) (takes_one group rules step u k.0 v k.1 made) k.2,
    )

-- where a move can't be made the moves don't lead on
pub walk_stops : (group : Group) (rules : List Sides) (moves : List Move) (i : ℕ) (step : Move) (from u v to : List ℤ) (made : Bool) → i < length moves → step ≡ get_or moves i step → Tells (Takes group rules step u) made v → made ≡ false → LeadsStill group rules moves i from u to → Leads group rules moves from to → ⊥
walk_stops group rules moves i step from u v to made lt e told refused still h =
    let at : drop i moves ≡ step ∷ drop (i + 1) moves = rest_at moves i step lt e in
    let k : Leads group rules (step ∷ drop (i + 1) moves) u to = subst (λ (t : List Move). Leads group rules t u to) at (still.1 h) in
    told.no refused k.0 k.1

-- after all moves the words are compared
pub walk_ends : (group : Group) (rules : List Sides) (moves : List Move) (i : ℕ) (from u to : List ℤ) (same : Bool) → length moves ≤ i → LeadsStill group rules moves i from u to → IsTrue same ↔ (u ≡ to) → IsTrue same ↔ Leads group rules moves from to
walk_ends group rules moves i from u to same past still compared =
    let none : drop i moves ≡ [] = drop_all i moves past in (
      λ is. still.0 (subst (λ (t : List Move). Leads group rules t u to) (sym none) (compared.0 is)),
      λ h. compared.1 (subst (λ (t : List Move). Leads group rules t u to) none (still.1 h)),
    )

-- what is told of a replacement is told of the move
pub in_pair : (group : Group) (rules : List Sides) (x y : ℤ) (place : ℕ) (u v : List ℤ) (made : Bool) → IsLetterOf group.generators x → y ≡ neg_ℤ x → Tells (Replaces [] (x ∷ y ∷ []) place u) made v → Tells (Takes group rules (InPair x place) u) made v
in_pair group rules x y place u v made letter e told =
    let t : Tells (Replaces [] (pair_of x) place u) made v = subst (λ (z : ℤ). Tells (Replaces [] (x ∷ z ∷ []) place u) made v) e told in
    record { yes = λ is. (letter, t.yes is); no = λ is other h. t.no is other h.1 }

pub out_pair : (group : Group) (rules : List Sides) (x y : ℤ) (place : ℕ) (u v : List ℤ) (made : Bool) → IsLetterOf group.generators x → y ≡ neg_ℤ x → Tells (Replaces (x ∷ y ∷ []) [] place u) made v → Tells (Takes group rules (OutPair x place) u) made v
out_pair group rules x y place u v made letter e told =
    let t : Tells (Replaces (pair_of x) [] place u) made v = subst (λ (z : ℤ). Tells (Replaces (x ∷ z ∷ []) [] place u) made v) e told in
    record { yes = λ is. (letter, t.yes is); no = λ is other h. t.no is other h.1 }

pub in_relator : (group : Group) (rules : List Sides) (number : ℕ) (inverse : Bool) (place : ℕ) (u v : List ℤ) (made : Bool) (word relator : List ℤ) → relator_numbered group.relators number ≡ Some relator → word ≡ signed inverse relator → Tells (Replaces [] word place u) made v → Tells (Takes group rules (InRelator number inverse place) u) made v
in_relator group rules number inverse place u v made word relator found e told =
    let t : Tells (Replaces [] (signed inverse relator) place u) made v = subst (λ (z : List ℤ). Tells (Replaces [] z place u) made v) e told in
    record {
      yes = λ is. (relator, found, t.yes is);
      no = λ is other h. t.no is other (subst (λ (r : List ℤ). Replaces [] (signed inverse r) place u other) (relator_one group number relator h.0 found h.1) h.2);
    }

pub out_relator : (group : Group) (rules : List Sides) (number : ℕ) (inverse : Bool) (place : ℕ) (u v : List ℤ) (made : Bool) (word relator : List ℤ) → relator_numbered group.relators number ≡ Some relator → word ≡ signed inverse relator → Tells (Replaces word [] place u) made v → Tells (Takes group rules (OutRelator number inverse place) u) made v
out_relator group rules number inverse place u v made word relator found e told =
    let t : Tells (Replaces (signed inverse relator) [] place u) made v = subst (λ (z : List ℤ). Tells (Replaces z [] place u) made v) e told in
    record {
      yes = λ is. (relator, found, t.yes is);
      no = λ is other h. t.no is other (subst (λ (r : List ℤ). Replaces (signed inverse r) [] place u other) (relator_one group number relator h.0 found h.1) h.2);
    }

pub by_rule : (group : Group) (rules : List Sides) (number place : ℕ) (u v : List ℤ) (made : Bool) (left right : List ℤ) (rule : Sides) → sides_numbered rules number ≡ Some rule → left ≡ rule.left → right ≡ rule.right → Tells (Replaces left right place u) made v → Tells (Takes group rules (By number place) u) made v
by_rule group rules number place u v made left right rule found e f told =
    let t : Tells (Replaces rule.left rule.right place u) made v =
    subst (λ (z : List ℤ). Tells (Replaces rule.left z place u) made v) f (subst (λ (z : List ℤ). Tells (Replaces z right place u) made v) e told) in
    record {
      yes = λ is. (rule, found, t.yes is);
      no = λ is other h. t.no is other (subst (λ (r : Sides). Replaces r.left r.right place u other) (sides_one rules number rule h.0 found h.1) h.2);
    }

pub back_rule : (group : Group) (rules : List Sides) (number place : ℕ) (u v : List ℤ) (made : Bool) (left right : List ℤ) (rule : Sides) → sides_numbered rules number ≡ Some rule → left ≡ rule.left → right ≡ rule.right → Tells (Replaces right left place u) made v → Tells (Takes group rules (Back number place) u) made v
back_rule group rules number place u v made left right rule found e f told =
    let t : Tells (Replaces rule.right rule.left place u) made v =
    subst (λ (z : List ℤ). Tells (Replaces z rule.left place u) made v) f (subst (λ (z : List ℤ). Tells (Replaces right z place u) made v) e told) in
    record {
      yes = λ is. (rule, found, t.yes is);
      no = λ is other h. t.no is other (subst (λ (r : Sides). Replaces r.right r.left place u other) (sides_one rules number rule h.0 found h.1) h.2);
    }

-- letters that end behind a place are replaced there
pub replaced_at : (b k old new : List ℤ) (place : ℕ) → length b ≡ place + length old → drop place b ≡ old → Replaces old new place (b ++ k) ((take place b ++ new) ++ k)
replaced_at b k old new place lengths e = record {
  before = take place b;
  behind = k;
  at = length-take-le place b (omega (arith, lengths));
  stands = ap (λ t. t ++ k) (sym (take-append-drop place b)) ∙ (append_assoc (take place b) (drop place b) k ∙ ap (λ t. take place b ++ (t ++ k)) e);
  replaced = append_assoc (take place b) new k;
}

-- and where others stand there they are not
pub not_there : (b k old new : List ℤ) (place : ℕ) (w : List ℤ) → length b ≡ place + length old → Replaces old new place (b ++ k) w → drop place b ≡ old
not_there b k old new place w lengths r =
    let whole : b ++ k ≡ (r.before ++ old) ++ r.behind = r.stands ∙ sym (append_assoc r.before old r.behind) in
    let same : b ≡ r.before ++ old = front_same b (r.before ++ old) k r.behind (lengths ∙ (ap (λ n. n + length old) (sym r.at) ∙ sym (length-append r.before old))) whole in
    ap (drop place) same ∙ (ap (λ n. drop n (r.before ++ old)) (sym r.at) ∙ drop-append_seam r.before old)

-- a word that is too short has nothing there
pub too_short : (u old new : List ℤ) (place : ℕ) (w : List ℤ) → length u < place + length old → Replaces old new place u w → ⊥
too_short u old new place w short r =
    let whole : length u ≡ length (r.before ++ (old ++ r.behind)) = ap length r.stands in
    omega (arith, short, whole, length-append r.before (old ++ r.behind), length-append old r.behind, r.at)

pub replaced_told : (b k old new : List ℤ) (place : ℕ) (u v : List ℤ) → b ++ k ≡ u → length b ≡ place + length old → drop place b ≡ old → (take place b ++ new) ++ k ≡ v → Tells (Replaces old new place u) true v
replaced_told b k old new place u v is lengths e becomes = record {
  yes = λ _. subst (λ (t : List ℤ). Replaces old new place t v) is (subst (λ (t : List ℤ). Replaces old new place (b ++ k) t) becomes (replaced_at b k old new place lengths e));
  no = λ never. absurd (true≢false never);
}

pub refused_told : (b k old new : List ℤ) (place : ℕ) (u v : List ℤ) → b ++ k ≡ u → length b ≡ place + length old → (drop place b ≡ old → ⊥) → Tells (Replaces old new place u) false v
refused_told b k old new place u v is lengths differ = record {
  yes = λ never. absurd (true≢false (sym never));
  no = λ _ w r. differ (not_there b k old new place w lengths (subst (λ (t : List ℤ). Replaces old new place t w) (sym is) r));
}
