-- Moves lead on: their lists join, each is undone, and more rules do no harm.
use Rattle.std.proofs.Common.{◌≡◌, ℕ, zero, suc, ℤ, Some, None, List, [], ◌∷◌, ◌++◌, map, reverse, take, drop, refl, sym, ap, subst, ◌∙◌}
use Rattle.std.specs.Prelude.{slice_get}
use Rattle.std.proofs.lemmas.List.{reverse-append, map-append, take-append-drop}
use Rattle.mg_present.specs.Presentation.{Group}
use Rattle.mg_rulelog.specs.declared.moves.Move.{Move}
use Rattle.mg_rulelog.specs.declared.moves.Move.TheVariants.{InPair, OutPair, InRelator, OutRelator, By, Back}
use Rattle.mg_rulelog.specs.Rule.{Sides, sides_numbered}
use Rattle.mg_rulelog.specs.Moves.{Replaces, Takes, Leads, undone, all_undone}

-- one move is a list of moves
pub leads_one : (group : Group) (rules : List Sides) (move : Move) (u v : List ℤ) → Takes group rules move u v → Leads group rules (move ∷ []) u v
leads_one group rules move u v h = (v, h, refl)

-- lists of moves join
pub leads_append : (group : Group) (rules : List Sides) (first second : List Move) (u v w : List ℤ) → Leads group rules first u v → Leads group rules second v w → Leads group rules (first ++ second) u w
leads_append group rules [] second u v w h k = subst (λ (t : List ℤ). Leads group rules second t w) (sym h) k
leads_append group rules (move ∷ first) second u v w h k = (h.0, h.1, leads_append group rules first second h.0 v w h.2 k)

replaces_back : (old new : List ℤ) (place : ℕ) (u v : List ℤ) → Replaces old new place u v → Replaces new old place v u
replaces_back old new place u v r = record { before = r.before; behind = r.behind; at = r.at; stands = r.replaced; replaced = r.stands }

-- a move is undone
pub takes_undone : (group : Group) (rules : List Sides) (move : Move) (u v : List ℤ) → Takes group rules move u v → Takes group rules (undone move) v u
takes_undone group rules (InPair x place) u v h = (h.0, replaces_back _ _ place u v h.1)
takes_undone group rules (OutPair x place) u v h = (h.0, replaces_back _ _ place u v h.1)
takes_undone group rules (InRelator number inverse place) u v h = (h.0, h.1, replaces_back _ _ place u v h.2)
takes_undone group rules (OutRelator number inverse place) u v h = (h.0, h.1, replaces_back _ _ place u v h.2)
takes_undone group rules (By number place) u v h = (h.0, h.1, replaces_back _ _ place u v h.2)
takes_undone group rules (Back number place) u v h = (h.0, h.1, replaces_back _ _ place u v h.2)

all_undone_cons : (move : Move) (moves : List Move) → all_undone (move ∷ moves) ≡ all_undone moves ++ undone move ∷ []
all_undone_cons move moves = ap (map undone) (reverse-append (move ∷ []) moves) ∙ map-append undone (reverse moves) (move ∷ [])

-- moves are undone
pub leads_undone : (group : Group) (rules : List Sides) (moves : List Move) (u v : List ℤ) → Leads group rules moves u v → Leads group rules (all_undone moves) v u
leads_undone group rules [] u v h = sym h
leads_undone group rules (move ∷ moves) u v h =
    subst (λ (t : List Move). Leads group rules t v u) (sym (all_undone_cons move moves))
    (leads_append group rules (all_undone moves) (undone move ∷ []) v h.0 u (leads_undone group rules moves h.0 v h.2)
    (leads_one group rules (undone move) h.0 u (takes_undone group rules move u h.0 h.1)))

at_still : (rules rest : List Sides) (n : ℕ) (rule : Sides) → slice_get rules n ≡ Some rule → slice_get (rules ++ rest) n ≡ Some rule
at_still [] rest n rule e = let never : None ≡ Some rule = e in cc
at_still (r ∷ rules) rest zero rule e = e
at_still (r ∷ rules) rest (suc n) rule e = at_still rules rest n rule e

pub numbered_more : (rules rest : List Sides) (number : ℕ) (rule : Sides) → sides_numbered rules number ≡ Some rule → sides_numbered (rules ++ rest) number ≡ Some rule
numbered_more rules rest zero rule h = let never : None ≡ Some rule = h in cc
numbered_more rules rest (suc n) rule h = at_still rules rest n rule h

-- a move is one over more rules too
pub takes_more : (group : Group) (rules rest : List Sides) (move : Move) (u v : List ℤ) → Takes group rules move u v → Takes group (rules ++ rest) move u v
takes_more group rules rest (InPair x place) u v h = h
takes_more group rules rest (OutPair x place) u v h = h
takes_more group rules rest (InRelator number inverse place) u v h = h
takes_more group rules rest (OutRelator number inverse place) u v h = h
takes_more group rules rest (By number place) u v h = (h.0, numbered_more rules rest number h.0 h.1, h.2)
takes_more group rules rest (Back number place) u v h = (h.0, numbered_more rules rest number h.0 h.1, h.2)

-- moves lead on over more rules too
pub leads_more : (group : Group) (rules rest : List Sides) (moves : List Move) (u v : List ℤ) → Leads group rules moves u v → Leads group (rules ++ rest) moves u v
leads_more group rules rest [] u v h = h
leads_more group rules rest (move ∷ moves) u v h = (h.0, takes_more group rules rest move u h.0 h.1, leads_more group rules rest moves h.0 v h.2)

-- moves over a beginning of the rules are moves over all of them
pub leads_from_take : (group : Group) (rules : List Sides) (n : ℕ) (moves : List Move) (u v : List ℤ) → Leads group (take n rules) moves u v → Leads group rules moves u v
leads_from_take group rules n moves u v h =
    subst (λ (t : List Sides). Leads group t moves u v) (take-append-drop n rules) (leads_more group (take n rules) (drop n rules) moves u v h)
