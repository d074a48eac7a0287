-- What the rule of the table says, point by point.
use Rattle.std.proofs.Common.{◌≡◌, ℕ, ◌⊎◌, ◌↔◌, inl, inr, List, [], ◌∷◌, length, slice_index, Option, Some, None, refl, ap, sym, ◌∙◌}
use mathlib.Core.List.{IsPrefix}
use mathlib.Core.Option.{some}
use lib.ListN.{get_elem?}
use Rattle.atomic_table.specs.Table.{State}
use Rattle.mg_board.specs.declared.view.View.{View}
use Rattle.mg_board.specs.History.{IsAmong}
use Rattle.mg_board.specs.Shared.{word_of, home_of, hand_of, IsShared}
use Rattle.mg_board.proofs.Histories.{prefix_shorter, longer_cases}
use Rattle.mg_board.proofs.Keeps.{has_turn, hand_here}

module _ {X : Type 0} (by : X → ℕ) (opening : List X) (passes : ℕ) (s : State (Option (List X)) (View X)) (r : IsShared by opening passes s) where
  abbrev At : ℕ → View X → Type 0
  At seat v = get_elem? s.views seat ≡ some v

  abbrev Holds : View X → Type 0
  Holds v = (log : List X) × (v.hand ≡ Some log)

  has : (seat : ℕ) (v : View X) → At seat v → Holds v → r.turn ≡ Some seat
  has seat v at h = (has_turn r.turn r.history h.0 seat (sym (r.kept.each seat v at).hand ∙ h.1)).0

  -- two seats that have the turn are one
  pub one_holder : (i j : ℕ) (v w : View X) → At i v → At j w → Holds v → Holds w → i ≡ j
  one_holder i j v w at at' h h' = (let mine = has i v at h in let theirs = has j w at' h' in cc (mine, theirs))

  -- a seat has the turn exactly where the turn is 1
  pub turn_is_held : (slice_index s.words 0 ≡ 1) ↔ ((seat : ℕ) × (v : View X) × At seat v × Holds v)
  turn_is_held =
      let one : (turn : Option ℕ) → r.turn ≡ turn → slice_index (word_of turn ∷ length r.history ∷ []) 0 ≡ 1 → (seat : ℕ) × (v : View X) × At seat v × Holds v = λ turn. elim turn as (λ t. r.turn ≡ t → slice_index (word_of t ∷ length r.history ∷ []) 0 ≡ 1 → (seat : ℕ) × (v : View X) × At seat v × Holds v) [
        | None ↦ λ e word. absurd (cc (word))
        | Some holder ↦ λ e word. (let there = r.kept.holder holder e in (holder, there.0, there.1, (r.history, (r.kept.each holder there.0 there.1).hand ∙ (ap (λ t. hand_of t r.history holder) e ∙ hand_here r.history holder))))
      ] in (
        (λ word. one r.turn refl (ap (λ ws. slice_index ws 0) (sym r.words) ∙ word)),
        (λ h. ap (λ ws. slice_index ws 0) r.words ∙ ap (λ t. word_of t) (has h.0 h.1 h.2 h.3)),
      )

  -- a book at home has as many stamps as the count says
  pub home_is_counted : (book : List X) → get_elem? s.homes 0 ≡ some (some (Some book)) → slice_index s.words 1 ≡ length book
  home_is_counted book at =
      let go : (turn : Option ℕ) → get_elem? (home_of turn r.history ∷ []) 0 ≡ some (some (Some book)) → r.history ≡ book = λ turn. elim turn as (λ t. get_elem? (home_of t r.history ∷ []) 0 ≡ some (some (Some book)) → r.history ≡ book) [
        | None ↦ λ e. cc (e)
        | Some holder ↦ λ e. absurd (cc (e))
      ] in
      ap (λ ws. slice_index ws 1) r.words ∙ ap length (go r.turn (ap (λ hs. get_elem? hs 0) (sym r.homes) ∙ at))

  -- of two seen logs one begins the other
  pub one_begins : (i j : ℕ) (v w : View X) → At i v → At j w → IsPrefix v.seen w.seen ⊎ IsPrefix w.seen v.seen
  one_begins i j v w at at' =
      let mine = (r.kept.each i v at).seen in
      let theirs = (r.kept.each j w at').seen in
      longer_cases (λ _ _. IsPrefix v.seen w.seen ⊎ IsPrefix w.seen v.seen) v.seen w.seen (λ le. inr (prefix_shorter w.seen v.seen r.history theirs mine le)) (λ le. inl (prefix_shorter v.seen w.seen r.history mine theirs le))

  -- a number stands in one view
  pub one_stands : (n i j : ℕ) (v w : View X) → At i v → At j w → IsAmong n v.numbers → IsAmong n w.numbers → i ≡ j
  one_stands n i j v w at at' a a' = sym (((r.kept.each i v at).owns n).0 a).1 ∙ (((r.kept.each j w at').owns n).0 a').1

  -- views that stand for a number have the same opening log
  pub one_opening : (n m i j : ℕ) (v w : View X) → At i v → At j w → IsAmong n v.numbers → IsAmong m w.numbers → v.opening ≡ w.opening
  one_opening n m i j v w at at' a a' = ((r.kept.each i v at).opens n a).0 ∙ sym ((r.kept.each j w at').opens m a').0
