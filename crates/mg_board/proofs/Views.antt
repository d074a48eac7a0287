-- What is kept where seats are made, cut and joined, and at the end.
use Rattle.std.proofs.Common.{◌≡◌, ◌≢◌, ℕ, zero, suc, ◌+◌, ◌<◌, ◌≤◌, ◌⊎◌, inl, inr, true, false, nat_eq, nat_lt, List, [], ◌∷◌, ◌++◌, length, set, Option, Some, None, if◌then◌else◌, refl, ap, sym, ◌∙◌, subst, ⊎_elim, arith, append-nil, length-append, length-set, eq-eqb, ne_eqb}
use mathlib.Core.List.{IsPrefix}
use mathlib.Core.Logic.{dite}
use mathlib.Core.Option.{some, some-ne-none, some-injective}
use native.Mathlib.Decide.{ℕ_discrete}
use lib.ListN.{get_elem?}
use Rattle.atomic_table.proofs.Lists.{at_longer}
use Rattle.mg_board.specs.declared.view.View.{View}
use Rattle.mg_board.specs.History.{stamps_of, IsAmong, longer}
use Rattle.mg_board.specs.Shared.{hand_of, Knows, IsKept}
use Rattle.mg_board.specs.Seats.{numbers_from, newcomer, shorter, lesser, both, spent}
use Rattle.mg_board.proofs.Histories.{prefix_self, prefix_trans, prefix_shorter, among_left, among_right, among_either, longer_cases, squeezed}
use Rattle.mg_board.proofs.Keeps.{there_set, each_set, hand_here, hand_else, still_knows}

module _ {A : Type 0} where
  pub at_within : (l : List A) (i : ℕ) (a : A) → get_elem? l i ≡ some a → i < length l
  at_within [] i a e = absurd (some-ne-none a (sym e))
  at_within (x ∷ xs) zero a e = omega arith
  at_within (x ∷ xs) (suc i) a e = (let h = at_within xs i a e in omega arith)

  pub snoc_cases : (l : List A) (a b : A) (j : ℕ) → get_elem? (l ++ a ∷ []) j ≡ some b → (get_elem? l j ≡ some b) ⊎ ((j ≡ length l) × (a ≡ b))
  snoc_cases [] a b zero e = inr (refl, some-injective a b e)
  snoc_cases [] a b (suc j) e = absurd (some-ne-none b (sym e))
  snoc_cases (x ∷ xs) a b zero e = inl e
  snoc_cases (x ∷ xs) a b (suc j) e = ⊎_elim (λ h. inl h) (λ h. inr (ap suc h.0, h.1)) (snoc_cases xs a b j e)

pub among_from : (n a k : ℕ) → IsAmong n (numbers_from a k) → (a ≤ n) × (n < a + k)
among_from n a zero h = absurd h
among_from n a (suc k) h = elim h [ inl e ↦ (omega (arith, e), omega (arith, e)) | inr e ↦ (let t = among_from n (a + 1) k e in (omega (arith, t.0), omega (arith, t.1))) ]

pub from_among : (n a k : ℕ) → a ≤ n → n < a + k → IsAmong n (numbers_from a k)
from_among n a zero low high = absurd (omega arith)
from_among n a (suc k) low high = dite (ℕ_discrete n a) (λ e. inl e) (λ ne. inr (from_among n (a + 1) k (omega (arith, ne)) (omega arith)))

none_left : {X : Type 0} (xs ys : List X) → length (xs ++ ys) ≡ length xs → ys ≡ []
none_left xs [] e = refl
none_left xs (y ∷ ys) e = (let l = length-append xs (y ∷ ys) in absurd (omega (arith, l, e)))

-- a number is given another seat
abbrev pub put : (ℕ → ℕ) → ℕ → ℕ → ℕ → ℕ
put owner n seat m = if nat_eq m n then seat else owner m

put_here : (owner : ℕ → ℕ) (n seat m : ℕ) → m ≡ n → put owner n seat m ≡ seat
put_here owner n seat m e = ap (λ b. if b then seat else owner m) (eq-eqb m n e)

put_else : (owner : ℕ → ℕ) (n seat m : ℕ) → m ≢ n → put owner n seat m ≡ owner m
put_else owner n seat m e = ap (λ b. if b then seat else owner m) (ne_eqb m n e)

-- the numbers of one seat are given to another
abbrev pub moved : (ℕ → ℕ) → ℕ → ℕ → ℕ → ℕ
moved owner from to m = if nat_eq (owner m) from then to else owner m

moved_here : (owner : ℕ → ℕ) (from to m : ℕ) → owner m ≡ from → moved owner from to m ≡ to
moved_here owner from to m e = ap (λ b. if b then to else owner m) (eq-eqb (owner m) from e)

moved_else : (owner : ℕ → ℕ) (from to m : ℕ) → owner m ≢ from → moved owner from to m ≡ owner m
moved_else owner from to m e = ap (λ b. if b then to else owner m) (ne_eqb (owner m) from e)

module _ {X : Type 0} (by : X → ℕ) (opening : List X) (passes : ℕ) where
  abbrev V : Type 0
  V = View X

  -- a seat that isn't there has nothing in hand
  no_hand : (history : List X) (turn : Option ℕ) (views : List V) → ((j : ℕ) → turn ≡ Some j → (u : V) × (get_elem? views j ≡ some u)) → hand_of turn history (length views) ≡ None
  no_hand history None views h = refl
  no_hand history (Some holder) views h = (let u = h holder refl in let l = at_within views holder u.0 u.1 in hand_else history holder (length views) (λ c. omega (arith, l, c)))

  -- at the opening one seat stands for all numbers
  pub kept_opened : IsKept by opening passes opening None (λ n. 0) (newcomer opening 0 passes ∷ [])
  kept_opened = record {
    after = [];
    begins = sym (append-nil opening);
    numbered = tt;
    owned = λ n small. omega arith;
    holder = λ seat e. absurd (cc (e));
    each = λ seat v at.
        let here : seat ≡ 0 = (let h = at_within (newcomer opening 0 passes ∷ []) seat v at in omega (arith, h)) in
        let is : newcomer opening 0 passes ≡ v = some-injective (newcomer opening 0 passes) v (ap (get_elem? (newcomer opening 0 passes ∷ [])) (sym here) ∙ at) in
        subst (λ (y : ℕ × V). Knows by opening passes opening None (λ n. 0) y.0 y.1) (λ i. (sym here i, is i)) (record {
          seen = prefix_self opening;
          told = (opening, refl);
          hand = refl;
          holds = λ log e. absurd (cc (e));
          owns = λ n. ((λ a. let t = among_from n 0 passes a in (omega (arith, t.1), refl)), λ b. (let l = b.0 in from_among n 0 passes (omega arith) (omega (arith, l))));
          own = λ n a. refl;
          told_own = λ n a. absurd a;
          opens = λ n a. (refl, prefix_self opening);
        });
  }

  -- a seat gives up its first number to a new one
  pub kept_cut : (history : List X) (turn : Option ℕ) (owner : ℕ → ℕ) (views : List V) (seat : ℕ) (v : V) (next : ℕ) (rest : List ℕ) → IsKept by opening passes history turn owner views → get_elem? views seat ≡ some v
      → v.hand ≡ None → v.numbers ≡ v.number ∷ rest → (IsAmong v.number rest → ⊥)
      → IsKept by opening passes history turn (put owner v.number (length views)) (set views seat (record v { number = next; numbers = rest; told_of = [] }) ++ record v { numbers = v.number ∷ []; told_of = [] } ∷ [])
  kept_cut history turn owner views seat v next rest k at empty is fresh =
      let mine = k.each seat v at in
      let n : ℕ = v.number in
      let left : V = record v { number = next; numbers = rest; told_of = [] } in
      let right : V = record v { numbers = n ∷ []; told_of = [] } in
      let new : ℕ = length views in
      let owner' : ℕ → ℕ = put owner n new in
      let inside : seat < new = at_within views seat v at in
      let whole : (m : ℕ) → IsAmong m (n ∷ rest) → IsAmong m v.numbers = λ m a. subst (IsAmong m) (sym is) a in
      let parts : (m : ℕ) → IsAmong m v.numbers → IsAmong m (n ∷ rest) = λ m a. subst (IsAmong m) is a in
      let mine_n = (mine.owns n).0 (whole n (inl refl)) in
      let same_len : length (set views seat left) ≡ new = length-set views seat left in
      let Still : ℕ → V → Type 0 = Knows by opening passes history turn owner' in
      let old : (j : ℕ) (u : V) → get_elem? (set views seat left) j ≡ some u → Still j u =
      each_set Still views seat left
      (record {
        seen = mine.seen;
        told = mine.told;
        hand = mine.hand;
        holds = λ log e. absurd (cc (e, empty));
        owns = λ m. (
          (λ a. let ne : m ≢ n = λ e. fresh (subst (λ i. IsAmong i rest) e a) in let b = (mine.owns m).0 (whole m (inr a)) in (b.0, put_else owner n new m ne ∙ b.1)),
          λ b. dite (ℕ_discrete m n)
              (λ e. let clash : new ≡ seat = sym (put_here owner n new m e) ∙ b.1 in absurd (omega (arith, inside, clash)))
              (λ ne. elim (parts m ((mine.owns m).1 (b.0, sym (put_else owner n new m ne) ∙ b.1))) [ inl e ↦ absurd (ne e) | inr a ↦ a ]),
        );
        own = λ m a. mine.own m (whole m (inr a));
        told_own = λ m a. absurd a;
        opens = λ m a. mine.opens m (whole m (inr a));
      })
      (λ j u ne e. still_knows by opening passes history history turn turn owner owner' j u (k.each j u e) (prefix_self history) refl
      (λ m. let apart : j ≢ new = λ c. (let h = at_within views j u e in omega (arith, h, c)) in (
        (λ o. dite (ℕ_discrete m n) (λ c. absurd (apart (sym o ∙ put_here owner n new m c))) (λ c. sym (put_else owner n new m c) ∙ o)),
        (λ o. dite (ℕ_discrete m n) (λ c. absurd (ne (sym o ∙ (ap owner c ∙ mine_n.1)))) (λ c. put_else owner n new m c ∙ o)),
      ))
      (λ m a. refl)) in
      let newest : Still new right = record {
        seen = mine.seen;
        told = mine.told;
        hand = empty ∙ sym (no_hand history turn views k.holder);
        holds = λ log e. absurd (cc (e, empty));
        owns = λ m. (
          (λ a. elim a [ inl e ↦ (subst (λ i. i < passes) (sym e) mine_n.0, put_here owner n new m e) | inr f ↦ absurd f ]),
          λ b. dite (ℕ_discrete m n) (λ e. inl e) (λ ne. let small = k.owned m b.0 in let same : owner m ≡ new = sym (put_else owner n new m ne) ∙ b.1 in absurd (omega (arith, small, same))),
        );
        own = λ m a. elim a [ inl e ↦ mine.own m (whole m (inl e)) | inr f ↦ absurd f ];
        told_own = λ m a. absurd a;
        opens = λ m a. elim a [ inl e ↦ mine.opens m (whole m (inl e)) | inr f ↦ absurd f ];
      } in
      record {
        after = k.after;
        begins = k.begins;
        numbered = k.numbered;
        owned = λ m small.
            let more : length (set views seat left ++ right ∷ []) ≡ new + 1 = (let l = length-append (set views seat left) (right ∷ []) in omega (arith, l, same_len)) in
            dite (ℕ_discrete m n) (λ e. let h = put_here owner n new m e in omega (arith, more, h)) (λ ne. let h = put_else owner n new m ne in let o = k.owned m small in omega (arith, more, h, o));
        holder = λ j e. let u = k.holder j e in let w = there_set views seat j left u.0 u.1 in (w.0, at_longer (set views seat left) (right ∷ []) j w.0 w.1);
        each = λ j u e. ⊎_elim (λ h. old j u h)
            (λ (h : (j ≡ length (set views seat left)) × (right ≡ u)). subst (λ (y : ℕ × V). Still y.0 y.1) (λ i. (sym (h.0 ∙ same_len) i, h.1 i)) newest)
            (snoc_cases (set views seat left) right u j e);
      }

  -- two seats are made one
  pub kept_joined : (history : List X) (turn : Option ℕ) (owner : ℕ → ℕ) (views : List V) (seat : ℕ) (v : V) (other : ℕ) (w : V) → IsKept by opening passes history turn owner views → get_elem? views seat ≡ some v → other ≢ seat → get_elem? views other ≡ some w
      → v.hand ≡ None → w.hand ≡ None → IsAmong v.number v.numbers
      → IsKept by opening passes history turn (moved owner other seat) (set (set views seat (both v w)) other spent)
  kept_joined history turn owner views seat v other w k at apart at' empty empty' live =
      let mine = k.each seat v at in
      let theirs = k.each other w at' in
      let owner' : ℕ → ℕ = moved owner other seat in
      let Still : ℕ → V → Type 0 = Knows by opening passes history turn owner' in
      let Ends : List X → List X → Type 0 = λ long short. IsPrefix long history × IsPrefix short history × IsPrefix v.seen long × IsPrefix w.seen long in
      let ends : Ends (longer v.seen w.seen) (shorter v.seen w.seen) =
      longer_cases Ends v.seen w.seen
      (λ le. (mine.seen, theirs.seen, prefix_self v.seen, prefix_shorter w.seen v.seen history theirs.seen mine.seen le))
      (λ le. (theirs.seen, mine.seen, prefix_shorter v.seen w.seen history mine.seen theirs.seen le, prefix_self w.seen)) in
      let long : List X = longer v.seen w.seen in
      let About : List ℕ → List X → Type 0 = λ ms short. (m : ℕ) → IsAmong m ms → IsAmong m (v.numbers ++ w.numbers) × (stamps_of by m history ≡ stamps_of by m short) in
      let about : About (lesser v w) (shorter v.seen w.seen) =
      elim (nat_lt (length v.seen) (length w.seen)) as (λ b. About (if b then v.numbers else w.numbers) (if b then v.seen else w.seen)) [
        | true ↦ λ m a. (among_left m v.numbers w.numbers a, mine.own m a)
        | false ↦ λ m a. (among_right m v.numbers w.numbers a, theirs.own m a)
      ] in
      let same : v.opening ≡ opening = (mine.opens v.number live).0 in
      let mid : (j : ℕ) (u : V) → j ≢ other → get_elem? (set views seat (both v w)) j ≡ some u → Still j u =
      λ j u away e. each_set (λ i x. i ≢ other → Still i x) views seat (both v w)
      (λ _. record {
        seen = ends.0;
        told = ends.1;
        hand = mine.hand;
        holds = λ log e. absurd (cc (e, empty));
        owns = λ m. (
          (λ a. elim (among_either m v.numbers w.numbers a) [
            | inl l ↦ (let b = (mine.owns m).0 l in (b.0, moved_else owner other seat m (λ c. apart (sym c ∙ b.1)) ∙ b.1))
            | inr r ↦ (let b = (theirs.owns m).0 r in (b.0, moved_here owner other seat m b.1))
          ]),
          λ b. dite (ℕ_discrete (owner m) other) (λ c. among_right m v.numbers w.numbers ((theirs.owns m).1 (b.0, c)))
              (λ c. among_left m v.numbers w.numbers ((mine.owns m).1 (b.0, sym (moved_else owner other seat m c) ∙ b.1))),
        );
        own = λ m a. elim (among_either m v.numbers w.numbers a) [
          | inl l ↦ squeezed by m v.seen long history ends.2 ends.0 (mine.own m l)
          | inr r ↦ squeezed by m w.seen long history ends.3 ends.0 (theirs.own m r)
        ];
        told_own = about;
        opens = λ m a. (same, prefix_trans opening v.seen long (mine.opens v.number live).1 ends.2);
      })
      (λ i x ne e away. still_knows by opening passes history history turn turn owner owner' i x (k.each i x e) (prefix_self history) refl
      (λ m. (
        (λ o. dite (ℕ_discrete (owner m) other) (λ c. absurd (ne (sym o ∙ moved_here owner other seat m c))) (λ c. sym (moved_else owner other seat m c) ∙ o)),
        (λ o. moved_else owner other seat m (λ c. away (sym o ∙ c)) ∙ o),
      ))
      (λ m a. refl))
      j u e away in
      record {
        after = k.after;
        begins = k.begins;
        numbered = k.numbered;
        owned = λ m small.
            let len : length (set (set views seat (both v w)) other spent) ≡ length views = length-set (set views seat (both v w)) other spent ∙ length-set views seat (both v w) in
            let o = k.owned m small in
            let here = at_within views seat v at in
            dite (ℕ_discrete (owner m) other) (λ c. let h = moved_here owner other seat m c in omega (arith, h, len, here)) (λ c. let h = moved_else owner other seat m c in omega (arith, h, len, o));
        holder = λ j e. let u = k.holder j e in let x = there_set views seat j (both v w) u.0 u.1 in there_set (set views seat (both v w)) other j spent x.0 x.1;
        each = each_set Still (set views seat (both v w)) other spent
            (record {
              seen = (history, refl);
              told = (history, refl);
              hand = sym empty' ∙ theirs.hand;
              holds = λ log e. absurd (cc (e));
              owns = λ m. ((λ a. absurd a), λ b. dite (ℕ_discrete (owner m) other) (λ c. absurd (apart (sym b.1 ∙ moved_here owner other seat m c))) (λ c. absurd (c (sym (moved_else owner other seat m c) ∙ b.1))));
              own = λ m a. absurd a;
              told_own = λ m a. absurd a;
              opens = λ m a. absurd a;
            })
            mid;
      }

  -- at the end a seat stands for all numbers, and then nobody has the turn
  pub kept_ended : (history : List X) (turn : Option ℕ) (owner : ℕ → ℕ) (views : List V) (seat : ℕ) (v : V) → IsKept by opening passes history turn owner views → get_elem? views seat ≡ some v
      → v.hand ≡ None → ((n : ℕ) → n < passes → IsAmong n v.numbers) → turn ≡ None
  kept_ended history turn owner views seat v k at empty all =
      elim turn as (λ t. turn ≡ t → t ≡ None) [
        | None ↦ λ e. refl
        | Some holder ↦ λ e.
            let there = k.holder holder e in
            let u = there.0 in
            let theirs = k.each holder u there.1 in
            let has : u.hand ≡ Some history = theirs.hand ∙ (ap (λ t. hand_of t history holder) e ∙ hand_here history holder) in
            let b = (theirs.owns u.number).0 (theirs.holds history has) in
            let mine = ((k.each seat v at).owns u.number).0 (all u.number b.0) in
            let same : holder ≡ seat = sym b.1 ∙ mine.1 in
            let too : v.hand ≡ Some history = (k.each seat v at).hand ∙ (ap (λ t. hand_of t history seat) (e ∙ ap Some same) ∙ hand_here history seat) in
            absurd (cc (too, empty))
      ] refl
