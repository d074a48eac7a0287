-- Each kind of step on the table keeps the rule.
use Rattle.std.proofs.Common.{◌≡◌, ℕ, ◌+◌, ◌<◌, ◌≤◌, ◌==◌, true, false, List, [], ◌∷◌, ◌++◌, length, set, slice_index, Option, Some, None, refl, ap, sym, ◌∙◌, subst, arith, ⊎_elim, nat_lt, if◌then◌else◌}
use mathlib.Core.Option.{some, none}
use mathlib.Core.Option as maybe
use prog.Atomic.{either}
use lib.ListN.{get_elem?}
use Rattle.atomic_table.specs.Table.{State, Me, step, Act, keeps, takes, gives, Valid, carried_after, stepped, Allows, Splits, Joins, opening, Final, Seen}
use Rattle.atomic_table.proofs.Lists.{at_set, set_again}
use Rattle.mg_board.specs.declared.view.View.{View}
use Rattle.mg_board.specs.History.{IsAmong, Reaches, longer}
use Rattle.mg_board.specs.Shared.{word_of, home_of, IsKept, IsShared}
use Rattle.atomic_table.specs.Seated.{TableId}
use Rattle.mg_board.specs.Passes.{Closes}
use Rattle.mg_board.specs.Seats.{state_of, tried, looked, advanced, released, learned, newcomer, alone, others, shorter, lesser, both, spent}
use Rattle.mg_board.proofs.Histories.{prefix_self, prefix_shorter, longer_cases}
use Rattle.mg_board.proofs.Keeps.{has_turn, kept_won, kept_released, kept_seen, kept_advanced, reaches}
use Rattle.mg_board.proofs.Views.{kept_opened, kept_cut, kept_joined, kept_ended, put, moved}

abbrev in_hand : {X : Type 0} → List (ℕ × Option (List X)) → Option (List X)
in_hand [] = None
in_hand (y ∷ ys) = y.1

module _ {X : Type 0} (by : X → ℕ) (first : List X) (passes : ℕ) where
  abbrev V : Type 0
  V = View X

  abbrev S : Type 0
  S = Option (List X)

  abbrev Rule : State S V → Type 0
  Rule = IsShared by first passes

  -- the table where the history, the turn and the views are these
  abbrev spelt : Option ℕ → List X → List V → State S V
  spelt turn history views = record { words = word_of turn ∷ length history ∷ []; homes = home_of turn history ∷ []; views = views }

  abbrev Goes : State S V → ℕ → Me S V → ℕ → (ℕ → ℕ) → (ℕ → Me S V → Type 0) → Type 0
  Goes s id m i f tells =
      (w : V) × (a : Act S) × Valid s.homes m.1 a × Rule (stepped s i (f (slice_index s.words i)) id m.1 w a) × tells (slice_index s.words i) (w, carried_after m.1 a)

  rule : (turn : Option ℕ) (history : List X) (owner : ℕ → ℕ) (views : List V) → IsKept by first passes history turn owner views → Rule (spelt turn history views)
  rule turn history owner views k = record { history = history; turn = turn; owner = owner; words = refl; homes = refl; kept = k }

  -- it is enough to look at tables that are spelt out
  allows : (id : ℕ) (m : Me S V) (i : ℕ) (f : ℕ → ℕ) (tells : ℕ → Me S V → Type 0)
      → ((turn : Option ℕ) (history : List X) (owner : ℕ → ℕ) (views : List V) → IsKept by first passes history turn owner views → get_elem? views id ≡ some m.0 → Goes (spelt turn history views) id m i f tells)
      → (slots : ℕ) → Allows Rule slots id m i f tells
  allows id m i f tells go slots s r _ at _ =
      subst (λ (y : List ℕ × List (maybe.Option S)). Goes (record { words = y.0; homes = y.1; views = s.views }) id m i f tells) (λ k. (sym r.words k, sym r.homes k)) (go r.turn r.history r.owner s.views r.kept at)

  -- try the turn
  tries_goes : (id : ℕ) (v : V) → IsAmong v.number v.numbers → (turn : Option ℕ) (history : List X) (owner : ℕ → ℕ) (views : List V) → IsKept by first passes history turn owner views → get_elem? views id ≡ some v
      → Goes (spelt turn history views) id (v, []) 0 (λ n. either (n == 0) 1 n) (tried by (step 1 0 0 1 none) (v, []))
  tries_goes id v live None history owner views k at = (
    record v { hand = Some history },
    takes 0 (Some history),
    refl,
    rule (Some id) history owner (set views id (record v { hand = Some history })) (kept_won by first passes history owner views id v k at live),
    ((λ e. (history, reaches by first passes history None owner views id v k at, refl)), λ ne. absurd (ne refl)),
  )
  tries_goes id v live (Some holder) history owner views k at = (
    v,
    keeps,
    tt,
    rule (Some holder) history owner (set views id v) (subst (IsKept by first passes history (Some holder) owner) (sym (set_again views id v at)) k),
    ((λ e. absurd (omega (arith, e))), λ ne. refl),
  )

  pub tries : (slots id : ℕ) (me : Me S V) → me.1 ≡ [] → IsAmong me.0.number me.0.numbers → Allows Rule slots id me 0 (λ n. either (n == 0) 1 n) (tried by (step slots 0 0 1 none) me)
  tries slots id me bare live =
      subst (λ c. Allows Rule slots id (me.0, c) 0 (λ n. either (n == 0) 1 n) (tried by (step slots 0 0 1 none) (me.0, c))) (sym bare)
      (allows id (me.0, []) 0 (λ n. either (n == 0) 1 n) (tried by (step 1 0 0 1 none) (me.0, [])) (tries_goes id me.0 live) slots)

  -- let the turn go, and the book with it
  releases_with : (id : ℕ) (v : V) (log : List X) → v.hand ≡ Some log → (slots : ℕ) → Allows Rule slots id (v, (0, Some log) ∷ []) 0 (λ _. 0) (λ _. released (step slots 0 0 0 none) (v, (0, Some log) ∷ []) 0)
  releases_with id v log held = allows id (v, (0, Some log) ∷ []) 0 (λ _. 0) (λ _. released (step 1 0 0 0 none) (v, (0, Some log) ∷ []) 0) (λ turn history owner views k at.
      let h = has_turn turn history log id (sym (k.each id v at).hand ∙ held) in
      let k' : IsKept by first passes history (Some id) owner views = subst (λ t. IsKept by first passes history t owner views) h.0 k in
      let w : V = record v { hand = None } in (
        w,
        gives,
        tt,
        subst (λ (y : Option ℕ × List X). Rule (stepped (spelt y.0 history views) 0 0 id ((0, Some y.1) ∷ []) w gives)) (λ i. (sym h.0 i, sym h.1 i)) (rule None history owner (set views id w) (kept_released by first passes history owner views id v k' at)),
        refl,
      ))

  pub releases : (slots id : ℕ) (me : Me S V) (log : List X) → me.0.hand ≡ Some log → me.1 ≡ (0, Some log) ∷ [] → Allows Rule slots id me 0 (λ _. 0) (λ _. released (step slots 0 0 0 none) me 0)
  releases slots id me log held has =
      subst (λ c. Allows Rule slots id (me.0, c) 0 (λ _. 0) (λ _. released (step slots 0 0 0 none) (me.0, c) 0)) (sym has) (releases_with id me.0 log held slots)

  -- load the count, with the turn
  looks_with : (id : ℕ) (v : V) (c : List (ℕ × S)) (log : List X) → v.hand ≡ Some log → (slots : ℕ) → Allows Rule slots id (v, c) 1 (λ n. n) (looked (step slots 1 0 0 none) (v, c))
  looks_with id v c log held = allows id (v, c) 1 (λ n. n) (looked (step 1 1 0 0 none) (v, c)) (λ turn history owner views k at.
      let mine = k.each id v at in
      let h = has_turn turn history log id (sym mine.hand ∙ held) in (
        record v { seen = history },
        keeps,
        tt,
        rule turn history owner (set views id (record v { seen = history })) (kept_seen by first passes history turn owner views id v history v.told v.told_of k at mine.seen (prefix_self history) mine.told mine.own mine.told_own),
        λ l e. let same : history ≡ l = cc (held, e, h.1) in (ap (λ z. (record v { seen = z }, c)) same, ap length same),
      ))

  pub looks : (slots id : ℕ) (me : Me S V) (log : List X) → me.0.hand ≡ Some log → Allows Rule slots id me 1 (λ n. n) (looked (step slots 1 0 0 none) me)
  looks slots id me log held = looks_with id me.0 me.1 log held slots

  -- load the count, after two seats were joined
  learns_with : (id : ℕ) (v : V) → length v.told ≤ length v.seen → (slots : ℕ) → Allows Rule slots id (v, []) 1 (λ n. n) (learned by (step slots 1 0 0 none) (v, []))
  learns_with id v part = allows id (v, []) 1 (λ n. n) (learned by (step 1 1 0 0 none) (v, [])) (λ turn history owner views k at.
      let mine = k.each id v at in (
        record v { told = []; told_of = [] },
        keeps,
        tt,
        rule turn history owner (set views id (record v { told = []; told_of = [] })) (kept_seen by first passes history turn owner views id v v.seen [] [] k at (prefix_self v.seen) mine.seen (history, refl) (λ n a. refl) (λ n a. absurd a)),
        (record { begins = prefix_shorter v.told v.seen history mine.told mine.seen part; own = λ n a. let t = mine.told_own n a in sym (mine.own n t.0) ∙ t.1 }, refl),
      ))

  pub learns : (slots id : ℕ) (me : Me S V) → me.1 ≡ [] → length me.0.told ≤ length me.0.seen → Allows Rule slots id me 1 (λ n. n) (learned by (step slots 1 0 0 none) me)
  learns slots id me bare part =
      subst (λ c. Allows Rule slots id (me.0, c) 1 (λ n. n) (learned by (step slots 1 0 0 none) (me.0, c))) (sym bare) (learns_with id me.0 part slots)

  -- advance the count
  advances_with : (id : ℕ) (v : V) (log : List X) (x : X) (n : ℕ) → v.hand ≡ Some log → by x ≡ v.number → IsAmong v.number v.numbers → n ≡ length (log ++ x ∷ [])
      → (slots : ℕ) → Allows Rule slots id (v, (0, Some (log ++ x ∷ [])) ∷ []) 1 (λ _. n) (λ _. advanced (step slots 1 n 0 none) (v, (0, Some (log ++ x ∷ [])) ∷ []) n)
  advances_with id v log x n held is live many = allows id (v, (0, Some (log ++ x ∷ [])) ∷ []) 1 (λ _. n) (λ _. advanced (step 1 1 n 0 none) (v, (0, Some (log ++ x ∷ [])) ∷ []) n) (λ turn history owner views k at.
      let h = has_turn turn history log id (sym (k.each id v at).hand ∙ held) in
      let k' : IsKept by first passes history (Some id) owner views = subst (λ t. IsKept by first passes history t owner views) h.0 k in
      let new : List X = history ++ x ∷ [] in
      let w : V = record v { seen = new; told_of = []; hand = Some new } in
      let size : length new ≡ n = sym (many ∙ ap (λ l. length (l ++ x ∷ [])) h.1) in (
        w,
        keeps,
        tt,
        subst (λ (y : Option ℕ × ℕ). Rule (stepped (spelt y.0 history views) 1 y.1 id ((0, Some (log ++ x ∷ [])) ∷ []) w keeps)) (λ i. (sym h.0 i, size i)) (rule (Some id) new owner (set views id w) (kept_advanced by first passes history owner views id v x k' at is live)),
        λ l e. let same : new ≡ l = ap (λ z. z ++ x ∷ []) (sym h.1) ∙ (let inside = ap in_hand e in cc (inside)) in λ i. (record v { seen = same i; told_of = []; hand = Some (same i) }, e i),
      ))

  pub advances : (slots id : ℕ) (me : Me S V) (log new : List X) (x : X) (n : ℕ) → me.0.hand ≡ Some log → me.1 ≡ (0, Some new) ∷ [] → new ≡ log ++ x ∷ [] → by x ≡ me.0.number → IsAmong me.0.number me.0.numbers → n ≡ length new
      → Allows Rule slots id me 1 (λ _. n) (λ _. advanced (step slots 1 n 0 none) me n)
  advances slots id me log new x n held has more is live many =
      subst (λ c. Allows Rule slots id (me.0, c) 1 (λ _. n) (λ _. advanced (step slots 1 n 0 none) (me.0, c) n)) (sym (has ∙ ap (λ l. (0, Some l) ∷ []) more))
      (advances_with id me.0 log x n held is live (many ∙ ap length more) slots)

  -- the table at the opening
  pub opens : (n : ℕ) → n ≡ length first → Rule (opening (0 ∷ n ∷ []) (Some first ∷ []) (newcomer first 0 passes))
  opens n e = subst (λ (n : ℕ). Rule (opening (0 ∷ n ∷ []) (Some first ∷ []) (newcomer first 0 passes))) (sym e) (rule None first (λ n. 0) (newcomer first 0 passes ∷ []) (kept_opened by first passes))

  -- split a seat
  pub splits : (id : ℕ) (v : V) (rest : List ℕ) → v.hand ≡ None → v.numbers ≡ v.number ∷ rest → (IsAmong v.number rest → ⊥) → Splits Rule id v (others v) (alone v)
  splits id v rest empty is fresh s r at =
      let next : List ℕ = (others v).numbers in
      let same : next ≡ rest = cc (is) in
      record {
        history = r.history;
        turn = r.turn;
        owner = put r.owner v.number (length s.views);
        words = r.words;
        homes = r.homes;
        kept = kept_cut by first passes r.history r.turn r.owner s.views id v (v.number + 1) next r.kept at empty (is ∙ ap (λ l. v.number ∷ l) (sym same)) (λ a. fresh (subst (IsAmong v.number) same a));
      }

  -- join a seat
  pub joins : (id : ℕ) (v : V) (other : ℕ) (w : V) → v.hand ≡ None → w.hand ≡ None → IsAmong v.number v.numbers → Joins Rule id v other w (both v w) spent
  joins id v other w empty empty' live s r at apart at' =
      let was : get_elem? s.views other ≡ some w = ⊎_elim (λ h. absurd (apart h.0)) (λ h. h.1) (at_set s.views id other (both v w) w at') in
      record {
        history = r.history;
        turn = r.turn;
        owner = moved r.owner other id;
        words = r.words;
        homes = r.homes;
        kept = kept_joined by first passes r.history r.turn r.owner s.views id v other w r.kept at apart was empty empty' live;
      }

  -- at the end the book is at home
  pub ends : (board : TableId) (id : ℕ) (v : V) (words : List ℕ) (slots : List S) → v.hand ≡ None → ((n : ℕ) → n < passes → IsAmong n v.numbers) → Final (Seen Rule id v) words slots
      → (history : List X) × (get_elem? slots 0 ≡ some (Some history)) × Closes by (record { board = board; opening = first; passes = passes }) (state_of board v) history
  ends board id v words slots empty all f =
      let s = f.0 in
      let r = f.1.0 in
      let nobody = kept_ended by first passes r.history r.turn r.owner s.views id v r.kept f.1.1 empty all in
      let home : get_elem? s.homes 0 ≡ some (some (Some r.history)) = ap (λ hs. get_elem? hs 0) r.homes ∙ ap (λ t. some (home_of t r.history)) nobody in (
        r.history,
        f.4 0 (Some r.history) home,
        record {
          seen = reaches by first passes r.history r.turn r.owner s.views id v r.kept f.1.1;
          after = r.kept.after;
          begins = r.kept.begins;
          numbered = r.kept.numbered;
        },
      )

  -- what is told after two seats were joined
  pub meets : (v w : V) → Reaches by (lesser v w) (shorter v.seen w.seen) (longer v.seen w.seen) → Reaches by v.numbers v.seen (longer v.seen w.seen) × Reaches by w.numbers w.seen (longer v.seen w.seen)
  meets v w told =
      elim (nat_lt (length v.seen) (length w.seen)) as (λ b. Reaches by (if b then v.numbers else w.numbers) (if b then v.seen else w.seen) (if b then w.seen else v.seen)
      → Reaches by v.numbers v.seen (if b then w.seen else v.seen) × Reaches by w.numbers w.seen (if b then w.seen else v.seen)) [
        | true ↦ λ r. (r, record { begins = prefix_self w.seen; own = λ n a. refl })
        | false ↦ λ r. (record { begins = prefix_self v.seen; own = λ n a. refl }, r)
      ] told

  pub shorter_fits : (v w : V) → length (shorter v.seen w.seen) ≤ length (longer v.seen w.seen)
  shorter_fits v w = longer_cases (λ long short. length short ≤ length long) v.seen w.seen (λ le. le) (λ le. le)
