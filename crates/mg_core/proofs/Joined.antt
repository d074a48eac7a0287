-- Lemmas on streaks: the log that they make, and one turn more.
use Rattle.std.proofs.Common.{◌≡◌, ℕ, zero, suc, ◌+◌, ◌<◌, ◌^◌, inl, inr, Bool, true, false, cond, List, [], ◌∷◌, ◌++◌, length, take, drop, refl, ap, sym, ◌∙◌, subst, arith, add-one, append-nil, append_assoc, length-append}
use Rattle.std.specs.List.{AllByRecursion}
use Rattle.std.proofs.lemmas.List.{take-append-drop, take-append-le, drop-append-le, take_all, length_push}
use Rattle.std.proofs.Math.ListN.{drop_of_length-le}
use Rattle.mg_core.specs.declared.entries.Entry.{Entry}
use Rattle.mg_core.specs.declared.streaks.Common.{Common}
use Rattle.mg_core.specs.declared.streaks.Streak.{Streak}
use Rattle.mg_core.specs.Log.{facts_of}
use Rattle.mg_core.specs.Streaks.{turn_of, turns_from, log_of, IsNumbered, Found, longer, next_of, Joins}
use Rattle.mg_core.proofs.Scans.{all_push, nil_of}

-- the last members of equal lists are equal
last_same : {X : Type 0} (xs ys : List X) (x y : X) → xs ++ x ∷ [] ≡ ys ++ y ∷ [] → x ≡ y
last_same [] [] x y e = cc
last_same [] (w ∷ ys) x y e = absurd (omega (arith, ap length e, length_push ys y))
last_same (v ∷ xs) [] x y e = absurd (omega (arith, ap length e, length_push xs x))
last_same (v ∷ xs) (w ∷ ys) x y e = last_same xs ys x y (cc)

module _ {R : Type 0} where
  -- turns that found nothing bring no facts
  either_same : (b : Bool) (facts : List R) → cond b facts ([] ++ facts) ≡ facts
  either_same true facts = refl
  either_same false facts = refl

  no_facts : (common : Common) (turn more : ℕ) (log : List (Entry R)) → facts_of (turns_from common turn more ++ log) ≡ facts_of log
  no_facts common turn zero log = refl
  no_facts common turn (suc more) log = either_same common.dropped (facts_of (turns_from common (turn + 1) more ++ log)) ∙ no_facts common (turn + 1) more log

  parted : (dropped : Bool) (records : ℕ) (facts : List R) → (dropped ≡ true → records ≡ 0) → cond dropped (drop records facts) (take records facts ++ drop records facts) ≡ facts
  parted true records facts none = ap (λ n. drop n facts) (none refl)
  parted false records facts none = take-append-drop records facts

  -- the facts of the log are those that the streaks found
  pub facts_found : (facts : List R) (streaks : List Streak) → Found facts streaks → facts_of (log_of facts streaks) ≡ facts
  facts_found facts [] found = sym found
  facts_found facts (s ∷ streaks) found =
      let rest : List (Entry R) = log_of (drop s.records facts) streaks in
      let behind = no_facts s.common (s.turn + 1) s.more rest ∙ facts_found (drop s.records facts) streaks found.2 in
      ap (λ fs. cond s.common.dropped fs (take s.records facts ++ fs)) behind ∙ parted s.common.dropped s.records facts found.1

  -- one turn more of those that found nothing
  turns_pushed : (common : Common) (turn more : ℕ) → turns_from {R = R} common turn (suc more) ≡ turns_from common turn more ++ turn_of common (turn + more) [] ∷ []
  turns_pushed common turn zero = (let same : turn + 0 ≡ turn = omega arith in ap (λ n. turn_of common n [] ∷ []) (sym same))
  turns_pushed common turn (suc more) =
      let next : (turn + 1) + more ≡ turn + suc more = omega arith in
      ap (λ log. turn_of common turn [] ∷ log) (turns_pushed common (turn + 1) more ∙ ap (λ n. turns_from common (turn + 1) more ++ turn_of common n [] ∷ []) next)

  -- a streak more
  log_pushed : (facts new : List R) (streaks : List Streak) (s : Streak) → Found facts streaks → s.records ≡ length new → s.more ≡ 0 →
      log_of (facts ++ new) (streaks ++ s ∷ []) ≡ log_of facts streaks ++ turn_of s.common s.turn new ∷ []
  log_pushed facts new [] s found size one =
      let here : facts ++ new ≡ new = ap (λ fs. fs ++ new) found in
      let all : take s.records (facts ++ new) ≡ new = ap (take s.records) here ∙ take_all s.records new (omega (arith, size)) in
      ap (λ records. turn_of s.common s.turn records ∷ (turns_from s.common (s.turn + 1) s.more ++ [])) all
      ∙ ap (λ more. turn_of s.common s.turn new ∷ (turns_from s.common (s.turn + 1) more ++ [])) one
      ∙ ap (λ fs. log_of fs [] ++ turn_of s.common s.turn new ∷ []) found
  log_pushed facts new (q ∷ streaks) s found size one =
      let turns : List (Entry R) = turns_from q.common (q.turn + 1) q.more in
      let rest = ap (λ fs. log_of fs (streaks ++ s ∷ [])) (drop-append-le q.records facts new found.0) ∙ log_pushed (drop q.records facts) new streaks s found.2 size one in
      ap (λ records. turn_of q.common q.turn records ∷ (turns ++ log_of (drop q.records (facts ++ new)) (streaks ++ s ∷ []))) (take-append-le q.records facts new found.0)
      ∙ ap (λ log. turn_of q.common q.turn (take q.records facts) ∷ (turns ++ log)) rest
      ∙ ap (λ log. turn_of q.common q.turn (take q.records facts) ∷ log) (sym (append_assoc turns (log_of (drop q.records facts) streaks) (turn_of s.common s.turn new ∷ [])))

  found_pushed : (facts new : List R) (streaks : List Streak) (s : Streak) → Found facts streaks → s.records ≡ length new → (s.common.dropped ≡ true → s.records ≡ 0) → Found (facts ++ new) (streaks ++ s ∷ [])
  found_pushed facts new [] s found size none =
      let here : facts ++ new ≡ new = ap (λ fs. fs ++ new) found in
      (omega (arith, size, ap length here), none, drop_of_length-le (facts ++ new) (omega (arith, size, ap length here)))
  found_pushed facts new (q ∷ streaks) s found size none =
      (omega (arith, found.0, length-append facts new), found.1, subst (λ fs. Found fs (streaks ++ s ∷ [])) (sym (drop-append-le q.records facts new found.0)) (found_pushed (drop q.records facts) new streaks s found.2 size none))

  -- a streak that goes on
  pub log_longer : (facts : List R) (streaks : List Streak) (s : Streak) →
      log_of facts (streaks ++ longer s ∷ []) ≡ log_of facts (streaks ++ s ∷ []) ++ turn_of s.common (s.turn + s.more + 1) [] ∷ []
  log_longer facts [] s =
      let turns : List (Entry R) = turns_from s.common (s.turn + 1) s.more in
      let last : List (Entry R) = turn_of s.common (s.turn + s.more + 1) [] ∷ [] in
      let next : (s.turn + 1) + s.more ≡ s.turn + s.more + 1 = omega arith in
      let one : turns_from {R = R} s.common (s.turn + 1) (s.more + 1) ≡ turns_from s.common (s.turn + 1) (suc s.more) = ap (turns_from s.common (s.turn + 1)) (add-one s.more) in
      let pushed = one ∙ turns_pushed s.common (s.turn + 1) s.more ∙ ap (λ n. turns ++ turn_of s.common n [] ∷ []) next in
      ap (λ log. turn_of s.common s.turn (take s.records facts) ∷ log) (append-nil (turns_from s.common (s.turn + 1) (s.more + 1)) ∙ pushed ∙ ap (λ log. log ++ last) (sym (append-nil turns)))
  log_longer facts (q ∷ streaks) s =
      let turns : List (Entry R) = turns_from q.common (q.turn + 1) q.more in
      let last : List (Entry R) = turn_of s.common (s.turn + s.more + 1) [] ∷ [] in
      ap (λ log. turn_of q.common q.turn (take q.records facts) ∷ (turns ++ log)) (log_longer (drop q.records facts) streaks s)
      ∙ ap (λ log. turn_of q.common q.turn (take q.records facts) ∷ log) (sym (append_assoc turns (log_of (drop q.records facts) (streaks ++ s ∷ [])) last))

  pub found_longer : (facts : List R) (streaks : List Streak) (s : Streak) → Found facts (streaks ++ s ∷ []) → Found facts (streaks ++ longer s ∷ [])
  found_longer facts [] s found = found
  found_longer facts (q ∷ streaks) s found = (found.0, found.1, found_longer (drop q.records facts) streaks s found.2)

  -- the last entry is of the last streak
  last_turn : (common : Common) (turn more : ℕ) (first : List R) → (before : List (Entry R)) × (records : List R) × (turn_of common turn first ∷ turns_from common (turn + 1) more ≡ before ++ turn_of common (turn + more) records ∷ [])
  last_turn common turn zero first = (let same : turn ≡ turn + 0 = omega arith in ([], first, ap (λ n. turn_of common n first ∷ []) same))
  last_turn common turn (suc more) first =
      let rest = last_turn common (turn + 1) more [] in
      let same : (turn + 1) + more ≡ turn + suc more = omega arith in
      (turn_of common turn first ∷ rest.0, rest.1, ap (λ log. turn_of common turn first ∷ log) (rest.2 ∙ ap (λ n. rest.0 ++ turn_of common n rest.1 ∷ []) same))

  last_entry : (facts : List R) (streaks : List Streak) (s : Streak) → (before : List (Entry R)) × (records : List R) × (log_of facts (streaks ++ s ∷ []) ≡ before ++ turn_of s.common (s.turn + s.more) records ∷ [])
  last_entry facts [] s =
      let last = last_turn s.common s.turn s.more (take s.records facts) in
      (last.0, last.1, append-nil (turn_of s.common s.turn (take s.records facts) ∷ turns_from s.common (s.turn + 1) s.more) ∙ last.2)
  last_entry facts (q ∷ streaks) s =
      let rest = last_entry (drop q.records facts) streaks s in
      let turns : List (Entry R) = turn_of q.common q.turn (take q.records facts) ∷ turns_from q.common (q.turn + 1) q.more in
      (turns ++ rest.0, rest.1, ap (λ log. turns ++ log) rest.2 ∙ sym (append_assoc turns rest.0 (turn_of s.common (s.turn + s.more) rest.1 ∷ [])))

  -- where there is an entry, there is a last streak
  pub some_last : (facts : List R) (streaks : List Streak) (before : List (Entry R)) (last : Entry R) → log_of facts streaks ≡ before ++ last ∷ [] → (first : List Streak) × (s : Streak) × (streaks ≡ first ++ s ∷ [])
  some_last facts [] before last is = absurd (omega (arith, ap length is, length_push before last))
  some_last facts (q ∷ streaks) before last is = split q streaks
    where
      split : (x : Streak) (xs : List Streak) → (first : List Streak) × (s : Streak) × (x ∷ xs ≡ first ++ s ∷ [])
      split x [] = ([], x, refl)
      split x (y ∷ ys) = (let rest = split y ys in (x ∷ rest.0, rest.1, ap (λ zs. x ∷ zs) rest.2))

  -- a log whose last streak goes on
  pub log_longer_last : (facts : List R) (streaks : List Streak) (s : Streak) (before : List (Entry R)) (last : Entry R) → log_of facts (streaks ++ s ∷ []) ≡ before ++ last ∷ [] →
      log_of facts (streaks ++ longer s ∷ []) ≡ log_of facts (streaks ++ s ∷ []) ++ next_of last ∷ []
  log_longer_last facts streaks s before last is =
      let entry = last_entry facts streaks s in
      let same : turn_of s.common (s.turn + s.more) entry.1 ≡ last = last_same entry.0 before (turn_of s.common (s.turn + s.more) entry.1) last (sym entry.2 ∙ is) in
      log_longer facts streaks s ∙ ap (λ e. log_of facts (streaks ++ s ∷ []) ++ next_of e ∷ []) same

  -- one turn more, which found these records
  pub found_joined : (facts new : List R) (old : List Streak) (s : Streak) (now : List Streak) → Found facts old → s.records ≡ length new → (s.common.dropped ≡ true → s.records ≡ 0) → Joins old s now → Found (facts ++ new) now
  found_joined facts new old s now found size none (inl pushed) = subst (Found (facts ++ new)) (sym pushed) (found_pushed facts new old s found size none)
  found_joined facts new old s now found size none (inr h) =
      let nothing : facts ++ new ≡ facts = ap (λ fs. facts ++ fs) (nil_of new (sym size ∙ h.3.nothing)) ∙ append-nil facts in
      subst (λ fs. Found fs now) (sym nothing) (subst (Found facts) (sym h.4) (found_longer facts h.0 h.1 (subst (Found facts) h.2 found)))

  pub log_joined : (facts new : List R) (old : List Streak) (s : Streak) (now : List Streak) → Found facts old → s.records ≡ length new → s.more ≡ 0 → Joins old s now →
      log_of (facts ++ new) now ≡ log_of facts old ++ turn_of s.common s.turn new ∷ []
  log_joined facts new old s now found size one (inl pushed) = ap (log_of (facts ++ new)) pushed ∙ log_pushed facts new old s found size one
  log_joined facts new old s now found size one (inr h) =
      let none = nil_of new (sym size ∙ h.3.nothing) in
      let nothing : facts ++ new ≡ facts = ap (λ fs. facts ++ fs) none ∙ append-nil facts in
      ap (λ fs. log_of fs now) nothing
      ∙ ap (log_of facts) h.4
      ∙ log_longer facts h.0 h.1
      ∙ ap (λ streaks. log_of facts streaks ++ turn_of h.1.common (h.1.turn + h.1.more + 1) [] ∷ []) (sym h.2)
      ∙ ap (λ common. log_of facts old ++ turn_of common (h.1.turn + h.1.more + 1) [] ∷ []) (sym h.3.alike)
      ∙ ap (λ turn. log_of facts old ++ turn_of s.common turn [] ∷ []) h.3.next
      ∙ ap (λ records. log_of facts old ++ turn_of s.common s.turn records ∷ []) (sym none)

-- a part of what holds of each
all_left : {X : Type 0} (P : X → Type 0) (xs : List X) (x : X) → AllByRecursion P (xs ++ x ∷ []) → AllByRecursion P xs
all_left P [] x h = tt
all_left P (y ∷ xs) x h = (h.0, all_left P xs x h.1)

-- numbers stay within 64 bits
pub numbered_longer : (before : List Streak) (s : Streak) → AllByRecursion IsNumbered (before ++ s ∷ []) → s.turn + s.more + 1 < 2 ^ 64 → AllByRecursion IsNumbered (before ++ longer s ∷ [])
numbered_longer before s numbered next = all_push IsNumbered before (longer s) (all_left IsNumbered before s numbered) (omega (arith, next))

pub numbered_joined : (old : List Streak) (s : Streak) (now : List Streak) → AllByRecursion IsNumbered old → IsNumbered s → s.more ≡ 0 → Joins old s now → AllByRecursion IsNumbered now
numbered_joined old s now numbered small one (inl pushed) =
    subst (AllByRecursion IsNumbered) (sym pushed) (all_push IsNumbered old s numbered small)
numbered_joined old s now numbered small one (inr h) =
    let before = all_left IsNumbered h.0 h.1 (subst (AllByRecursion IsNumbered) h.2 numbered) in
    subst (AllByRecursion IsNumbered) (sym h.4) (all_push IsNumbered h.0 (longer h.1) before (omega (arith, small, one, h.3.next)))
