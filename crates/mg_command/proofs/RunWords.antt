-- Clap takes exactly the words that are options of `run` with values, each at most once, and reads these.
use Rattle.std.proofs.Common.{◌≡◌, ℕ, Bool, true, false, List, [], ◌∷◌, ◌++◌, Some, None, refl, sym, ap, subst, ◌∙◌, codes, ◌||◌}
use Rattle.std.specs.List.{fold}
use Rattle.std.specs.Str.{bytes_eq}
use Rattle.clap.specs.Walk.{Row, Walk, Text, first_of, settled_rows, walked, with_default, nothing_held}
use Rattle.clap.specs.Simple.{built, matches_of}
use Rattle.clap.specs.Faults.{fault_of, settle_fault, turn_fault, walk_fault}
use Rattle.clap.proofs.FaultLemmas.{leaf_fault}
use Rattle.mg_command.specs.declared.command.PolicyName.{PolicyName}
use Rattle.mg_command.specs.Words.{Setting, Workers, Policy, Begins, AreSettings, ComeTo, SaysRun}
use Rattle.mg_command.specs.Words as spec
use Rattle.mg_command.specs.Reading.{run_app, has_dashes, IsWorkers, IsPolicy}
use Rattle.mg_command.proofs.Turns.{first_none, second_none}
use Rattle.mg_command.proofs.RunWalk.{S, Opt, workers, policy, name_of, Kept, none, one, first_workers, first_policy, rows, add, Phase, ready, waits, has, at, Settles, settles, joined, apart, value_of, turn}

-- the words begin with the option and its value, and the rest stands behind
pub data Gives (words : List Text) (o : Opt) (v : Text) (rest : List Text) : Type 0 where
  behind : words ≡ (45 ∷ 45 ∷ name_of o) ∷ v ∷ rest → Gives words o v rest
  within : words ≡ (45 ∷ 45 ∷ (name_of o ++ 61 ∷ v)) ∷ rest → Gives words o v rest

-- from what is kept the words lead to this
abbrev Reads : Kept → List (Opt × Text) → List Text → Kept → Type 0
Reads k [] words m = (words ≡ []) × (k ≡ m)
Reads k (given ∷ more) words m = (rest : List Text) × Gives words given.0 given.1 rest × (n : Kept) × (add k given.0 given.1 ≡ Some n) × Reads n more rest m

abbrev SomeRead : Kept → List Text → Kept → Type 0
SomeRead k words m = (given : List (Opt × Text)) × Reads k given words m

abbrev After : Kept → Phase → List Text → Kept → Type 0
After k ready words m = SomeRead k words m
After k (has o v) words m = (n : Kept) × (add k o v ≡ Some n) × SomeRead n words m
After k (waits o) words m = (v : Text) × (rest : List Text) × (words ≡ v ∷ rest) × (n : Kept) × (add k o v ≡ Some n) × SomeRead n rest m

settled_after : (k : Kept) (ph : Phase) (n m : Kept) (words : List Text) → Settles k ph n → SomeRead n words m → After k ph words m
settled_after k ready n m words same read = subst (λ (x : Kept). SomeRead x words m) (sym same) read
settled_after k (has o v) n m words same read = (n, same, read)
settled_after k (waits o) n m words same read = absurd same

abbrev Ends : Walk → List Text → Kept → Type 0
Ends w words m = settled_rows S.rules (fold (walked S.rules []) w words).held.pending (fold (walked S.rules []) w words).held.rows ≡ rows m

-- the walk over the words from here finds no fault
abbrev Passes : Walk → List Text → Type 0
Passes w words = (walk_fault S [] w words ≡ []) × (settle_fault S.rules false (fold (walked S.rules []) w words).held ≡ [])

abbrev Walked : Walk → Kept → Phase → List Text → Type 0
Walked w k ph words = (m : Kept) × Ends w words m × After k ph words m

moved : (v w : Walk) (k : Kept) (ph : Phase) (words : List Text) → v ≡ w → Walked w k ph words → Walked v k ph words
moved v w k ph words same h = (h.0, subst (λ (x : Walk). Ends x words h.0) (sym same) h.1, h.2)

read_joined : (m n end : Kept) (o : Opt) (v word : Text) (words : List Text) → word ≡ 45 ∷ 45 ∷ (name_of o ++ 61 ∷ v) → add m o v ≡ Some n → SomeRead n words end → SomeRead m (word ∷ words) end
read_joined m n end o v word words is added read = ((o, v) ∷ read.0, (words, within (ap (λ (t : Text). t ∷ words) is), n, added, read.1))

read_apart : (m end : Kept) (o : Opt) (word : Text) (words : List Text) → word ≡ 45 ∷ 45 ∷ name_of o → After m (waits o) words end → SomeRead m (word ∷ words) end
read_apart m end o word words is (v, rest, are, n, added, read) = ((o, v) ∷ read.0, (rest, behind (ap (λ (t : Text). t ∷ words) is ∙ ap (λ (ts : List Text). (45 ∷ 45 ∷ name_of o) ∷ ts) are), n, added, read.1))

pub no_dash : (word : Text) (words : List Text) → has_dashes (word ∷ words) ≡ false → (bytes_eq word (codes "--") ≡ false) × (has_dashes words ≡ false)
no_dash word words e = go (bytes_eq word (codes "--")) (has_dashes words) refl refl e
  where
    go : (b c : Bool) → bytes_eq word (codes "--") ≡ b → has_dashes words ≡ c → (b || c) ≡ false → (bytes_eq word (codes "--") ≡ false) × (has_dashes words ≡ false)
    go true c f g e = absurd (cc e)
    go false c f g e = (f, g ∙ e)

walks : (words : List Text) (k : Kept) (ph : Phase) → has_dashes words ≡ false → Passes (at k ph) words → Walked (at k ph) k ph words
unfolding walk_fault
walks [] k ph plain passes =
    let s = settles k ph passes.1 in
    (s.0, s.2, settled_after k ph s.0 s.0 [] s.1 ([], (refl, refl)))
walks (word ∷ words) k ph plain passes = elim (turn k ph word (no_dash word words plain).0 (first_none _ _ passes.0)) [
  | joined m n o v is st added step ↦ (
      let more = walks words n ready (no_dash word words plain).1 (subst (λ (w : Walk). Passes w words) step (second_none (turn_fault S [] (at k ph) word) _ passes.0, passes.1)) in
      (more.0, subst (λ (w : Walk). Ends w words more.0) (sym step) more.1, settled_after k ph m more.0 (word ∷ words) st (read_joined m n more.0 o v word words is added more.2)))
  | apart m o is st step ↦ (
      let more = walks words m (waits o) (no_dash word words plain).1 (subst (λ (w : Walk). Passes w words) step (second_none (turn_fault S [] (at k ph) word) _ passes.0, passes.1)) in
      (more.0, subst (λ (w : Walk). Ends w words more.0) (sym step) more.1, settled_after k ph m more.0 (word ∷ words) st (read_apart m more.0 o word words is more.2)))
  | value_of o is step ↦ (
      let more = walks words k (has o word) (no_dash word words plain).1 (subst (λ (w : Walk). Passes w words) step (second_none (turn_fault S [] (at k ph) word) _ passes.0, passes.1)) in
      (more.0, subst (λ (w : Walk). Ends w words more.0) (sym step) more.1, subst (λ (p : Phase). After k p (word ∷ words) more.0) (sym is) (word, words, refl, more.2.0, more.2.1, more.2.2)))
]

pub finish : (m : Kept) → fold with_default (rows m) S.rules ≡ rows m
finish none = refl
finish (one workers v) = refl
finish (one policy v) = refl
finish (first_workers v u) = refl
finish (first_policy u v) = refl

-- where clap takes the words they are read so, and these are its matches
abbrev Taken : List Text → Type 0
Taken words = (m : Kept) × SomeRead none words m × (matches_of run_app words ≡ rows m)

taken : (words : List Text) → has_dashes words ≡ false → fault_of run_app words ≡ [] → Taken words
taken words plain passed =
    let level = sym (leaf_fault (built run_app) nothing_held words refl) ∙ passed in
    let more = walks words none ready plain (first_none _ _ level, first_none _ _ (second_none (walk_fault S [] (at none ready) words) _ level)) in
    (more.0, more.2, ap (λ (rs : List Row). fold with_default rs S.rules) more.1 ∙ finish more.0)

-- ---- the values

begins_workers : (words rest : List Text) (v : Text) (n : ℕ) → Gives words workers v rest → spec.IsNumberOf 10 1 64 v n → Begins words (Workers n) rest
begins_workers words rest v n (behind e) is = spec.apart v is e
begins_workers words rest v n (within e) is = spec.joined v is e

begins_policy : (words rest : List Text) (v : Text) (p : PolicyName) → Gives words policy v rest → v ≡ spec.policy_text p → Begins words (Policy p) rest
begins_policy words rest v p (behind e) is = spec.apart v is e
begins_policy words rest v p (within e) is = spec.joined v is e

abbrev Valued : Kept → ℕ → PolicyName → Type 0
Valued m n p = IsWorkers (first_of (codes "workers") (rows m)) n × IsPolicy (first_of (codes "policy") (rows m)) p

same_kept : (k m : Kept) → Some k ≡ Some m → k ≡ m
same_kept k m e = cc e

-- nothing is read behind two
nothing_more : (k m : Kept) (words : List Text) → ((o : Opt) (v : Text) → add k o v ≡ None) → SomeRead k words m → (words ≡ []) × (k ≡ m)
nothing_more k m words full ([], read) = read
nothing_more k m words full (given ∷ more, read) = let bad : None ≡ Some read.2 = sym (full given.0 given.1) ∙ read.3 in absurd (cc bad)

full_workers : (v u : Text) (o : Opt) (t : Text) → add (first_workers v u) o t ≡ None
full_workers v u workers t = refl
full_workers v u policy t = refl

full_policy : (v u : Text) (o : Opt) (t : Text) → add (first_policy v u) o t ≡ None
full_policy v u workers t = refl
full_policy v u policy t = refl

valued_as : (k m : Kept) (n : ℕ) (p : PolicyName) → k ≡ m → Valued m n p → Valued k n p
valued_as k m n p same h = subst (λ (x : Kept). Valued x n p) (sym same) h

-- the words behind a first setting
behind_workers : (words rest : List Text) (v : Text) (m : Kept) (n : ℕ) (p : PolicyName) → Gives words workers v rest → SomeRead (one workers v) rest m → Valued m n p → SaysRun words n p
behind_workers words rest v m n p first ([], read) h =
    let is = valued_as (one workers v) m n p read.1 h in
    (Workers n ∷ [], (rest, begins_workers words rest v n first is.0, read.0), (refl, is.1))
behind_workers words rest v m n p first ((workers, u) ∷ more, read) h = let bad = read.3 in absurd (cc bad)
behind_workers words rest v m n p first ((policy, u) ∷ more, read) h =
    let end = nothing_more (first_workers v u) m read.0 (full_workers v u) (more, subst (λ (x : Kept). Reads x more read.0 m) (sym (same_kept (first_workers v u) read.2 read.3)) read.4) in
    let is = valued_as (first_workers v u) m n p end.1 h in
    (Workers n ∷ Policy p ∷ [], (rest, begins_workers words rest v n first is.0, (read.0, begins_policy rest read.0 u p read.1 is.1, end.0)), (refl, refl))

behind_policy : (words rest : List Text) (u : Text) (m : Kept) (n : ℕ) (p : PolicyName) → Gives words policy u rest → SomeRead (one policy u) rest m → Valued m n p → SaysRun words n p
behind_policy words rest u m n p first ([], read) h =
    let is = valued_as (one policy u) m n p read.1 h in
    (Policy p ∷ [], (rest, begins_policy words rest u p first is.1, read.0), (is.0, refl))
behind_policy words rest u m n p first ((policy, v) ∷ more, read) h = let bad = read.3 in absurd (cc bad)
behind_policy words rest u m n p first ((workers, v) ∷ more, read) h =
    let end = nothing_more (first_policy u v) m read.0 (full_policy u v) (more, subst (λ (x : Kept). Reads x more read.0 m) (sym (same_kept (first_policy u v) read.2 read.3)) read.4) in
    let is = valued_as (first_policy u v) m n p end.1 h in
    (Policy p ∷ Workers n ∷ [], (rest, begins_policy words rest u p first is.1, (read.0, begins_workers rest read.0 v n read.1 is.0, end.0)), (refl, refl))

says : (words : List Text) (m : Kept) (n : ℕ) (p : PolicyName) → SomeRead none words m → Valued m n p → SaysRun words n p
says words m n p ([], read) h = ([], read.0, valued_as none m n p read.1 h)
says words m n p ((workers, v) ∷ more, read) h =
    behind_workers words read.0 v m n p read.1 (more, subst (λ (x : Kept). Reads x more read.0 m) (sym (same_kept (one workers v) read.2 read.3)) read.4) h
says words m n p ((policy, v) ∷ more, read) h =
    behind_policy words read.0 v m n p read.1 (more, subst (λ (x : Kept). Reads x more read.0 m) (sym (same_kept (one policy v) read.2 read.3)) read.4) h

-- what clap takes says a run, where its values are some
pub run_read : (words : List Text) (n : ℕ) (p : PolicyName) → has_dashes words ≡ false → fault_of run_app words ≡ [] → IsWorkers (first_of (codes "workers") (matches_of run_app words)) n → IsPolicy (first_of (codes "policy") (matches_of run_app words)) p → SaysRun words n p
run_read words n p plain passed is_workers is_policy =
    let t = taken words plain passed in
    says words t.0 n p t.1 (subst (λ (rs : List Row). IsWorkers (first_of (codes "workers") rs) n) t.2 is_workers, subst (λ (rs : List Row). IsPolicy (first_of (codes "policy") rs) p) t.2 is_policy)
