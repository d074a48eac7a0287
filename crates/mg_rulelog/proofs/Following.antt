-- Rules that follow from the rules before them, and goals that are rewritten, one after another.
use Rattle.std.proofs.Common.{◌≡◌, ◌↔◌, inl, inr, IsTrue, ℕ, suc, ◌+◌, ◌<◌, ◌≤◌, Bool, ℤ, List, [], ◌∷◌, length, take, drop, get_or, drop-cons, add-one, refl, sym, ap, subst, ◌∙◌, arith}
use Rattle.std.specs.Prelude.{Some, slice_get}
use Rattle.std.proofs.lemmas.Bool.{cases_eq}
use Rattle.std.proofs.lemmas.List.{drop_all}
use Rattle.std.proofs.lemmas.Option.{slice_get_within, get_or_from_slice_get}
use Rattle.mg_present.specs.Presentation.{Group}
use Rattle.mg_present.specs.Ask.{Inquiry}
use Rattle.mg_rulelog.specs.declared.moves.Move.{Move}
use Rattle.mg_rulelog.specs.declared.log.RuleLog.{RuleLog}
use Rattle.mg_rulelog.specs.Rule.{Sides, Logged, all_sides}
use Rattle.mg_rulelog.specs.Acceptance.{Follows, AllFollow, Erases, AllErase, IsAccepted}

-- the rules before a place follow from the rules before them
abbrev pub FollowBelow : Group → List Logged → ℕ → Type 0
FollowBelow group rules n =
    (place : ℕ) (rule : Logged) → place < n → slice_get rules place ≡ Some rule → Follows group (all_sides (take place rules)) rule

pub below_none : (group : Group) (rules : List Logged) → FollowBelow group rules 0
below_none group rules place rule below e = absurd (omega (arith, below))

pub below_next : (group : Group) (rules : List Logged) (n : ℕ) (rule : Logged) → FollowBelow group rules n → slice_get rules n ≡ Some rule → Follows group (all_sides (take n rules)) rule → FollowBelow group rules (n + 1)
below_next group rules n rule before at follows place other below e =
    elim (cases_eq place n) as (λ _. Follows group (all_sides (take place rules)) other) [
      | inr differ ↦ before place other (omega (arith, below, differ)) e
      | inl same ↦
          let there : slice_get rules n ≡ Some other = subst (λ k. slice_get rules k ≡ Some other) same e in
          let one : rule ≡ other = sym (get_or_from_slice_get rules n rule other at) ∙ get_or_from_slice_get rules n other other there in
          subst (λ k. Follows group (all_sides (take k rules)) other) (sym same) (subst (λ r. Follows group (all_sides (take n rules)) r) one follows)
    ]

pub below_all : (group : Group) (rules : List Logged) (n : ℕ) → length rules ≤ n → FollowBelow group rules n → AllFollow group rules
below_all group rules n past below place rule e =
    below place rule (let within : place < length rules = slice_get_within rules place rule e in omega (arith, within, past)) e

-- as many lists as goals
pub erase_as_many : (group : Group) (rules : List Sides) (lists : List (List Move)) (goals : List (List ℤ)) → AllErase group rules lists goals → length lists ≡ length goals
erase_as_many group rules [] [] h = refl
erase_as_many group rules (moves ∷ lists) (goal ∷ goals) h = ap suc (erase_as_many group rules lists goals h.1)
erase_as_many group rules [] (goal ∷ goals) h = absurd h
erase_as_many group rules (moves ∷ lists) [] h = absurd h

-- the lists that are left rewrite the goals that are left exactly where all lists rewrite all goals
abbrev pub EraseStill : Group → List Sides → List (List Move) → List (List ℤ) → ℕ → Type 0
EraseStill group rules lists goals i = AllErase group rules (drop i lists) (drop i goals) ↔ AllErase group rules lists goals

split_at : (group : Group) (rules : List Sides) (lists : List (List Move)) (goals : List (List ℤ)) (i : ℕ) (moves : List Move) (goal : List ℤ) → i < length lists → i < length goals → moves ≡ get_or lists i moves → goal ≡ get_or goals i goal
    → AllErase group rules (drop i lists) (drop i goals) ↔ (Erases group rules moves goal × AllErase group rules (drop (i + 1) lists) (drop (i + 1) goals))
split_at group rules lists goals i moves goal l k e f =
    let m : drop i lists ≡ moves ∷ drop (i + 1) lists = rw add-one (drop-cons lists i moves l ∙ ap (λ z. z ∷ drop (suc i) lists) (sym e)) in
    let g : drop i goals ≡ goal ∷ drop (i + 1) goals = rw add-one (drop-cons goals i goal k ∙ ap (λ z. z ∷ drop (suc i) goals) (sym f)) in (
      λ h. subst (λ t. AllErase group rules (moves ∷ drop (i + 1) lists) t) g (subst (λ t. AllErase group rules t (drop i goals)) m h),
      λ h. subst (λ t. AllErase group rules t (drop i goals)) (sym m) (subst (λ t. AllErase group rules (moves ∷ drop (i + 1) lists) t) (sym g) h),
    )

pub erase_on : (group : Group) (rules : List Sides) (lists : List (List Move)) (goals : List (List ℤ)) (i : ℕ) (moves : List Move) (goal : List ℤ) → i < length lists → i < length goals → moves ≡ get_or lists i moves → goal ≡ get_or goals i goal
    → Erases group rules moves goal → EraseStill group rules lists goals i → EraseStill group rules lists goals (i + 1)
erase_on group rules lists goals i moves goal l k e f erases still =
    let split = split_at group rules lists goals i moves goal l k e f in
    (λ h. still.0 (split.1 (erases, h)), λ h. (split.0 (still.1 h)).1)

pub erase_stops : (group : Group) (rules : List Sides) (lists : List (List Move)) (goals : List (List ℤ)) (i : ℕ) (moves : List Move) (goal : List ℤ) → i < length lists → i < length goals → moves ≡ get_or lists i moves → goal ≡ get_or goals i goal
    → (Erases group rules moves goal → ⊥) → EraseStill group rules lists goals i → AllErase group rules lists goals → ⊥
erase_stops group rules lists goals i moves goal l k e f fails still h =
    fails ((split_at group rules lists goals i moves goal l k e f).0 (still.1 h)).0

pub erase_ends : (group : Group) (rules : List Sides) (lists : List (List Move)) (goals : List (List ℤ)) (i : ℕ) → length lists ≤ i → length goals ≤ i → EraseStill group rules lists goals i → AllErase group rules lists goals
erase_ends group rules lists goals i l k still =
    still.0 (subst (λ t. AllErase group rules t (drop i goals)) (sym (drop_all i lists l)) (subst (λ t. AllErase group rules [] t) (sym (drop_all i goals k)) tt))

-- acceptance, told of the parts of an Ask and of a log
pub follow_told : (group real : Group) (rules all : List Logged) (told : Bool) → group ≡ real → rules ≡ all → IsTrue told ↔ AllFollow group rules → IsTrue told ↔ AllFollow real all
follow_told group real rules all told e f h =
    subst (λ (t : List Logged). IsTrue told ↔ AllFollow real t) f (subst (λ (t : Group). IsTrue told ↔ AllFollow t rules) e h)

pub accept_told : (ask : Inquiry) (log : RuleLog) (group : Group) (rules : List Logged) (lists : List (List Move)) (goals : List (List ℤ)) (told : Bool) → group ≡ ask.group → rules ≡ log.rules → lists ≡ log.goals → goals ≡ ask.goals → AllFollow ask.group log.rules → IsTrue told ↔ AllErase group (all_sides rules) lists goals → IsTrue told ↔ IsAccepted ask log
accept_told ask log group rules lists goals told e f l g follow h =
    let first : IsTrue told ↔ AllErase ask.group (all_sides log.rules) lists goals =
    subst (λ (t : List Logged). IsTrue told ↔ AllErase ask.group (all_sides t) lists goals) f (subst (λ (t : Group). IsTrue told ↔ AllErase t (all_sides rules) lists goals) e h) in
    let all : IsTrue told ↔ AllErase ask.group (all_sides log.rules) log.goals ask.goals =
    subst (λ (t : List (List ℤ)). IsTrue told ↔ AllErase ask.group (all_sides log.rules) log.goals t) g (subst (λ (t : List (List Move)). IsTrue told ↔ AllErase ask.group (all_sides log.rules) t goals) l first) in
    (λ is. record { rules = follow; goals = all.0 is }, λ accepted. all.1 accepted.goals)
