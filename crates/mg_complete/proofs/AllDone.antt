-- A search of which each overlap and inclusion is done gets no rule more, and no unit more is spent.
use Rattle.std.proofs.Common.{◌≡◌, ◌⊎◌, ℕ, zero, suc, ◌+◌, ◌<◌, ◌≤◌, ℤ, List, [], ◌∷◌, ◌++◌, length, take, refl, sym, ap, subst, ◌∙◌, inl, inr, arith}
use Rattle.std.specs.Prelude.{None, Some, slice_get, neg_ℤ, true, Contains}
use Rattle.std.specs.List.{AllByRecursion}
use Rattle.std.proofs.lemmas.List.{append-nil, length-append, take_at}
use Rattle.std.proofs.lemmas.Option.{slice_get_within}
use Rattle.std.proofs.lemmas.List.Elements.{All-from_recursion, All-contains, Contains-push, Contains-append_left, Contains-append_right, Contains-append_cases}
use Rattle.mg_turn.specs.declared.outcome.Outcome.{Outcome}
use Rattle.mg_turn.specs.declared.outcome.TurnEnd.{TurnEnd}
use Rattle.mg_turn.specs.declared.outcome.TurnEnd.TheVariants.{More, Found, Closed, Idle, Stopped, Full}
use Rattle.std.specs.declared.cmp.Ordering.TheVariants.{Less, Greater}
use Rattle.std.specs.Ordering.{ordering_reverse}
use Rattle.mg_words.specs.Orders.{letters_cmp, letters_total}
use Rattle.mg_present.specs.Presentation.{Group}
use Rattle.mg_rules.specs.declared.meeting.Meeting.{Meeting}
use Rattle.mg_rules.specs.Rule.{Rule, Descends, HaveCommon, IsNormal, Leads}
use Rattle.mg_rules.specs.Shortlex.{IsSmaller, Decreases, AllDecrease}
use Rattle.mg_rules.specs.First.{IsFirstDescendant}
use Rattle.mg_rules.specs.Meeting.{Meets, AllJoin}
use Rattle.mg_rules.specs.Listing.{ComesBefore, IsInOrder}
use Rattle.mg_rulelog.specs.declared.moves.Move.{Move}
use Rattle.mg_rulelog.specs.Rule.{relator_numbered}
use Rattle.mg_certs.specs.Claim.{Fact}
use Rattle.mg_complete.specs.Equations.{Equation, IsEquation, pair, relator, meeting, turned, Gives, IsGiven}
use Rattle.mg_complete.specs.Completion.{Completion, AllGiven, AllDone, Done, Vanish, IsKept}
use Rattle.mg_complete.specs.Turn.{CompletionEnd, CompletionTurn, Ends}
use Rattle.mg_complete.proofs.Growing.{none_before_itself, before_on, meets_from}
use Rattle.mg_complete.proofs.Showing.{told_descends, all_from_places, some_at}
use Rattle.mg_complete.proofs.Refuting.{joins_at}

-- ---- what is known of rules that decrease

-- In a system that decreases and whose overlaps and inclusions have common descendants normal descendants are equal, and
-- there is one of each word.
pub record Newman (rules : List Rule) : Type 0 where
  pub equal : (w u v : List ℤ) → Descends rules w u → Descends rules w v → IsNormal rules u → IsNormal rules v → u ≡ v
  pub some : (w : List ℤ) → (v : List ℤ) × Descends rules w v × IsNormal rules v

descends_on : (rules : List Rule) (u v w : List ℤ) → Descends rules u v → Descends rules v w → Descends rules u w
descends_on rules u v w h k = from u h.0 h.1
  where
    from : (u : List ℤ) (words : List (List ℤ)) → Leads rules u words v → Descends rules u w
    from u [] e = subst (λ (t : List ℤ). Descends rules t w) (sym e) k
    from u (x ∷ words) l = let rest = from x words l.1 in (x ∷ rest.0, (l.0, rest.1))

-- words with a common descendant have equal normal descendants
pub equal_ends : (rules : List Rule) → Newman rules → (u v u' v' : List ℤ) → HaveCommon rules u v → Descends rules u u' → Descends rules v v' → IsNormal rules u' → IsNormal rules v' → u' ≡ v'
equal_ends rules newman u v u' v' common h k normal normal' =
    let end = newman.some common.0 in
    newman.equal u u' end.0 h (descends_on rules u common.0 end.0 common.1 end.1) normal end.2
    ∙ newman.equal v end.0 v' (descends_on rules v common.0 end.0 common.2 end.1) k end.2 normal'

-- ---- no equation gives a rule

not_smaller : (u : List ℤ) → IsSmaller u u → ⊥
not_smaller u (inl h) = omega arith
not_smaller u (inr h) =
    let turned_round : letters_cmp u u ≡ ordering_reverse Less = letters_total.antisymm u u ∙ ap ordering_reverse h.1 in
    let never : Less ≡ Greater = sym h.1 ∙ turned_round in cc

no_rule : (rules : List Rule) (e : Equation) (rule : Rule) (moves : List Move) → Newman rules → HaveCommon rules e.one e.other → Gives rules e rule moves → ⊥
no_rule rules e rule moves newman common g =
    let same : rule.left ≡ rule.right = equal_ends rules newman e.one e.other rule.left rule.right common (told_descends rules e.one rule.left g.from_one g.left)
    (told_descends rules e.other rule.right g.from_other g.right) g.left_normal g.right_normal in
    not_smaller rule.right (subst (IsSmaller rule.right) same g.decreases)

relator_vanishes : (rules : List Rule) (relators : List (List ℤ)) (number : ℕ) (word : List ℤ) → AllByRecursion (λ (relator : List ℤ). Descends rules relator []) relators
    → relator_numbered relators number ≡ Some word → Descends rules word []
relator_vanishes rules relators zero word all e = absurd (let never : None ≡ Some word = e in cc)
relator_vanishes rules relators (suc n) word all e = at relators n all e
  where
    at : (words : List (List ℤ)) (n : ℕ) → AllByRecursion (λ (relator : List ℤ). Descends rules relator []) words → slice_get words n ≡ Some word → Descends rules word []
    at [] n all e = absurd (let never : None ≡ Some word = e in cc)
    at (w ∷ words) zero all e = let same : w ≡ word = cc in subst (λ (t : List ℤ). Descends rules t []) same all.0
    at (w ∷ words) (suc n) all e = at words n all.1 e

-- the words of each equation have a common descendant
equation_joins : (group : Group) (rules : List Rule) (last : Meeting) (count : ℕ) → Done rules last count → AllDone rules last → Vanish group rules → (e : Equation) → IsEquation group rules e
    → HaveCommon rules e.one e.other
equation_joins group rules last count d all vanish e (pair x letter is) =
    subst (λ (t : Equation). HaveCommon rules t.one t.other) (sym is) ([], vanish.pairs x letter, ([], refl))
equation_joins group rules last count d all vanish e (relator number word there is) =
    subst (λ (t : Equation). HaveCommon rules t.one t.other) (sym is) ([], relator_vanishes rules group.relators number word vanish.relators there, ([], refl))
equation_joins group rules last count d all vanish e (meeting m u v r is) =
    subst (λ (t : Equation). HaveCommon rules t.one t.other) (sym is) (joins_at rules last count d all m u v (meets_from rules m u v r) r)

none_given : (group : Group) (rules : List Rule) (last : Meeting) (count : ℕ) → Newman rules → Done rules last count → AllDone rules last → Vanish group rules → (rule : Rule) (moves : List Move)
    → IsGiven group rules rule moves → ⊥
none_given group rules last count newman d all vanish rule moves given =
    let common = equation_joins group rules last count d all vanish given.equation given.is in
    elim given.gives [
      | inl g ↦ no_rule rules given.equation rule moves newman common g
      | inr g ↦ no_rule rules (turned given.equation) rule moves newman (common.0, common.2, common.1) g
    ]

-- ---- no rule is added

-- the rule behind the others
at_behind : {X : Type 0} (xs : List X) (x : X) (more : List X) → slice_get (xs ++ x ∷ more) (length xs) ≡ Some x
at_behind [] x more = refl
at_behind (y ∷ xs) x more = at_behind xs x more

none_added : (s after : Completion) → Newman s.rules → IsKept s → IsKept after → Vanish s.ask.group s.rules → AllDone s.rules s.last → after.ask ≡ s.ask
    → (added : List Rule) → after.rules ≡ s.rules ++ added → after.rules ≡ s.rules
none_added s after newman kept still vanish all ask [] is = is ∙ append-nil s.rules
none_added s after newman kept still vanish all ask (rule ∷ more) is = absurd (none_given s.ask.group s.rules s.last s.spent newman kept.done all vanish rule why.0 given)
  where
    there : slice_get after.rules (length s.rules) ≡ Some rule
    there = subst (λ (t : List Rule). slice_get t (length s.rules) ≡ Some rule) (sym is) (at_behind s.rules rule more)

    why : (moves : List Move) × (slice_get after.reasons (length s.rules) ≡ Some moves)
    why = let within = slice_get_within after.rules (length s.rules) rule there in let paired = still.paired in some_at after.reasons (length s.rules) (omega (arith, within, paired))

    given : IsGiven s.ask.group s.rules rule why.0
    given =
        subst (λ (g : Group). IsGiven g s.rules rule why.0) (ap (λ a. a.group) ask)
        (subst (λ (t : List Rule). IsGiven after.ask.group t rule why.0) (ap (take (length s.rules)) is ∙ take_at s.rules (rule ∷ more) (length s.rules) refl)
        (still.given (length s.rules) rule why.0 there why.1))

-- ---- no unit is spent

in_head : {X : Type 0} (x : X) (xs : List X) → Contains (x ∷ xs) x
in_head x xs = Contains-append_left (x ∷ []) xs x (Contains-push [] x)

in_tail : {X : Type 0} (x : X) (xs : List X) (y : X) → Contains xs y → Contains (x ∷ xs) y
in_tail x xs y h = Contains-append_right (x ∷ []) xs y h

in_cases : {X : Type 0} (x : X) (xs : List X) (y : X) → Contains (x ∷ xs) y → (x ≡ y) ⊎ Contains xs y
in_cases x xs y (zero, within, is) = inl is
in_cases x xs y (suc k, within, is) = inr (k, omega (arith, within), is)

before_each : (m : Meeting) (list : List Meeting) → AllByRecursion (ComesBefore m) list → (other : Meeting) → Contains list other → ComesBefore m other
before_each m list all other there = All-contains (ComesBefore m) list other (All-from_recursion (ComesBefore m) list all) there

-- of two lists in order, the one whose members are among those of the other is no longer
pub fewer : (short list : List Meeting) → IsInOrder short → IsInOrder list → ((m : Meeting) → Contains short m → Contains list m) → length short ≤ length list
fewer [] list h k among = omega arith
fewer (m ∷ short) [] h k among = absurd (let at = among m (in_head m short) in let less = at.1 in omega (arith, less))
fewer (m ∷ short) (n ∷ list) h k among =
    elim (in_cases n list m (among m (in_head m short))) as (λ _. length (m ∷ short) ≤ length (n ∷ list)) [
      | inl same ↦ let rest = fewer short list h.1 k.1 (λ x there. elim (in_cases n list x (among x (in_tail m short x there))) as (λ _. Contains list x) [
        | inl is ↦ absurd (none_before_itself x (subst (λ (t : Meeting). ComesBefore t x) (sym same ∙ is) (before_each m short h.0 x there)))
        | inr in_list ↦ in_list
      ]) in omega (arith, rest)
      | inr behind ↦ let rest = fewer (m ∷ short) list h k.1 (λ x there. elim (in_cases n list x (among x there)) as (λ _. Contains list x) [
        | inl is ↦ elim (in_cases m short x there) as (λ _. Contains list x) [
          | inl first ↦ subst (Contains list) first behind
          | inr later ↦ absurd (none_before_itself m (before_on m x m (before_each m short h.0 x later) (subst (λ (t : Meeting). ComesBefore t m) is (before_each n list k.0 m behind))))
        ]
        | inr in_list ↦ in_list
      ]) in omega (arith, rest)
    ]

none_spent : (s after : Completion) (spent : ℕ) → AllDone s.rules s.last → Done s.rules s.last s.spent → Done after.rules after.last after.spent → after.rules ≡ s.rules → after.spent ≡ s.spent + spent
    → spent ≡ 0
none_spent s after spent all d e rules is =
    let few = fewer e.list d.list e.ordered d.ordered (λ m there. let meets = subst (λ (t : List Rule). Meets t m) rules (e.only m there).0 in d.each m meets (all m meets)) in
    omega (arith, few, d.many, e.many, is)

-- ---- how the turn ends

given_decreases : (group : Group) (rules : List Rule) (rule : Rule) (moves : List Move) → IsGiven group rules rule moves → Decreases rule
given_decreases group rules rule moves given = elim given.gives as (λ _. Decreases rule) [ inl g ↦ g.decreases | inr g ↦ g.decreases ]

-- the rules of a search decrease
pub kept_decrease : (s : Completion) → IsKept s → AllDecrease s.rules
kept_decrease s kept =
    all_from_places Decreases s.rules (λ place rule e.
    let within = slice_get_within s.rules place rule e in
    let paired = kept.paired in
    let why = some_at s.reasons place (omega (arith, within, paired)) in given_decreases s.ask.group (take place s.rules) rule why.0 (kept.given place rule why.0 e why.1))

end_by : (s after : Completion) (units spent : ℕ) (end : TurnEnd Fact) → CompletionEnd s after units spent end → (spent ≡ units → ⊥) → Ends end
end_by s after units spent More h not = not h.0
end_by s after units spent (Found records) h not = tt
end_by s after units spent (Closed records) h not = h
end_by s after units spent Idle h not = h
end_by s after units spent (Stopped seen) h not = tt
end_by s after units spent (Full what count) h not = tt

pub ends_so : (s after : Completion) (units : ℕ) (outcome : Outcome Fact) → Newman s.rules → IsKept s → s.begun ≡ true → AllDone s.rules s.last → 1 ≤ units → CompletionTurn s units outcome after
    → Ends outcome.end
ends_so s after units outcome newman kept begun all some turn =
    end_by s after units outcome.spent outcome.end turn.end (λ spent_all. let none = no_unit in omega (arith, none, spent_all, some))
  where
    same_rules : after.rules ≡ s.rules
    same_rules = none_added s after newman kept turn.kept (kept.begun begun) all turn.ask turn.added turn.rules

    no_unit : outcome.spent ≡ 0
    no_unit = none_spent s after outcome.spent all kept.done turn.kept.done same_rules turn.spent
