-- Reasons show rules: the moves of a reason lead from the left side to the right side, so the log of the rules is accepted.
use Rattle.std.proofs.Common.{◌≡◌, ℕ, zero, suc, ◌<◌, ℤ, List, [], ◌∷◌, ◌++◌, length, take, refl, sym, ap, subst, ◌∙◌, inl, inr, append_assoc, arith}
use Rattle.std.specs.Prelude.{None, Some, slice_get}
use Rattle.std.specs.List.{AllByRecursion}
use Rattle.std.proofs.lemmas.Option.{slice_get_within}
use Rattle.std.proofs.lemmas.List.{append-nil}
use Rattle.std.proofs.Math.Seq.{take-nil}
use Rattle.mg_words.specs.Letter.{IsLetterOf}
use Rattle.mg_words.specs.Word.{IsOver}
use Rattle.mg_words.proofs.Chains.{IsOver-append, IsOver-left, IsOver-right, IsLetterOf-neg}
use Rattle.mg_present.specs.Presentation.{Group, IsPresented, IsRelator}
use Rattle.mg_rules.specs.declared.meeting.Meeting.{Meeting}
use Rattle.mg_rules.specs.declared.rewriter.Rewriting.{Rewriting}
use Rattle.mg_rules.specs.Rule.{Rule, rule_numbered, Descends}
use Rattle.mg_rules.specs.First.{RewritesAt}
use Rattle.mg_rules.specs.Reading.{LeadsBy}
use Rattle.mg_rules.specs.Meeting.{Results, OverlapGives, InclusionGives}
use Rattle.mg_rules.specs.Complete.{IsRuleOver}
use Rattle.mg_rulelog.specs.declared.moves.Move.{Move}
use Rattle.mg_rulelog.specs.declared.moves.Move.TheVariants.{By}
use Rattle.mg_rulelog.specs.Rule.{Sides, Logged, all_sides, sides_numbered, relator_numbered}
use Rattle.mg_rulelog.specs.Moves.{Takes, Leads, all_undone}
use Rattle.mg_rulelog.specs.Acceptance.{Follows, AllFollow}
use Rattle.mg_rulelog.proofs.Leading.{leads_append, leads_undone}
use Rattle.mg_complete.specs.Equations.{Equation, pair_equation, relator_equation, meeting_equation, IsEquation, pair, relator, meeting, turned, sides, by_each, Gives, IsGiven}
use Rattle.mg_complete.specs.Completion.{AllGiven}
use Rattle.mg_complete.specs.Publishing.{logged}

-- ---- rewritings

abbrev side : Rule → Sides
side rule = record { left = rule.left; right = rule.right }

pub told_descends : (rules : List Rule) (u v : List ℤ) (told : List Rewriting) → LeadsBy rules u told v → Descends rules u v
told_descends rules u v [] e = ([], e)
told_descends rules u v (one ∷ told) h =
    let rest = told_descends rules h.0 v told h.2 in (h.0 ∷ rest.0, (record { at = h.1.at; replaced = h.1.replaced }, rest.1))

side_at : (rules : List Rule) (n : ℕ) (rule : Rule) → slice_get rules n ≡ Some rule → slice_get (sides rules) n ≡ Some (side rule)
side_at [] n rule e = let never : None ≡ Some rule = e in cc
side_at (r ∷ rules) zero rule e = let same : r ≡ rule = cc in ap (λ (t : Rule). Some (side t)) same
side_at (r ∷ rules) (suc n) rule e = side_at rules n rule e

side_numbered : (rules : List Rule) (number : ℕ) (rule : Rule) → rule_numbered rules number ≡ Some rule → sides_numbered (sides rules) number ≡ Some (side rule)
side_numbered rules zero rule e = let never : None ≡ Some rule = e in cc
side_numbered rules (suc n) rule e = side_at rules n rule e

by_takes : (group : Group) (rules : List Rule) (number place : ℕ) (u v : List ℤ) → RewritesAt rules number place u v → Takes group (sides rules) (By number place) u v
by_takes group rules number place u v r = (
  side r.at.rule,
  subst (λ n. sides_numbered (sides rules) n ≡ Some (side r.at.rule)) r.by_rule (side_numbered rules r.at.number r.at.rule r.at.numbered),
  record { before = r.at.before; behind = r.at.behind; at = r.at_place; stands = r.at.stands; replaced = r.replaced },
)

pub told_leads : (group : Group) (rules : List Rule) (u v : List ℤ) (told : List Rewriting) → LeadsBy rules u told v → Leads group (sides rules) (by_each told) u v
told_leads group rules u v [] e = e
told_leads group rules u v (one ∷ told) h = (h.0, by_takes group rules one.rule one.place u h.0 h.1, told_leads group rules h.0 v told h.2)

-- ---- the moves of an equation

abbrev IsShown : Group → List Rule → Equation → Type 0
IsShown group rules e = Leads group (sides rules) e.moves e.one e.other

pair_shown : (group : Group) (rules : List Rule) (x : ℤ) → IsLetterOf group.generators x → IsShown group rules (pair_equation x)
pair_shown group rules x letter = ([], (letter, record { before = []; behind = []; at = refl; stands = refl; replaced = refl }), refl)

relator_shown : (group : Group) (rules : List Rule) (number : ℕ) (word : List ℤ) → relator_numbered group.relators number ≡ Some word → IsShown group rules (relator_equation number word)
relator_shown group rules number word e = ([], (word, e, record { before = []; behind = []; at = refl; stands = sym (append-nil word); replaced = refl }), refl)

overlap_shown : (group : Group) (rules : List Rule) (m : Meeting) (first second : Rule) (u v : List ℤ) → rule_numbered rules m.first ≡ Some first → rule_numbered rules m.second ≡ Some second
    → OverlapGives first second m.place u v → IsShown group rules (meeting_equation m u v)
overlap_shown group rules m first second u v e f g =
    let whole : first.left ++ g.at.c ≡ g.at.a ++ (second.left ++ []) =
    ap (λ t. t ++ g.at.c) g.at.left_first ∙ (append_assoc g.at.a g.at.b g.at.c ∙ ap (λ t. g.at.a ++ t) (sym g.at.left_second ∙ sym (append-nil second.left))) in (
      first.left ++ g.at.c,
      (side first, side_numbered rules m.first first e, record { before = []; behind = g.at.c; at = refl; stands = g.one; replaced = refl }),
      (
        v,
        (side second, side_numbered rules m.second second f, record { before = g.at.a; behind = []; at = g.at.at_place; stands = whole; replaced = g.other ∙ ap (λ t. g.at.a ++ t) (sym (append-nil second.right)) }),
        refl,
      ),
    )

inclusion_shown : (group : Group) (rules : List Rule) (m : Meeting) (first second : Rule) (u v : List ℤ) → rule_numbered rules m.first ≡ Some first → rule_numbered rules m.second ≡ Some second
    → InclusionGives first second m.place u v → IsShown group rules (meeting_equation m u v)
inclusion_shown group rules m first second u v e f g = (
  first.left,
  (side first, side_numbered rules m.first first e, record { before = []; behind = []; at = refl; stands = g.one ∙ sym (append-nil first.right); replaced = sym (append-nil first.left) }),
  (
    v,
    (side second, side_numbered rules m.second second f, record { before = g.at.a; behind = g.at.c; at = g.at.at_place; stands = g.at.left_first; replaced = g.other }),
    refl,
  ),
)

equation_shown : (group : Group) (rules : List Rule) (e : Equation) → IsEquation group rules e → IsShown group rules e
equation_shown group rules e (pair x letter is) = subst (IsShown group rules) (sym is) (pair_shown group rules x letter)
equation_shown group rules e (relator number word there is) = subst (IsShown group rules) (sym is) (relator_shown group rules number word there)
equation_shown group rules e (meeting m u v r is) =
    subst (IsShown group rules) (sym is)
    (elim r.give as (λ _. IsShown group rules (meeting_equation m u v)) [
      | inl g ↦ overlap_shown group rules m r.first r.second u v r.first_numbered r.second_numbered g
      | inr h ↦ inclusion_shown group rules m r.first r.second u v r.first_numbered r.second_numbered h.1
    ])

gives_leads : (group : Group) (rules : List Rule) (e : Equation) (rule : Rule) (moves : List Move) → IsShown group rules e → Gives rules e rule moves → Leads group (sides rules) moves rule.left rule.right
gives_leads group rules e rule moves shown g =
    let back = leads_undone group (sides rules) (by_each g.from_one) e.one rule.left (told_leads group rules e.one rule.left g.from_one g.left) in
    let on = told_leads group rules e.other rule.right g.from_other g.right in
    subst (λ (t : List Move). Leads group (sides rules) t rule.left rule.right) (sym g.moves_are)
    (leads_append group (sides rules) (all_undone (by_each g.from_one)) (e.moves ++ by_each g.from_other) rule.left e.one rule.right back
    (leads_append group (sides rules) e.moves (by_each g.from_other) e.one e.other rule.right shown on))

pub given_leads : (group : Group) (rules : List Rule) (rule : Rule) (moves : List Move) → IsGiven group rules rule moves → Leads group (sides rules) moves rule.left rule.right
given_leads group rules rule moves given =
    let shown = equation_shown group rules given.equation given.is in
    elim given.gives as (λ _. Leads group (sides rules) moves rule.left rule.right) [
      | inl g ↦ gives_leads group rules given.equation rule moves shown g
      | inr g ↦ gives_leads group rules (turned given.equation) rule moves (leads_undone group (sides rules) given.equation.moves given.equation.one given.equation.other shown) g
    ]

-- ---- the letters of rules

-- the rules with numbers are over the generators
abbrev AreOver : ℕ → List Rule → Type 0
AreOver m rules = (number : ℕ) (rule : Rule) → rule_numbered rules number ≡ Some rule → IsRuleOver m rule

told_over : (m : ℕ) (rules : List Rule) → AreOver m rules → (u v : List ℤ) (told : List Rewriting) → LeadsBy rules u told v → IsOver m u → IsOver m v
told_over m rules over u v [] e h = subst (IsOver m) e h
told_over m rules over u v (one ∷ told) lead h =
    let at = lead.1.at in
    let whole : IsOver m (at.before ++ (at.rule.left ++ at.behind)) = subst (IsOver m) at.stands h in
    let rest : IsOver m (at.rule.left ++ at.behind) = IsOver-right m at.before (at.rule.left ++ at.behind) whole in
    told_over m rules over lead.0 v told lead.2
    (subst (IsOver m) (sym lead.1.replaced) (IsOver-append m at.before (at.rule.right ++ at.behind) (IsOver-left m at.before (at.rule.left ++ at.behind) whole)
    (IsOver-append m at.rule.right at.behind (over at.number at.rule at.numbered).right (IsOver-right m at.rule.left at.behind rest))))

abbrev BothOver : ℕ → Equation → Type 0
BothOver m e = IsOver m e.one × IsOver m e.other

relator_at : (m : ℕ) (words : List (List ℤ)) (n : ℕ) (word : List ℤ) → AllByRecursion (IsRelator m) words → slice_get words n ≡ Some word → IsOver m word
relator_at m [] n word all e = let never : None ≡ Some word = e in cc
relator_at m (w ∷ words) zero word all e = let same : w ≡ word = cc in subst (IsOver m) same all.0.over
relator_at m (w ∷ words) (suc n) word all e = relator_at m words n word all.1 e

relator_over : (m : ℕ) (words : List (List ℤ)) (number : ℕ) (word : List ℤ) → AllByRecursion (IsRelator m) words → relator_numbered words number ≡ Some word → IsOver m word
relator_over m words zero word all e = let never : None ≡ Some word = e in cc
relator_over m words (suc n) word all e = relator_at m words n word all e

results_over : (m : ℕ) (rules : List Rule) → AreOver m rules → (met : Meeting) (u v : List ℤ) → Results rules met u v → IsOver m u × IsOver m v
results_over m rules over met u v r =
    let first = over met.first r.first r.first_numbered in
    let second = over met.second r.second r.second_numbered in
    elim r.give as (λ _. IsOver m u × IsOver m v) [
      | inl g ↦ (
        subst (IsOver m) (sym g.one) (IsOver-append m r.first.right g.at.c first.right (IsOver-right m g.at.b g.at.c (subst (IsOver m) g.at.left_second second.left))),
        subst (IsOver m) (sym g.other) (IsOver-append m g.at.a r.second.right (IsOver-left m g.at.a g.at.b (subst (IsOver m) g.at.left_first first.left)) second.right),
      )
      | inr h ↦
          let g = h.1 in
          let whole : IsOver m (g.at.a ++ (r.second.left ++ g.at.c)) = subst (IsOver m) g.at.left_first first.left in
          let rest : IsOver m (r.second.left ++ g.at.c) = IsOver-right m g.at.a (r.second.left ++ g.at.c) whole in (
            subst (IsOver m) (sym g.one) first.right,
            subst (IsOver m) (sym g.other) (IsOver-append m g.at.a (r.second.right ++ g.at.c) (IsOver-left m g.at.a (r.second.left ++ g.at.c) whole)
                (IsOver-append m r.second.right g.at.c second.right (IsOver-right m r.second.left g.at.c rest))),
          )
    ]

equation_over : (group : Group) (rules : List Rule) (e : Equation) → IsPresented group → AreOver group.generators rules → IsEquation group rules e → BothOver group.generators e
equation_over group rules e fits over (pair x letter is) =
    subst (BothOver group.generators) (sym is) ((letter, (IsLetterOf-neg group.generators x letter, tt)), tt)
equation_over group rules e fits over (relator number word there is) =
    subst (BothOver group.generators) (sym is) (relator_over group.generators group.relators number word fits.relators there, tt)
equation_over group rules e fits over (meeting met u v r is) =
    subst (BothOver group.generators) (sym is) (results_over group.generators rules over met u v r)

gives_over : (m : ℕ) (rules : List Rule) (e : Equation) (rule : Rule) (moves : List Move) → AreOver m rules → BothOver m e → Gives rules e rule moves → IsRuleOver m rule
gives_over m rules e rule moves over both g = record {
  left = told_over m rules over e.one rule.left g.from_one g.left both.0;
  right = told_over m rules over e.other rule.right g.from_other g.right both.1;
}

given_over : (group : Group) (rules : List Rule) (rule : Rule) (moves : List Move) → IsPresented group → AreOver group.generators rules → IsGiven group rules rule moves → IsRuleOver group.generators rule
given_over group rules rule moves fits over given =
    let both = equation_over group rules given.equation fits over given.is in
    elim given.gives as (λ _. IsRuleOver group.generators rule) [
      | inl g ↦ gives_over group.generators rules given.equation rule moves over both g
      | inr g ↦ gives_over group.generators rules (turned given.equation) rule moves over (both.1, both.0) g
    ]

-- ---- rule by rule

in_take : {X : Type 0} (xs : List X) (n place : ℕ) (x : X) → slice_get (take n xs) place ≡ Some x → (place < n) × (slice_get xs place ≡ Some x)
in_take [] n place x e = absurd (let never : None ≡ Some x = subst (λ t. slice_get t place ≡ Some x) (take-nil n) e in cc)
in_take (y ∷ xs) zero place x e = absurd (let never : None ≡ Some x = e in cc)
in_take (y ∷ xs) (suc n) zero x e = (omega arith, e)
in_take (y ∷ xs) (suc n) (suc place) x e = let r = in_take xs n place x e in (let less = r.0 in omega arith, r.1)

pub some_at : {X : Type 0} (xs : List X) (n : ℕ) → n < length xs → (x : X) × (slice_get xs n ≡ Some x)
some_at [] n h = absurd (omega arith)
some_at (x ∷ xs) zero h = (x, refl)
some_at (x ∷ xs) (suc n) h = some_at xs n (omega arith)

abbrev AreOverBelow : ℕ → List Rule → ℕ → Type 0
AreOverBelow m rules n = (place : ℕ) (rule : Rule) → place < n → slice_get rules place ≡ Some rule → IsRuleOver m rule

over_take : (m : ℕ) (rules : List Rule) (n : ℕ) → AreOverBelow m rules n → AreOver m (take n rules)
over_take m rules n below zero rule e = absurd (let never : None ≡ Some rule = e in cc)
over_take m rules n below (suc place) rule e = let r = in_take rules n place rule e in below place rule r.0 r.1

over_below : (group : Group) (rules : List Rule) (reasons : List (List Move)) → IsPresented group → length reasons ≡ length rules → AllGiven group rules reasons → (n : ℕ) → AreOverBelow group.generators rules n
over_below group rules reasons fits paired given zero place rule below e = absurd (omega (arith, below))
over_below group rules reasons fits paired given (suc n) place rule below e =
    let within = slice_get_within rules place rule e in
    let why = some_at reasons place (omega (arith, within, paired)) in
    given_over group (take place rules) rule why.0 fits
    (over_take group.generators rules place (λ k r less there. over_below group rules reasons fits paired given n k r (omega (arith, below, less)) there))
    (given place rule why.0 e why.1)

pub all_from_places : (P : Rule → Type 0) (rules : List Rule) → ((place : ℕ) (rule : Rule) → slice_get rules place ≡ Some rule → P rule) → AllByRecursion P rules
all_from_places P [] each = tt
all_from_places P (rule ∷ rules) each = (each 0 rule refl, all_from_places P rules (λ place r e. each (suc place) r e))

-- the words of rules that are given are over the generators
pub all_over : (group : Group) (rules : List Rule) (reasons : List (List Move)) → IsPresented group → length reasons ≡ length rules → AllGiven group rules reasons
    → AllByRecursion (IsRuleOver group.generators) rules
all_over group rules reasons fits paired given =
    all_from_places (IsRuleOver group.generators) rules (λ place rule e. over_below group rules reasons fits paired given (suc place) place rule (omega arith) e)

-- ---- the log

pub logged_sides : (rules : List Rule) (reasons : List (List Move)) → length reasons ≡ length rules → all_sides (logged rules reasons) ≡ sides rules
logged_sides [] reasons h = refl
logged_sides (rule ∷ rules) [] h = absurd (omega arith)
logged_sides (rule ∷ rules) (moves ∷ reasons) h = ap (λ t. side rule ∷ t) (logged_sides rules reasons (omega arith))

record LoggedAt (rules : List Rule) (reasons : List (List Move)) (place : ℕ) (one : Logged) : Type 0 where
  pub rule : Rule
  pub moves : List Move
  pub rule_at : slice_get rules place ≡ Some rule
  pub moves_at : slice_get reasons place ≡ Some moves
  pub is : one ≡ record { left = rule.left; right = rule.right; moves = moves }
  pub sides_before : length reasons ≡ length rules → all_sides (take place (logged rules reasons)) ≡ sides (take place rules)

logged_at : (rules : List Rule) (reasons : List (List Move)) (place : ℕ) (one : Logged) → slice_get (logged rules reasons) place ≡ Some one → LoggedAt rules reasons place one
logged_at [] reasons place one e = absurd (let never : None ≡ Some one = e in cc)
logged_at (rule ∷ rules) [] place one e = absurd (let never : None ≡ Some one = e in cc)
logged_at (rule ∷ rules) (moves ∷ reasons) zero one e =
    record { rule = rule; moves = moves; rule_at = refl; moves_at = refl; is = cc; sides_before = λ h. refl }
logged_at (rule ∷ rules) (moves ∷ reasons) (suc place) one e =
    let r = logged_at rules reasons place one e in
    record { rule = r.rule; moves = r.moves; rule_at = r.rule_at; moves_at = r.moves_at; is = r.is; sides_before = λ h. ap (λ t. side rule ∷ t) (r.sides_before (omega arith)) }

-- each rule of the log follows from the rules before it
pub log_follows : (group : Group) (rules : List Rule) (reasons : List (List Move)) → IsPresented group → length reasons ≡ length rules → AllGiven group rules reasons
    → AllFollow group (logged rules reasons)
log_follows group rules reasons fits paired given place one e =
    let at = logged_at rules reasons place one e in
    let over = over_below group rules reasons fits paired given (suc place) place at.rule (omega arith) at.rule_at in
    let leads = given_leads group (take place rules) at.rule at.moves (given place at.rule at.moves at.rule_at at.moves_at) in
    subst (λ (t : Logged). Follows group (all_sides (take place (logged rules reasons))) t) (sym at.is)
    (subst (λ (t : List Sides). Follows group t (record { left = at.rule.left; right = at.rule.right; moves = at.moves })) (sym (at.sides_before paired))
    (record { left = over.left; right = over.right; reason = leads }))
