-- An equation whose words are rewritten: it gives a rule, or its words have a common descendant, and a rule that it gives joins them.
use Rattle.std.proofs.Common.{◌≡◌, ℕ, zero, suc, ◌<◌, ◌≤◌, ◌⊎◌, ℤ, List, [], ◌∷◌, ◌++◌, length, take, refl, sym, ap, subst, ◌∙◌, inl, inr, arith}
use Rattle.std.specs.Prelude.{Option, None, Some, Result, IfOk, OnOk, slice_get, ◌-◌, get_or}
use Rattle.std.specs.List.{AllByRecursion}
use Rattle.std.specs.declared.cmp.Ordering.{Ordering}
use Rattle.std.specs.declared.cmp.Ordering.TheVariants.{Less, Equal, Greater}
use Rattle.std.specs.Ordering.{ordering_reverse}
use Rattle.std.proofs.lemmas.Bool.{cases_lt}
use Rattle.std.proofs.lemmas.Option.{same_Some, slice_get_within, slice_get_read}
use Rattle.std.proofs.lemmas.Result.{IfOk-weaker, on_ok_weaker}
use Rattle.std.proofs.lemmas.List.{append-nil, take_at}
use Rattle.mg_words.specs.Orders.{letters_cmp, letters_total}
use Rattle.mg_words.proofs.Exact.{letters_exact}
use Rattle.mg_present.specs.Presentation.{Group}
use Rattle.mg_rules.specs.declared.rewriter.Rewriting.{Rewriting}
use Rattle.mg_rules.specs.Rule.{Rule, rule_numbered, Leads, Descends, HaveCommon, IsNormal}
use Rattle.mg_rules.specs.Shortlex.{IsSmaller, Decreases, AllDecrease}
use Rattle.mg_rules.specs.Reading.{LeadsBy, Tells}
use Rattle.mg_rules.specs.declared.meeting.Meeting.{Meeting}
use Rattle.mg_rules.specs.Meeting.{Meets, Results}
use Rattle.mg_rules.specs.Checking.{one_result, other_result}
use Rattle.mg_rulelog.specs.declared.moves.Move.{Move}
use Rattle.mg_rulelog.specs.declared.moves.Move.TheVariants.{By, Back}
use Rattle.mg_rulelog.specs.Moves.{all_undone}
use Rattle.mg_complete.specs.declared.desk.Desk.{Desk}
use Rattle.mg_complete.specs.declared.desk.Given.{Given}
use Rattle.mg_complete.specs.declared.desk.Settled.{Settled}
use Rattle.mg_complete.specs.declared.desk.Settled.TheVariants.{Joined, Added, Full}
use Rattle.mg_complete.specs.declared.system.System.{System}
use Rattle.mg_complete.specs.Equations.{Equation, IsEquation, Gives, IsGiven, turned, by_each, meeting_equation}
use Rattle.mg_complete.specs.Completion.{AllGiven}
use Rattle.mg_complete.specs.Working.{IsRewritten, on_desk, IsCounted, IsSystem, AddsRule, Adds, Settles, GivesPair}
use Rattle.mg_complete.proofs.Growing.{descends_still, results_of}
use Rattle.mg_complete.proofs.Showing.{told_descends}

-- ---- the ends on the desk

pub told_all : (rules : List Rule) (u v : List ℤ) (old new : List Rewriting) → old ≡ [] → Tells rules u v old new → LeadsBy rules u new v
told_all rules u v old new none t =
    let all : new ≡ t.told = t.appended ∙ ap (λ (l : List Rewriting). l ++ t.told) none in
    subst (λ (l : List Rewriting). LeadsBy rules u l v) (sym all) t.lead

-- of two words that are no smaller than each other each is the other
less_cases : (o : Ordering) → (o ≡ Less) ⊎ ((o ≡ Equal) ⊎ (ordering_reverse o ≡ Less))
less_cases Less = inl refl
less_cases Equal = inr (inl refl)
less_cases Greater = inr (inr refl)

pub not_smaller : (u v : List ℤ) → (IsSmaller u v → ⊥) → (IsSmaller v u → ⊥) → u ≡ v
not_smaller u v one other =
    elim (cases_lt (length u) (length v)) as (λ _. u ≡ v) [
      | inl shorter ↦ absurd (one (inl shorter))
      | inr most ↦ elim (cases_lt (length v) (length u)) as (λ _. u ≡ v) [
        | inl longer ↦ absurd (other (inl longer))
        | inr least ↦ let same : length u ≡ length v = omega arith in
            elim (less_cases (letters_cmp u v)) as (λ _. u ≡ v) [
              | inl less ↦ absurd (one (inr (same, less)))
              | inr more ↦ elim more as (λ _. u ≡ v) [
                | inl equal ↦ letters_exact u v equal
                | inr greater ↦ absurd (other (inr (sym same, letters_total.antisymm v u ∙ greater)))
              ]
            ]
      ]
    ]

pub forward_gives : (rules : List Rule) (d : Desk) (rule : Rule) (moves : List Move) → IsRewritten rules d → IsSmaller d.other_end.letters d.one_end.letters
    → rule.left ≡ d.one_end.letters → rule.right ≡ d.other_end.letters → moves ≡ all_undone (by_each d.one_told) ++ (d.moves ++ by_each d.other_told)
    → Gives rules (on_desk d) rule moves
forward_gives rules d rule moves w smaller left right are = record {
  from_one = d.one_told;
  from_other = d.other_told;
  left = subst (LeadsBy rules d.one.letters d.one_told) (sym left) w.one;
  right = subst (LeadsBy rules d.other.letters d.other_told) (sym right) w.other;
  left_normal = subst (IsNormal rules) (sym left) w.one_normal;
  right_normal = subst (IsNormal rules) (sym right) w.other_normal;
  decreases = subst (IsSmaller rule.right) (sym left) (subst (λ (t : List ℤ). IsSmaller t d.one_end.letters) (sym right) smaller);
  moves_are = are;
}

pub backward_gives : (rules : List Rule) (d : Desk) (rule : Rule) (moves : List Move) → IsRewritten rules d → IsSmaller d.one_end.letters d.other_end.letters
    → rule.left ≡ d.other_end.letters → rule.right ≡ d.one_end.letters → moves ≡ all_undone (by_each d.other_told) ++ (all_undone d.moves ++ by_each d.one_told)
    → Gives rules (turned (on_desk d)) rule moves
backward_gives rules d rule moves w smaller left right are = record {
  from_one = d.other_told;
  from_other = d.one_told;
  left = subst (LeadsBy rules d.other.letters d.other_told) (sym left) w.other;
  right = subst (LeadsBy rules d.one.letters d.one_told) (sym right) w.one;
  left_normal = subst (IsNormal rules) (sym left) w.other_normal;
  right_normal = subst (IsNormal rules) (sym right) w.one_normal;
  decreases = subst (IsSmaller rule.right) (sym left) (subst (λ (t : List ℤ). IsSmaller t d.other_end.letters) (sym right) smaller);
  moves_are = are;
}

pub joined : (rules : List Rule) (d : Desk) → IsRewritten rules d → (IsSmaller d.other_end.letters d.one_end.letters → ⊥) → (IsSmaller d.one_end.letters d.other_end.letters → ⊥)
    → HaveCommon rules d.one.letters d.other.letters
joined rules d w one other =
    let same : d.one_end.letters ≡ d.other_end.letters = not_smaller d.one_end.letters d.other_end.letters other one in (
      d.one_end.letters,
      told_descends rules d.one.letters d.one_end.letters d.one_told w.one,
      subst (Descends rules d.other.letters) (sym same) (told_descends rules d.other.letters d.other_end.letters d.other_told w.other),
    )

-- ---- a rule more

get_push : {X : Type 0} (xs : List X) (x : X) (n : ℕ) (y : X) → slice_get (xs ++ x ∷ []) n ≡ Some y → (slice_get xs n ≡ Some y) ⊎ ((n ≡ length xs) × (x ≡ y))
get_push [] x zero y e = inr (refl, same_Some x y e)
get_push [] x (suc n) y e = absurd (let never : None ≡ Some y = e in cc)
get_push (z ∷ xs) x zero y e = inl e
get_push (z ∷ xs) x (suc n) y e = elim (get_push xs x n y e) [ inl h ↦ inl h | inr h ↦ inr (ap suc h.0, h.1) ]

take_push : {X : Type 0} (xs : List X) (x : X) (n : ℕ) → n < length xs → take n (xs ++ x ∷ []) ≡ take n xs
take_push [] x n h = absurd (omega arith)
take_push (z ∷ xs) x zero h = refl
take_push (z ∷ xs) x (suc n) h = ap (λ t. z ∷ t) (take_push xs x n (omega arith))

pub given_more : (group : Group) (rules : List Rule) (reasons : List (List Move)) (rule : Rule) (moves : List Move) → length reasons ≡ length rules → AllGiven group rules reasons
    → IsGiven group rules rule moves → AllGiven group (rules ++ rule ∷ []) (reasons ++ moves ∷ [])
given_more group rules reasons rule moves paired given new place r m e f =
    elim (get_push rules rule place r e) as (λ _. IsGiven group (take place (rules ++ rule ∷ [])) r m) [
      | inl old ↦ elim (get_push reasons moves place m f) as (λ _. IsGiven group (take place (rules ++ rule ∷ [])) r m) [
        | inl there ↦ subst (λ (t : List Rule). IsGiven group t r m) (sym (take_push rules rule place (slice_get_within rules place r old))) (given place r m old there)
        | inr end ↦ let within = slice_get_within rules place r old in absurd (let at = end.0 in omega (arith, within, at, paired))
      ]
      | inr last ↦ elim (get_push reasons moves place m f) as (λ _. IsGiven group (take place (rules ++ rule ∷ [])) r m) [
        | inl there ↦ let within = slice_get_within reasons place m there in absurd (let at = last.0 in omega (arith, within, at, paired))
        | inr end ↦ subst (λ (t : List Rule). IsGiven group t r m) (sym (take_at rules (rule ∷ []) place (sym last.0)))
            (subst (λ (t : Rule). IsGiven group rules t m) last.1 (subst (λ (t : List Move). IsGiven group rules rule t) end.1 new))
      ]
    ]

given_decreases : (group : Group) (rules : List Rule) (rule : Rule) (moves : List Move) → IsGiven group rules rule moves → Decreases rule
given_decreases group rules rule moves g = elim g.gives as (λ _. Decreases rule) [ inl h ↦ h.decreases | inr h ↦ h.decreases ]

all_push : (P : Rule → Type 0) (rules : List Rule) (rule : Rule) → AllByRecursion P rules → P rule → AllByRecursion P (rules ++ rule ∷ [])
all_push P [] rule h p = (p, tt)
all_push P (r ∷ rules) rule h p = (h.0, all_push P rules rule h.1 p)

pub decrease_more : (group : Group) (rules : List Rule) (rule : Rule) (moves : List Move) → AllDecrease rules → IsGiven group rules rule moves → AllDecrease (rules ++ rule ∷ [])
decrease_more group rules rule moves h g = all_push Decreases rules rule h (given_decreases group rules rule moves g)

descends_on : (rules : List Rule) (u v w : List ℤ) → Descends rules u v → Descends rules v w → Descends rules u w
descends_on rules u v w h k = on u h.0 h.1
  where
    on : (t : List ℤ) (words : List (List ℤ)) → Leads rules t words v → Descends rules t w
    on t [] e = subst (λ (s : List ℤ). Descends rules s w) (sym e) k
    on t (x ∷ words) l = let rest = on x words l.1 in (x ∷ rest.0, (l.0, rest.1))

last_numbered : (rules : List Rule) (rule : Rule) → rule_numbered (rules ++ rule ∷ []) (suc (length rules)) ≡ Some rule
last_numbered [] rule = refl
last_numbered (r ∷ rules) rule = last_numbered rules rule

rule_joins : (rules : List Rule) (rule : Rule) → Descends (rules ++ rule ∷ []) rule.left rule.right
rule_joins rules rule = (
  rule.right ∷ [],
  (
    record {
      at = record { number = suc (length rules); rule = rule; numbered = last_numbered rules rule; before = []; behind = []; stands = sym (append-nil rule.left) };
      replaced = sym (append-nil rule.right);
    },
    refl,
  ),
)

gives_common : (rules : List Rule) (e : Equation) (rule : Rule) (moves : List Move) → Gives rules e rule moves → HaveCommon (rules ++ rule ∷ []) e.one e.other
gives_common rules e rule moves g = (
  rule.right,
  descends_on (rules ++ rule ∷ []) e.one rule.left rule.right (descends_still rules (rule ∷ []) e.one rule.left (told_descends rules e.one rule.left g.from_one g.left)) (rule_joins rules rule),
  descends_still rules (rule ∷ []) e.other rule.right (told_descends rules e.other rule.right g.from_other g.right),
)

-- with the rule that an equation gives its words have a common descendant
pub rule_common : (rules : List Rule) (e : Equation) (rule : Rule) (moves : List Move) → Gives rules e rule moves ⊎ Gives rules (turned e) rule moves → HaveCommon (rules ++ rule ∷ []) e.one e.other
rule_common rules e rule moves (inl g) = gives_common rules e rule moves g
rule_common rules e rule moves (inr g) = let h = gives_common rules (turned e) rule moves g in (h.0, h.2, h.1)

pub added : (group : Group) (before : System) (rule : Rule) (moves : List Move) (after : System) → IsSystem group before → IsGiven group before.rules rule moves
    → after.rules ≡ before.rules ++ rule ∷ [] → after.reasons ≡ before.reasons ++ moves ∷ [] → IsCounted after → AddsRule group before rule after
added group before rule moves after system given rules reasons counted = record {
  moves = moves;
  given = given;
  rules = rules;
  reasons = reasons;
  system = record {
    counted = counted;
    given = subst (λ (t : List Rule). AllGiven group t after.reasons) (sym rules)
        (subst (λ (t : List (List Move)). AllGiven group (before.rules ++ rule ∷ []) t) (sym reasons) (given_more group before.rules before.reasons rule moves system.counted.paired system.given given));
    decrease = subst AllDecrease (sym rules) (decrease_more group before.rules rule moves system.decrease given);
  };
}

-- what the desk gives is of the equation that stood there
pub given_by : (group : Group) (rules : List Rule) (e e' : Equation) (found : Option Given) (given : Given) → IsEquation group rules e → e' ≡ e → GivesPair rules e' found → found ≡ Some given
    → IsGiven group rules given.pair given.moves
given_by group rules e e' found given is same gives there =
    record { equation = e; is = is; gives = subst (λ (t : Equation). GivesPair rules t (Some given)) same (subst (GivesPair rules e') there gives) }

settled_so : (group : Group) (before : System) (e : Equation) (given : Given) (settled : Settled) (after : System) → GivesPair before.rules e (Some given)
    → Adds group before given.pair settled after → Settles group e before settled after
settled_so group before e given Joined after gives h = absurd h
settled_so group before e given Added after gives h =
    (given.pair, h, subst (λ (t : List Rule). HaveCommon t e.one e.other) (sym h.rules) (rule_common before.rules e given.pair given.moves gives))
settled_so group before e given (Full passed) after gives h = h

pub settles_so : {E : Type 0} (r : Result Settled E) (group : Group) (before : System) (e e' : Equation) (found : Option Given) (given : Given) (after : System) → e' ≡ e → GivesPair before.rules e' found
    → found ≡ Some given → IfOk r (λ settled. Adds group before given.pair settled after) → IfOk r (λ settled. Settles group e before settled after)
settles_so r group before e e' found given after same gives there h =
    IfOk-weaker r _ _ (λ settled k. settled_so group before e given settled after (subst (λ (t : Equation). GivesPair before.rules t (Some given)) same (subst (GivesPair before.rules e') there gives)) k) h

-- ---- overlaps on the desk

number_within : (rules : List Rule) (number : ℕ) (rule : Rule) → rule_numbered rules number ≡ Some rule → (0 < number) × (number ≤ length rules)
number_within rules zero rule e = absurd (let never : None ≡ Some rule = e in cc)
number_within rules (suc n) rule e = (omega arith, (let below = slice_get_within rules n rule e in omega arith))

rule_read : (rules pairs : List Rule) (number : ℕ) (rule : Rule) → pairs ≡ rules → rule ≡ get_or pairs (number - 1) rule → 0 < number → number ≤ length rules → rule_numbered rules number ≡ Some rule
rule_read rules pairs zero rule same is some within = absurd (omega arith)
rule_read rules pairs (suc n) rule same is some within =
    let at : suc n - 1 ≡ n = omega arith in
    let here : rule ≡ get_or pairs n rule = is ∙ ap (λ k. get_or pairs k rule) at in
    subst (λ (t : List Rule). slice_get t n ≡ Some rule) same (slice_get_read pairs (length pairs) n rule refl (omega (arith, ap length same)) here)

-- the first rule is read
pub first_read : (rules pairs : List Rule) (m : Meeting) (first : Rule) → Meets rules m → pairs ≡ rules → first ≡ get_or pairs (m.first - 1) first → rule_numbered rules m.first ≡ Some first
first_read rules pairs m first meets same is =
    let within = number_within rules m.first meets.first meets.first_numbered in rule_read rules pairs m.first first same is within.0 within.1

pub second_read : (rules pairs : List Rule) (m : Meeting) (second : Rule) → Meets rules m → pairs ≡ rules → second ≡ get_or pairs (m.second - 1) second → rule_numbered rules m.second ≡ Some second
second_read rules pairs m second meets same is =
    let within = number_within rules m.second meets.second meets.second_numbered in rule_read rules pairs m.second second same is within.0 within.1

pub put_so : {T E : Type 0} (r : Result T E) (rules : List Rule) (m : Meeting) (first second : Rule) (one other : List ℤ) (moves : List Move) → Meets rules m
    → rule_numbered rules m.first ≡ Some first → rule_numbered rules m.second ≡ Some second → one ≡ one_result first second m.place → other ≡ other_result first second m.place
    → OnOk r (moves ≡ Back m.first 0 ∷ By m.second m.place ∷ [])
    → OnOk r ((u : List ℤ) × (v : List ℤ) × Results rules m u v × (record { one = one; other = other; moves = moves } ≡ meeting_equation m u v))
put_so r rules m first second one other moves meets e f is is' h =
    on_ok_weaker r (λ k. (
      one,
      other,
      subst (λ (t : List ℤ). Results rules m t other) (sym is) (subst (Results rules m (one_result first second m.place)) (sym is') (results_of rules m first second meets e f)),
      ap (λ (t : List Move). record { one = one; other = other; moves = t }) k,
    )) h
