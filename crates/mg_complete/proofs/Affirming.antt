-- A log for goals that come to nothing: their rewritings are its moves, and it is accepted.
use Rattle.std.proofs.Common.{◌≡◌, ℕ, zero, suc, ◌+◌, ◌<◌, ◌≤◌, ℤ, List, [], ◌∷◌, ◌++◌, length, take, refl, sym, ap, subst, ◌∙◌, arith}
use Rattle.std.specs.Prelude.{None, Some, slice_get, Contains, ◌-◌, get_or}
use Rattle.std.specs.List.{AllByRecursion}
use Rattle.std.proofs.Math.Seq.{take-nil}
use Rattle.std.proofs.lemmas.List.Sums.{sum_by-append}
use Rattle.std.proofs.lemmas.Option.{get_or_from_slice_get, slice_get_within, slice_get_read}
use Rattle.mg_turn.specs.declared.bounds.TheConstants.{MOST_MOVES}
use Rattle.mg_turn.specs.declared.outcome.Limit.TheVariants as limit
use Rattle.mg_present.specs.Presentation.{Group, IsPresented}
use Rattle.mg_present.specs.Ask.{Inquiry}
use Rattle.mg_rules.specs.declared.rewriter.Rewriting.{Rewriting}
use Rattle.mg_rules.specs.Rule.{Rule}
use Rattle.mg_rules.specs.First.{RewritesFirst, LeadsFirst, IsFirstDescendant}
use Rattle.mg_rules.specs.Reading.{LeadsBy, Tells}
use Rattle.mg_rulelog.specs.declared.moves.Move.{Move}
use Rattle.mg_rulelog.specs.Rule.{Sides, Logged, all_sides}
use Rattle.mg_rulelog.specs.Acceptance.{IsBy, Erases, AllErase, IsAccepted}
use Rattle.mg_complete.specs.declared.system.System.{System}
use Rattle.mg_complete.specs.declared.work.Work.{Work}
use Rattle.mg_complete.specs.Equations.{sides, by_each}
use Rattle.mg_complete.specs.Completion.{AllGiven, moves_in}
use Rattle.mg_complete.specs.Publishing.{logged, log_of}
use Rattle.mg_complete.specs.Turn.{LongLog}
use Rattle.mg_complete.specs.Working.{AllVanish, IsSystem, SameWork, Works}
use Rattle.mg_complete.proofs.Settling.{told_all}
use Rattle.mg_complete.proofs.Showing.{told_leads, some_at, log_follows, logged_sides}

-- ---- one goal

all_by : (told : List Rewriting) → AllByRecursion IsBy (by_each told)
all_by [] = tt
all_by (one ∷ told) = (tt, all_by told)

told_erases : (group : Group) (rules : List Rule) (goal : List ℤ) (told : List Rewriting) → LeadsBy rules goal told [] → Erases group (sides rules) (by_each told) goal
told_erases group rules goal told lead = record { rewritings = all_by told; leads = told_leads group rules goal [] told lead }

-- a goal with its first descendant, which is empty, and the rewritings that were told
pub goal_erased : (group : Group) (rules : List Rule) (goals : List (List ℤ)) (place : ℕ) (at goal v : List ℤ) (old new : List Rewriting) (moves : List Move)
    → ((u one other : List ℤ) → IsFirstDescendant rules u one → IsFirstDescendant rules u other → one ≡ other)
    → ((g : List ℤ) → Contains goals g → IsFirstDescendant rules g [])
    → slice_get goals place ≡ Some at → slice_get goals place ≡ Some goal → old ≡ [] → IsFirstDescendant rules at v → Tells rules at v old new → moves ≡ [] ++ by_each new
    → Erases group (sides rules) moves goal
goal_erased group rules goals place at goal v old new moves unique vanish there wanted none first told are =
    let same : at ≡ goal = let both : Some at ≡ Some goal = sym there ∙ wanted in cc in
    let empty : v ≡ [] = unique at v [] first (vanish at (place, slice_get_within goals place at there, get_or_from_slice_get goals place at at there)) in
    let lead : LeadsBy rules at new [] = subst (LeadsBy rules at new) empty (told_all rules at v old new none told) in
    subst (Erases group (sides rules) moves) same (subst (λ (t : List Move). Erases group (sides rules) t at) (sym are) (told_erases group rules at new lead))

-- ---- all goals

-- a goal that comes to nothing has some moves
erasable : (group : Group) (rules : List Rule) (goal v : List ℤ) (words : List (List ℤ)) → LeadsFirst rules goal words v → v ≡ [] → (moves : List Move) × Erases group (sides rules) moves goal
erasable group rules goal v words lead empty =
    let told = tell goal v words lead in (by_each told.0, told_erases group rules goal told.0 (subst (LeadsBy rules goal told.0) empty told.1))
  where
    tell : (u w : List ℤ) (through : List (List ℤ)) → LeadsFirst rules u through w → (told : List Rewriting) × LeadsBy rules u told w
    tell u w [] e = ([], e)
    tell u w (next ∷ through) h =
        let rest = tell next w through h.1 in
        (record { rule = h.0.at.number; place = length h.0.at.before } ∷ rest.0, (next, record { at = h.0.at; by_rule = refl; at_place = refl; replaced = h.0.replaced }, rest.1))

-- the moves of the goals before a place
pub record Erased (w : Work) (lists : List (List Move)) (place : ℕ) : Type 0 where
  pub erase : AllErase w.ask.group (sides w.system.rules) lists (take place w.ask.goals)
  pub few : moves_in w.system.reasons + moves_in lists ≤ MOST_MOVES

push_erased : (group : Group) (rules : List Sides) (lists : List (List Move)) (goals : List (List ℤ)) (place : ℕ) (list : List Move) (goal : List ℤ)
    → AllErase group rules lists (take place goals) → slice_get goals place ≡ Some goal → Erases group rules list goal → AllErase group rules (lists ++ list ∷ []) (take (suc place) goals)
push_erased group rules lists [] place list goal all there one = absurd (let never : None ≡ Some goal = there in cc)
push_erased group rules [] (g ∷ goals) zero list goal all there one = let same : g ≡ goal = cc in (subst (Erases group rules list) (sym same) one, tt)
push_erased group rules (l ∷ lists) (g ∷ goals) zero list goal all there one = absurd all
push_erased group rules [] (g ∷ goals) (suc place) list goal all there one = absurd all
push_erased group rules (l ∷ lists) (g ∷ goals) (suc place) list goal all there one = (all.0, push_erased group rules lists goals place list goal all.1 there one)

moves_push : (lists : List (List Move)) (more : List (List Move)) → moves_in (lists ++ more) ≡ moves_in lists + moves_in more
moves_push lists more = sum_by-append (λ (moves : List Move). length moves) lists more

next_place : (n : ℕ) → suc n ≡ n + 1
next_place n = omega arith

pub erased_more : (w : Work) (lists : List (List Move)) (place : ℕ) (list : List Move) (goal : List ℤ) → Erased w lists place → slice_get w.ask.goals place ≡ Some goal
    → Erases w.ask.group (sides w.system.rules) list goal → moves_in w.system.reasons + moves_in lists + length list ≤ MOST_MOVES → Erased w (lists ++ list ∷ []) (place + 1)
erased_more w lists place list goal erased there one room = record {
  erase = subst (λ n. AllErase w.ask.group (sides w.system.rules) (lists ++ list ∷ []) (take n w.ask.goals)) (next_place place) (push_erased w.ask.group (sides w.system.rules) lists w.ask.goals place list goal erased.erase there one);
  few = omega (arith, room, moves_push lists (list ∷ []));
}

pub none_erased : (w : Work) → IsSystem w.ask.group w.system → Erased w [] 0
none_erased w system = record { erase = tt; few = let within = system.counted.within.moves in omega (arith, within) }

take_all : {X : Type 0} (xs : List X) (n : ℕ) → length xs ≤ n → take n xs ≡ xs
take_all [] n h = take-nil n
take_all (x ∷ xs) zero h = absurd (omega arith)
take_all (x ∷ xs) (suc n) h = ap (λ t. x ∷ t) (take_all xs n (omega arith))

pub all_erased : (w : Work) (lists : List (List Move)) (place : ℕ) → length w.ask.goals ≤ place → Erased w lists place
    → AllErase w.ask.group (sides w.system.rules) lists w.ask.goals × (moves_in w.system.reasons + moves_in lists ≤ MOST_MOVES)
all_erased w lists place past erased = (subst (AllErase w.ask.group (sides w.system.rules) lists) (take_all w.ask.goals place past) erased.erase, erased.few)

-- ---- a log that is too long

rest_erased : (group : Group) (rules : List Rule) (goals : List (List ℤ)) → ((place : ℕ) (g : List ℤ) → slice_get goals place ≡ Some g → IsFirstDescendant rules g [])
    → (lists : List (List Move)) × AllErase group (sides rules) lists goals
rest_erased group rules [] each = ([], tt)
rest_erased group rules (goal ∷ goals) each =
    let first = each 0 goal refl in
    let one = erasable group rules goal [] first.words first.leads refl in
    let rest = rest_erased group rules goals (λ place g e. each (suc place) g e) in (one.0 ∷ rest.0, (one.1, rest.1))

extended : (group : Group) (rules : List Rule) (lists : List (List Move)) (goals : List (List ℤ)) (place : ℕ) → ((place : ℕ) (g : List ℤ) → slice_get goals place ≡ Some g → IsFirstDescendant rules g [])
    → AllErase group (sides rules) lists (take place goals) → (more : List (List Move)) × AllErase group (sides rules) (lists ++ more) goals
extended group rules [] goals zero each all = rest_erased group rules goals each
extended group rules (l ∷ lists) goals zero each all = absurd all
extended group rules [] [] (suc place) each all = ([], tt)
extended group rules (l ∷ lists) [] (suc place) each all = absurd all
extended group rules [] (g ∷ goals) (suc place) each all = absurd all
extended group rules (l ∷ lists) (g ∷ goals) (suc place) each all =
    let rest = extended group rules lists goals place (λ k h e. each (suc k) h e) all.1 in (rest.0, (all.0, rest.1))

pub too_long : (w : Work) (lists : List (List Move)) (place : ℕ) (list : List Move) (goal : List ℤ) → AllVanish w → Erased w lists place → slice_get w.ask.goals place ≡ Some goal
    → Erases w.ask.group (sides w.system.rules) list goal → MOST_MOVES < moves_in w.system.reasons + moves_in lists + length list
    → LongLog w.ask w.system.rules w.system.reasons limit.Moves MOST_MOVES
too_long w lists place list goal vanish erased there one most =
    let whole = extended w.ask.group w.system.rules (lists ++ list ∷ []) w.ask.goals (suc place)
    (λ k g e. vanish g (k, slice_get_within w.ask.goals k g e, get_or_from_slice_get w.ask.goals k g g e))
    (push_erased w.ask.group (sides w.system.rules) lists w.ask.goals place list goal erased.erase there one) in
    record {
      lists = (lists ++ list ∷ []) ++ whole.0;
      erase = whole.1;
      what_is = refl;
      count_is = refl;
      most = omega (arith, most, moves_push (lists ++ list ∷ []) whole.0, moves_push lists (list ∷ []));
    }

-- ---- the log

logged_push : (rules : List Rule) (reasons : List (List Move)) (place : ℕ) (rule : Rule) (moves : List Move) → slice_get rules place ≡ Some rule → slice_get reasons place ≡ Some moves
    → logged (take (suc place) rules) (take (suc place) reasons) ≡ logged (take place rules) (take place reasons) ++ record { left = rule.left; right = rule.right; moves = moves } ∷ []
logged_push [] reasons place rule moves e f = absurd (let never : None ≡ Some rule = e in cc)
logged_push (r ∷ rules) [] place rule moves e f = absurd (let never : None ≡ Some moves = f in cc)
logged_push (r ∷ rules) (m ∷ reasons) zero rule moves e f =
    let same : r ≡ rule = cc in let alike : m ≡ moves = cc in
    ap (λ (t : Rule). record { left = t.left; right = t.right; moves = m } ∷ []) same ∙ ap (λ (t : List Move). record { left = rule.left; right = rule.right; moves = t } ∷ []) alike
logged_push (r ∷ rules) (m ∷ reasons) (suc place) rule moves e f = ap (λ t. record { left = r.left; right = r.right; moves = m } ∷ t) (logged_push rules reasons place rule moves e f)

pub logged_more : (rules : List Rule) (reasons : List (List Move)) (place : ℕ) (rule : Rule) (moves : List Move) (so_far : List Logged) → slice_get rules place ≡ Some rule
    → slice_get reasons place ≡ Some moves → so_far ≡ logged (take place rules) (take place reasons)
    → so_far ++ record { left = rule.left; right = rule.right; moves = moves } ∷ [] ≡ logged (take (place + 1) rules) (take (place + 1) reasons)
logged_more rules reasons place rule moves so_far e f are =
    ap (λ t. t ++ record { left = rule.left; right = rule.right; moves = moves } ∷ []) are
    ∙ (sym (logged_push rules reasons place rule moves e f) ∙ ap (λ n. logged (take n rules) (take n reasons)) (next_place place))

pub logged_all : (rules : List Rule) (reasons : List (List Move)) (place : ℕ) → length reasons ≡ length rules → length rules ≤ place → logged (take place rules) (take place reasons) ≡ logged rules reasons
logged_all rules reasons place paired past =
    ap (λ t. logged t (take place reasons)) (take_all rules place past) ∙ ap (logged rules) (take_all reasons place (omega (arith, past, paired)))

pub log_accepted : (ask : Inquiry) (rules : List Rule) (reasons lists : List (List Move)) → IsPresented ask.group → length reasons ≡ length rules → AllGiven ask.group rules reasons
    → AllErase ask.group (sides rules) lists ask.goals → IsAccepted ask (log_of rules reasons lists)
log_accepted ask rules reasons lists fits paired given erase = record {
  rules = log_follows ask.group rules reasons fits paired given;
  goals = subst (λ (t : List Sides). AllErase ask.group t lists ask.goals) (sym (logged_sides rules reasons paired)) erase;
}

-- ---- the loop over the goals

erases_on : (a b : Work) (place : ℕ) (moves : List Move) → SameWork a b
    → ((goal : List ℤ) → slice_get b.ask.goals place ≡ Some goal → Erases b.ask.group (sides b.system.rules) moves goal)
    → (goal : List ℤ) → slice_get a.ask.goals place ≡ Some goal → Erases a.ask.group (sides a.system.rules) moves goal
erases_on a b place moves same one =
    subst (λ (s : System). (goal : List ℤ) → slice_get a.ask.goals place ≡ Some goal → Erases a.ask.group (sides s.rules) moves goal) same.system
    (subst (λ (q : Inquiry). (goal : List ℤ) → slice_get q.goals place ≡ Some goal → Erases q.group (sides b.system.rules) moves goal) same.ask one)

goal_at : (a b : Work) (place count : ℕ) → SameWork a b → count ≡ length b.ask.goals → place < count → (goal : List ℤ) × (slice_get a.ask.goals place ≡ Some goal)
goal_at a b place count same is less = some_at a.ask.goals place (subst (λ n. place < n) (is ∙ ap (λ (q : Inquiry). length q.goals) same.ask) less)

pub next_erased : (a b : Work) (lists after : List (List Move)) (place count moves : ℕ) (list : List Move) → SameWork a b → count ≡ length b.ask.goals → place < count
    → moves ≡ moves_in a.system.reasons + moves_in lists → Erased a lists place
    → ((goal : List ℤ) → slice_get b.ask.goals place ≡ Some goal → Erases b.ask.group (sides b.system.rules) list goal)
    → length list ≤ MOST_MOVES - moves → after ≡ lists ++ list ∷ []
    → Erased a after (place + 1) × (moves + length list ≡ moves_in a.system.reasons + moves_in after)
next_erased a b lists after place count moves list same is less sum erased one room are =
    let at = goal_at a b place count same is less in
    let few = erased.few in
    subst (λ (t : List (List Move)). Erased a t (place + 1) × (moves + length list ≡ moves_in a.system.reasons + moves_in t)) (sym are) (
      erased_more a lists place list at.0 erased at.1 (erases_on a b place list same one at.0 at.1) (omega (arith, room, sum, few)),
      omega (arith, sum, moves_push lists (list ∷ [])),
    )

pub long_erased : (a b : Work) (lists : List (List Move)) (place count moves : ℕ) (list : List Move) → AllVanish a → SameWork a b → count ≡ length b.ask.goals → place < count
    → moves ≡ moves_in a.system.reasons + moves_in lists → Erased a lists place
    → ((goal : List ℤ) → slice_get b.ask.goals place ≡ Some goal → Erases b.ask.group (sides b.system.rules) list goal)
    → MOST_MOVES - moves < length list → LongLog a.ask a.system.rules a.system.reasons limit.Moves MOST_MOVES
long_erased a b lists place count moves list vanish same is less sum erased one room =
    let at = goal_at a b place count same is less in
    too_long a lists place list at.0 vanish erased at.1 (erases_on a b place list same one at.0 at.1) (omega (arith, room, sum))

-- ---- the loop over the rules

pub logged_next : (rules pairs : List Rule) (reasons lists : List (List Move)) (place : ℕ) (so_far after : List Logged) (pair : Rule) (left right : List ℤ) (moves own : List Move)
    → pairs ≡ rules → lists ≡ reasons → length reasons ≡ length rules → place < length pairs → pair ≡ get_or pairs place pair → moves ≡ get_or lists place moves
    → left ≡ pair.left → right ≡ pair.right → own ≡ moves → so_far ≡ logged (take place rules) (take place reasons)
    → after ≡ so_far ++ record { left = left; right = right; moves = own } ∷ [] → after ≡ logged (take (place + 1) rules) (take (place + 1) reasons)
logged_next rules pairs reasons lists place so_far after pair left right moves own same alike paired less pair_is moves_is left_is right_is own_is are all =
    let at : slice_get rules place ≡ Some pair = subst (λ (t : List Rule). slice_get t place ≡ Some pair) same (slice_get_read pairs (length pairs) place pair refl less pair_is) in
    let within : place < length lists = omega (arith, less, paired, ap length same, ap length alike) in
    let why : slice_get reasons place ≡ Some moves = subst (λ (t : List (List Move)). slice_get t place ≡ Some moves) alike (slice_get_read lists (length lists) place moves refl within moves_is) in
    let one : record { left = left; right = right; moves = own } ≡ record { left = pair.left; right = pair.right; moves = moves } =
    ap (λ (t : List ℤ). record { left = t; right = right; moves = own }) left_is ∙ (ap (λ (t : List ℤ). record { left = pair.left; right = t; moves = own }) right_is
    ∙ ap (λ (t : List Move). record { left = pair.left; right = pair.right; moves = t }) own_is) in
    all ∙ (ap (λ (t : Logged). so_far ++ t ∷ []) one ∙ logged_more rules reasons place pair moves so_far at why are)

-- ---- the claim

pub affirmed_so : (w : Work) (dealt : ℕ) (ask : Inquiry) (rules : List Logged) (lists : List (List Move)) → IsPresented w.ask.group → Works w dealt → ask ≡ w.ask
    → rules ≡ logged w.system.rules w.system.reasons → AllErase w.ask.group (sides w.system.rules) lists w.ask.goals → IsAccepted ask (record { rules = rules; goals = lists })
affirmed_so w dealt ask rules lists fits works same are erase =
    subst (λ (q : Inquiry). IsAccepted q (record { rules = rules; goals = lists })) (sym same)
    (subst (λ (t : List Logged). IsAccepted w.ask (record { rules = t; goals = lists })) (sym are)
    (log_accepted w.ask w.system.rules w.system.reasons lists fits works.system.counted.paired works.system.given erase))
