-- Units are taken, one after another, up to a reason to take none more.
use Rattle.std.proofs.Common.{◌≡◌, ℕ, ◌+◌, ◌-◌, ◌<◌, ◌≤◌, ℤ, Bool, true, false, List, [], ◌∷◌, ◌++◌, length, refl, sym, ap, subst, ◌∙◌, inl, inr, arith}
use Rattle.std.specs.Prelude.{Option, None, Some, Result, IfOk, IfNone, Contains}
use Rattle.std.proofs.lemmas.Result.{IfOk-weaker}
use Rattle.mg_present.specs.Presentation.{Group}
use Rattle.mg_present.specs.Ask.{Inquiry}
use Rattle.mg_rules.specs.declared.meeting.Meeting.{Meeting}
use Rattle.mg_rules.specs.Rule.{Rule, Descends}
use Rattle.mg_rules.specs.First.{IsFirstDescendant}
use Rattle.mg_rules.specs.Meeting.{Meets}
use Rattle.mg_rules.specs.Listing.{ComesBefore}
use Rattle.mg_complete.specs.declared.desk.Settled.{Settled}
use Rattle.mg_complete.specs.declared.desk.Settled.TheVariants.{Joined, Added, Full}
use Rattle.mg_complete.specs.declared.going.Pause.{Pause}
use Rattle.mg_complete.specs.declared.going.Pause.TheVariants.{GoalsVanish, NothingLeft, UnitsSpent, WouldPass}
use Rattle.mg_complete.specs.declared.system.Passed.{Passed}
use Rattle.mg_complete.specs.declared.system.System.{System}
use Rattle.mg_complete.specs.declared.work.Work.{Work}
use Rattle.mg_complete.specs.Completion.{AllDone, IsDone, Vanish, first_equations}
use Rattle.mg_complete.specs.Turn.{NoRoom, Remains}
use Rattle.mg_complete.specs.Working.{Works, Grows, AllVanish, SameWork, Takes, spent_by}
use Rattle.mg_complete.specs.Beginning.{Begins}
use Rattle.mg_complete.specs.Going.{IsWhy, Advances, IsStep, Steps, Goes, IsBegun, Runs}
use Rattle.mg_complete.proofs.Growing.{done_cases, descends_still}
use Rattle.mg_complete.proofs.Starting.{works_same, works_more, grows_none, grows_on}
use Rattle.mg_complete.proofs.Begun.{all_descend_still}

-- ---- the same work

pub remains_same : (a b : Work) → SameWork a b → Remains a.ask a.system.rules → Remains b.ask b.system.rules
remains_same a b same h = subst (λ (q : Inquiry). Remains q b.system.rules) (sym same.ask) (subst (λ (s : System). Remains a.ask s.rules) (sym same.system) h)

pub vanish_same : (a b : Work) → SameWork a b → AllVanish a → AllVanish b
vanish_same a b same h goal asked =
    subst (λ (s : System). IsFirstDescendant s.rules goal []) (sym same.system) (h goal (subst (λ (q : Inquiry). Contains q.goals goal) same.ask asked))

-- ---- units

pub advances_none : (w : Work) (until : ℕ) → w.spent ≤ until → Advances w until w
advances_none w until most = record { grows = grows_none w w refl refl; least = omega arith; most = most; works = λ dealt works. works }

pub advances_same : (a b : Work) (until : ℕ) → SameWork a b → a.spent ≤ until → Advances a until b
advances_same a b until same most = record {
  grows = grows_none a b same.ask same.system;
  least = omega (arith, same.spent);
  most = omega (arith, same.spent, most);
  works = λ dealt works. works_same a b dealt same works;
}

pub advances_on : (a b c : Work) (until : ℕ) → Advances a until b → Advances b until c → Advances a until c
advances_on a b c until h k = record {
  grows = grows_on a b c h.grows k.grows;
  least = omega (arith, h.least, k.least);
  most = k.most;
  works = λ dealt works. k.works dealt (h.works dealt works);
}

spent_most : (settled : Settled) → spent_by settled ≤ 1
spent_most Joined = omega arith
spent_most Added = omega arith
spent_most (Full passed) = omega arith

pub advances_taken : (a b : Work) (settled : Settled) (until : ℕ) → Takes a settled b → a.spent < until → Advances a until b
advances_taken a b settled until t less = record {
  grows = t.grows;
  least = omega (arith, t.spent);
  most = let one = spent_most settled in omega (arith, t.spent, less, one);
  works = t.works;
}

-- ---- one step

-- each one comes no later than the last one where none comes behind it
pub all_done : (rules : List Rule) (last : Meeting) → ((m : Meeting) → Meets rules m → ComesBefore last m → ⊥) → AllDone rules last
all_done rules last none m meets =
    elim (done_cases last m) as (λ _. IsDone last m) [ inl done ↦ done | inr behind ↦ absurd (none m meets behind) ]

pub nothing_left : (w : Work) (until : ℕ) → w.spent ≤ until → Remains w.ask w.system.rules → ((m : Meeting) → Meets w.system.rules m → ComesBefore w.last m → ⊥) → Steps w until (Some NothingLeft) w
nothing_left w until most remains none = record { advances = advances_none w until most; step = (remains, all_done w.system.rules w.last none) }

pub units_spent : (w : Work) (until : ℕ) → w.spent ≤ until → until ≤ w.spent → Remains w.ask w.system.rules → Steps w until (Some UnitsSpent) w
units_spent w until most least remains = record { advances = advances_none w until most; step = (remains, omega (arith, most, least)) }

pub would_pass : (a b : Work) (settled : Settled) (passed : Passed) (until : ℕ) → settled ≡ Full passed → Takes a settled b → a.spent < until → Steps a until (Some (WouldPass passed)) b
would_pass a b settled passed until is t less =
    let k : Takes a (Full passed) b = subst (λ (s : Settled). Takes a s b) is t in record { advances = advances_taken a b (Full passed) until k less; step = k.full }

pub one_joined : (a b : Work) (settled : Settled) (until : ℕ) → settled ≡ Joined → Takes a settled b → a.spent < until → Remains a.ask a.system.rules → Steps a until None b
one_joined a b settled until is t less remains =
    let k : Takes a Joined b = subst (λ (s : Settled). Takes a s b) is t in record {
      advances = advances_taken a b Joined until k less;
      step = (
        subst (λ (q : Inquiry). Remains q b.system.rules) (sym k.grows.ask) (subst (λ (s : System). Remains a.ask s.rules) (sym k.alike) remains),
        k.spent,
      );
    }

pub one_added : (a b c : Work) (settled : Settled) (until : ℕ) → settled ≡ Added → Takes a settled b → a.spent < until → SameWork b c → Remains b.ask b.system.rules → Steps a until None c
one_added a b c settled until is t less same remains =
    let k : Takes a Added b = subst (λ (s : Settled). Takes a s b) is t in
    let h : Advances a until b = advances_taken a b Added until k less in record {
      advances = advances_on a b c until h (advances_same b c until same h.most);
      step = (remains_same b c same remains, same.spent ∙ k.spent);
    }

pub goals_vanish : (a b c : Work) (settled : Settled) (until : ℕ) → settled ≡ Added → Takes a settled b → a.spent < until → SameWork b c → AllVanish b → Steps a until (Some GoalsVanish) c
goals_vanish a b c settled until is t less same vanish =
    let k : Takes a Added b = subst (λ (s : Settled). Takes a s b) is t in
    let h : Advances a until b = advances_taken a b Added until k less in record {
      advances = advances_on a b c until h (advances_same b c until same h.most);
      step = vanish_same b c same vanish;
    }

-- ---- up to the reason

pub goes_at : (a b : Work) (until : ℕ) → SameWork a b → a.spent ≤ until → AllVanish a → Goes a until GoalsVanish b
goes_at a b until same most vanish = record { advances = advances_same a b until same most; why = vanish_same a b same vanish }

pub goes_so : (a b c : Work) (until : ℕ) (step : Option Pause) (pause : Pause) → step ≡ Some pause → Advances a until b → Steps b until step c → Goes a until pause c
goes_so a b c until step pause is h k =
    let why : IsStep b until (Some pause) c = subst (λ (s : Option Pause). IsStep b until s c) is k.step in
    record { advances = advances_on a b c until h k.advances; why = why }

pub still_remains : (b c : Work) (until : ℕ) (step : Option Pause) → step ≡ None → Steps b until step c → Remains c.ask c.system.rules × (c.spent ≡ b.spent + 1)
still_remains b c until step is k = subst (λ (s : Option Pause). IsStep b until s c) is k.step

-- ---- a turn up to its end

begun_of : (w : Work) (pause : Pause) → Vanish w.ask.group w.system.rules → IsBegun w pause
begun_of w GoalsVanish h = h
begun_of w NothingLeft h = h
begun_of w UnitsSpent h = h
begun_of w (WouldPass passed) h = tt

-- pairs and relators come to nothing by more rules
pub vanish_still : (a b : Work) → Grows a b → Vanish a.ask.group a.system.rules → Vanish b.ask.group b.system.rules
vanish_still a b g h =
    subst (λ (q : Inquiry). Vanish q.group b.system.rules) (sym g.ask) (subst (Vanish a.ask.group) (sym g.rules) (all_descend_still a.ask.group a.system.rules g.added h))

-- where a turn has ended More or Found
pub run_on : (a b : Work) (until : ℕ) (pause : Pause) → Works a (first_equations a.ask.group) → Vanish a.ask.group a.system.rules → Goes a until pause b → Runs a until pause b
run_on a b until pause works vanish h = record {
  grows = h.advances.grows;
  least = h.advances.least;
  most = h.advances.most;
  works = subst (λ (q : Inquiry). Works b (first_equations q.group)) (sym h.advances.grows.ask) (h.advances.works (first_equations a.ask.group) works);
  why = h.why;
  begun = begun_of b pause (vanish_still a b h.advances.grows vanish);
}

-- a search without rules has dealt with no equation
none_dealt : (w : Work) (dealt : ℕ) → w.system.rules ≡ [] → Works w dealt → Works w 0
none_dealt w dealt none works = record {
  alone = works.alone;
  system = works.system;
  done = works.done;
  few = let n : length w.system.rules ≡ 0 = ap length none in omega (arith, n);
}

begun_works : (a b : Work) (holds : List Rule → Type 0) (full : Option Passed) → a.system.rules ≡ [] → Works a (first_equations a.ask.group) → Begins a (first_equations a.ask.group) holds full b → Works b (first_equations b.ask.group)
begun_works a b holds full none works h =
    subst (λ (q : Inquiry). Works b (first_equations q.group)) (sym h.grows.ask)
    (let same : 0 + first_equations a.ask.group ≡ first_equations a.ask.group = omega arith in subst (Works b) same (h.works 0 (none_dealt a (first_equations a.ask.group) none works)))

-- where none has, and a pair or a relator would pass a limit
pub run_full : (a b : Work) (until : ℕ) (passed : Passed) → a.system.rules ≡ [] → a.spent ≤ until → Works a (first_equations a.ask.group)
    → Begins a (first_equations a.ask.group) (Vanish a.ask.group) (Some passed) b → Runs a until (WouldPass passed) b
run_full a b until passed none most works h = record {
  grows = h.grows;
  least = omega (arith, h.spent);
  most = omega (arith, h.spent, most);
  works = begun_works a b (Vanish a.ask.group) (Some passed) none works h;
  why = h.comes;
  begun = tt;
}

-- where none has, and units are taken
pub run_first : (a b c : Work) (until : ℕ) (pause : Pause) → a.system.rules ≡ [] → a.spent ≤ until → Works a (first_equations a.ask.group) → Begins a (first_equations a.ask.group) (Vanish a.ask.group) None b
    → Goes b until pause c → Runs a until pause c
run_first a b c until pause none most works h k =
    let vanish : Vanish b.ask.group b.system.rules = subst (λ (q : Inquiry). Vanish q.group b.system.rules) (sym h.grows.ask) h.comes in
    let r : Runs b until pause c = run_on b c until pause (begun_works a b (Vanish a.ask.group) None none works h) vanish k in record {
      grows = grows_on a b c h.grows r.grows;
      least = omega (arith, h.spent, r.least);
      most = r.most;
      works = r.works;
      why = r.why;
      begun = r.begun;
    }

-- ---- as the code goes

pub none_of : {X : Type 0} (found : Option X) (P : Type 0) → ((x : X) → found ≡ Some x → ⊥) → IfNone found P → P
none_of None P none h = h
none_of (Some x) P none h = absurd (none x refl)

no_pause : (step : Option Pause) → ((pause : Pause) → step ≡ Some pause → ⊥) → step ≡ None
no_pause None h = refl
no_pause (Some pause) h = absurd (h pause refl)

pub still_goes : (a b c : Work) (until : ℕ) (step : Option Pause) → ((pause : Pause) → step ≡ Some pause → ⊥) → Advances a until b → Steps b until step c
    → Advances a until c × Remains c.ask c.system.rules
still_goes a b c until step none h k = (advances_on a b c until h k.advances, (still_remains b c until step (no_pause step none) k).0)

no_limit : (full : Option Passed) → ((passed : Passed) → full ≡ Some passed → ⊥) → full ≡ None
no_limit None h = refl
no_limit (Some passed) h = absurd (h passed refl)

pub run_full_by : (a b : Work) (until : ℕ) (full : Option Passed) (passed : Passed) → full ≡ Some passed → a.system.rules ≡ [] → a.spent ≤ until → Works a (first_equations a.ask.group)
    → Begins a (first_equations a.ask.group) (Vanish a.ask.group) full b → Runs a until (WouldPass passed) b
run_full_by a b until full passed is none most works h =
    run_full a b until passed none most works (subst (λ (o : Option Passed). Begins a (first_equations a.ask.group) (Vanish a.ask.group) o b) is h)

pub run_first_by : {E : Type 0} (r : Result Pause E) (a b c : Work) (until : ℕ) (full : Option Passed) → ((passed : Passed) → full ≡ Some passed → ⊥) → a.system.rules ≡ [] → a.spent ≤ until
    → Works a (first_equations a.ask.group) → Begins a (first_equations a.ask.group) (Vanish a.ask.group) full b → IfOk r (λ pause. Goes b until pause c) → IfOk r (λ pause. Runs a until pause c)
run_first_by r a b c until full never none most works h =
    let begins : Begins a (first_equations a.ask.group) (Vanish a.ask.group) None b = subst (λ (o : Option Passed). Begins a (first_equations a.ask.group) (Vanish a.ask.group) o b) (no_limit full never) h in
    IfOk-weaker r _ _ (λ pause k. run_first a b c until pause none most works begins k)

pub run_on_by : {E : Type 0} (r : Result Pause E) (a b : Work) (until : ℕ) → Works a (first_equations a.ask.group) → Vanish a.ask.group a.system.rules
    → IfOk r (λ pause. Goes a until pause b) → IfOk r (λ pause. Runs a until pause b)
run_on_by r a b until works vanish = IfOk-weaker r _ _ (λ pause k. run_on a b until pause works vanish k)
