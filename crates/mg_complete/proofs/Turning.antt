-- What a search keeps, and what a turn makes of it.
use Rattle.std.proofs.Common.{◌≡◌, ℕ, ◌+◌, ◌-◌, ◌<◌, ◌≤◌, Bool, true, false, true≢false, List, [], ◌∷◌, ◌++◌, length, refl, sym, ap, subst, ◌∙◌, inl, inr, lit≤, arith}
use Rattle.std.specs.Prelude.{◌⊎◌, Option, None, Some, slice_get}
use Rattle.mg_turn.specs.declared.outcome.Outcome.{Outcome}
use Rattle.mg_turn.specs.declared.outcome.TurnEnd.{TurnEnd}
use Rattle.mg_turn.specs.declared.outcome.TurnEnd.TheVariants.{More, Found, Closed, Idle, Stopped, Full}
use Rattle.mg_turn.specs.Turn.{goes_on}
use Rattle.mg_turn.specs.Stops.{StopsBy}
use Rattle.mg_present.specs.Presentation.{Group}
use Rattle.mg_present.specs.Ask.{Inquiry, IsAsked}
use Rattle.mg_rules.specs.Rule.{Rule}
use Rattle.mg_rulelog.specs.declared.moves.Move.{Move}
use Rattle.mg_certs.specs.Claim.{Fact, complete}
use Rattle.mg_certs.specs.Refuting.{PublishesNo}
use Rattle.mg_complete.specs.declared.going.Pause.{Pause}
use Rattle.mg_complete.specs.declared.system.System.{System}
use Rattle.mg_complete.specs.declared.work.Work.{Work}
use Rattle.mg_complete.specs.Completion.{Completion, IsKept, Vanish, AllGiven, first_equations}
use Rattle.mg_complete.specs.Publishing.{PublishesYes}
use Rattle.mg_complete.specs.Turn.{NoRoom, LongLog, Remains, CompletionEnd, CompletionTurn, has_begun}
use Rattle.mg_complete.specs.Working.{Works, Grows, SameWork, IsSystem}
use Rattle.mg_complete.specs.Going.{Runs}
use Rattle.mg_complete.specs.Ending.{EndsSo}
use Rattle.mg_complete.specs.Holding.{IsWorkOf, IsHeld, search_of}
use Rattle.mg_complete.proofs.Starting.{none_done, works_same, grows_none, grows_on}
use Rattle.mg_complete.proofs.Advancing.{vanish_still}

-- ---- what is kept

none_given : (group : Group) → AllGiven group [] []
none_given group place rule moves at there = absurd (let never : None ≡ Some rule = at in cc)

pub held_kept : (ask : Inquiry) (work : Option Work) (is_open begun : Bool) → IsAsked ask → IsHeld ask work is_open begun → IsKept (search_of ask work is_open begun)
held_kept ask None is_open begun asked alone = record {
  asked = asked;
  alone = alone;
  paired = refl;
  given = none_given ask.group;
  within = record { count = lit≤ tt; lefts = tt; letters = lit≤ tt; moves = lit≤ tt };
  done = none_done;
  few = omega arith;
  begun = λ e. absurd (true≢false (sym e));
  unbegun = λ e o. refl;
}
held_kept ask (Some w) is_open begun asked held =
    let system : IsSystem ask.group w.system = subst (λ (q : Inquiry). IsSystem q.group w.system) held.ask_is held.works.system in record {
      asked = asked;
      alone = subst (λ (q : Inquiry). q.subgroup ≡ []) held.ask_is held.works.alone;
      paired = system.counted.paired;
      given = system.given;
      within = system.counted.within;
      done = held.works.done;
      few = held.works.few;
      begun = held.vanish;
      unbegun = held.fresh;
    }

pub held_alone : (ask : Inquiry) (w : Work) (is_open begun : Bool) → IsWorkOf ask w is_open begun → ask.subgroup ≡ []
held_alone ask w is_open begun held = subst (λ (q : Inquiry). q.subgroup ≡ []) held.ask_is held.works.alone

-- ---- how a turn ends

pub on_same : (P : Inquiry → System → Type 0) (a b : Work) → SameWork a b → P a.ask a.system → P b.ask b.system
on_same P a b same h = subst (λ (q : Inquiry). P q b.system) (sym same.ask) (subst (λ (s : System). P a.ask s) (sym same.system) h)

pub ends_same : (a b : Work) (until : ℕ) (end : TurnEnd Fact) → SameWork a b → EndsSo a until end → EndsSo b until end
ends_same a b until More same h = (on_same (λ q s. Vanish q.group s.rules) a b same h.0, on_same (λ q s. Remains q s.rules) a b same h.1, same.spent ∙ h.2)
ends_same a b until (Found records) same h = (
  on_same (λ q s. Vanish q.group s.rules) a b same h.0,
  on_same (λ q s. PublishesYes q s.rules s.reasons records ⊎ PublishesNo q (complete s.rules) records) a b same h.1,
)
ends_same a b until (Full what count) same h = on_same (λ q s. NoRoom q.group s.rules s.reasons what count ⊎ LongLog q s.rules s.reasons what count) a b same h
ends_same a b until (Closed records) same h = h
ends_same a b until Idle same h = h
ends_same a b until (Stopped seen) same h = h

pub ends_unstopped : (w : Work) (until : ℕ) (end : TurnEnd Fact) (known : Option Fact) → EndsSo w until end → StopsBy end known
ends_unstopped w until More known h = tt
ends_unstopped w until (Found records) known h = tt
ends_unstopped w until (Full what count) known h = tt
ends_unstopped w until (Closed records) known h = absurd h
ends_unstopped w until Idle known h = absurd h
ends_unstopped w until (Stopped seen) known h = absurd h

-- ---- a turn

runs_same : (before mid after : Work) (until : ℕ) (pause : Pause) → Runs before until pause mid → SameWork mid after → Grows before after
runs_same before mid after until pause r same = grows_on before mid after r.grows (grows_none mid after same.ask same.system)

ends_vanish : (ask : Inquiry) (w : Work) (until : ℕ) (begun : Bool) (end : TurnEnd Fact) → w.ask ≡ ask → EndsSo w until end → (begun ≡ true → Vanish ask.group w.system.rules) → has_begun begun end ≡ true
    → Vanish ask.group w.system.rules
ends_vanish ask w until begun More is h old e = subst (λ (q : Inquiry). Vanish q.group w.system.rules) is h.0
ends_vanish ask w until begun (Found records) is h old e = subst (λ (q : Inquiry). Vanish q.group w.system.rules) is h.0
ends_vanish ask w until begun (Full what count) is h old e = old e
ends_vanish ask w until begun (Closed records) is h old e = absurd h
ends_vanish ask w until begun Idle is h old e = absurd h
ends_vanish ask w until begun (Stopped seen) is h old e = absurd h

ends_fresh : (w : Work) (until : ℕ) (begun : Bool) (end : TurnEnd Fact) → EndsSo w until end → has_begun begun end ≡ false → goes_on end ≡ true → w.system.rules ≡ []
ends_fresh w until begun More h e o = absurd (true≢false e)
ends_fresh w until begun (Found records) h e o = absurd (true≢false e)
ends_fresh w until begun (Full what count) h e o = absurd (true≢false (sym o))
ends_fresh w until begun (Closed records) h e o = absurd h
ends_fresh w until begun Idle h e o = absurd h
ends_fresh w until begun (Stopped seen) h e o = absurd h

-- what a turn leaves is held
pub turn_held : (ask : Inquiry) (before mid after : Work) (until : ℕ) (is_open begun goes more : Bool) (pause : Pause) (end : TurnEnd Fact) → IsWorkOf ask before is_open begun → Runs before until pause mid
    → SameWork mid after → EndsSo after until end → goes ≡ goes_on end → more ≡ has_begun begun end → IsWorkOf ask after goes more
turn_held ask before mid after until is_open begun goes more pause end held runs same ends goes_is more_is =
    let grows = runs_same before mid after until pause runs same in
    let is : after.ask ≡ ask = grows.ask ∙ held.ask_is in
    let old : begun ≡ true → Vanish ask.group after.system.rules = λ e. subst (λ (q : Inquiry). Vanish q.group after.system.rules) is
    (vanish_still before after grows (subst (λ (q : Inquiry). Vanish q.group before.system.rules) (sym held.ask_is) (held.vanish e))) in record {
      ask_is = is;
      works = subst (λ (q : Inquiry). Works after (first_equations q.group)) (sym same.ask ∙ is) (works_same mid after (first_equations mid.ask.group) same runs.works);
      vanish = λ e. ends_vanish ask after until begun end is ends old (sym more_is ∙ e);
      fresh = λ e o. ends_fresh after until begun end ends (sym more_is ∙ e) (sym goes_is ∙ o);
    }

ends_so : (ask : Inquiry) (search : Completion) (before after : Work) (units spent : ℕ) (goes more : Bool) (end : TurnEnd Fact) → after.ask ≡ ask → spent ≡ after.spent - before.spent
    → EndsSo after (before.spent + units) end → CompletionEnd search (search_of ask (Some after) goes more) units spent end
ends_so ask search before after units spent goes more More is s h = (omega (arith, s, h.2), subst (λ (q : Inquiry). Remains q after.system.rules) is h.1)
ends_so ask search before after units spent goes more (Found records) is s h =
    subst (λ (q : Inquiry). PublishesYes q after.system.rules after.system.reasons records ⊎ PublishesNo q (complete after.system.rules) records) is h.1
ends_so ask search before after units spent goes more (Full what count) is s h =
    subst (λ (q : Inquiry). NoRoom q.group after.system.rules after.system.reasons what count ⊎ LongLog q after.system.rules after.system.reasons what count) is h
ends_so ask search before after units spent goes more (Closed records) is s h = h
ends_so ask search before after units spent goes more Idle is s h = h
ends_so ask search before after units spent goes more (Stopped seen) is s h = absurd h

pub turn_made : (ask : Inquiry) (before mid after : Work) (units : ℕ) (is_open begun goes more : Bool) (pause : Pause) (outcome : Outcome Fact) → IsAsked ask → IsWorkOf ask before is_open begun
    → Runs before (before.spent + units) pause mid → SameWork mid after → EndsSo after (before.spent + units) outcome.end → outcome.spent ≡ after.spent - before.spent → goes ≡ goes_on outcome.end
    → more ≡ has_begun begun outcome.end → CompletionTurn (search_of ask (Some before) is_open begun) units outcome (search_of ask (Some after) goes more)
turn_made ask before mid after units is_open begun goes more pause outcome asked held runs same ends spent_is goes_is more_is =
    let grows = runs_same before mid after (before.spent + units) pause runs same in
    let is : after.ask ≡ ask = grows.ask ∙ held.ask_is in
    let least = runs.least in
    let most = runs.most in
    let at = same.spent in record {
      within = omega (arith, spent_is, least, most, at);
      ask = refl;
      added = grows.added;
      rules = grows.rules;
      added_reasons = grows.added_reasons;
      reasons = grows.reasons;
      spent = omega (arith, spent_is, least, at);
      openness = goes_is;
      begun = more_is;
      kept = held_kept ask (Some after) goes more asked (turn_held ask before mid after (before.spent + units) is_open begun goes more pause outcome.end held runs same ends goes_is more_is);
      end = ends_so ask (search_of ask (Some before) is_open begun) before after units outcome.spent goes more outcome.end is spent_is ends;
    }
