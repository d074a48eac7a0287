-- One equation, and one unit: what a turn works with holds after it.
use Rattle.std.proofs.Common.{◌≡◌, ℕ, ◌+◌, ℤ, List, [], ◌∷◌, ◌++◌, length, refl, sym, ap, subst, ◌∙◌, arith}
use Rattle.std.specs.Prelude.{Result, IfOk}
use Rattle.std.proofs.lemmas.List.{append-nil, length-append}
use Rattle.std.proofs.lemmas.Result.{IfOk-weaker}
use Rattle.mg_present.specs.Presentation.{Group}
use Rattle.mg_rules.specs.declared.meeting.Meeting.{Meeting}
use Rattle.mg_rules.specs.Rule.{Rule, HaveCommon}
use Rattle.mg_rules.specs.Meeting.{Results}
use Rattle.mg_rules.specs.Listing.{IsNext}
use Rattle.mg_complete.specs.declared.desk.Desk.{Desk}
use Rattle.mg_complete.specs.declared.desk.Settled.{Settled}
use Rattle.mg_complete.specs.declared.desk.Settled.TheVariants.{Joined, Added, Full}
use Rattle.mg_complete.specs.declared.system.Passed.{Passed}
use Rattle.mg_complete.specs.declared.system.System.{System}
use Rattle.mg_complete.specs.declared.work.Work.{Work}
use Rattle.mg_complete.specs.Equations.{Equation, IsEquation, meeting, meeting_equation}
use Rattle.mg_complete.specs.Completion.{Done, Joins}
use Rattle.mg_complete.specs.Turn.{NoRoom}
use Rattle.mg_complete.specs.Working.{AddsRule, Settles, Works, Grows, Deals, Takes}
use Rattle.mg_complete.proofs.Growing.{joins_by, done_more, next_more, done_next}

-- ---- one equation

abbrev with_system : Work → System → Desk → Work
with_system w system desk = record { ask = w.ask; system = system; desk = desk; last = w.last; spent = w.spent; goal = w.goal }

same_works : (w : Work) (system : System) (desk : Desk) (dealt : ℕ) → system ≡ w.system → Works w dealt → Works (with_system w system desk) dealt
same_works w system desk dealt same works =
    subst (λ (s : System). Works (with_system w s desk) dealt) (sym same) (record { alone = works.alone; system = works.system; done = works.done; few = works.few })

more_dealt : (w : Work) (dealt : ℕ) → Works w dealt → Works w (dealt + 1)
more_dealt w dealt works = record { alone = works.alone; system = works.system; done = works.done; few = let few = works.few in omega (arith, few) }

added_works : (w : Work) (system : System) (desk : Desk) (rule : Rule) (dealt : ℕ) → AddsRule w.ask.group w.system rule system → Works w dealt → Works (with_system w system desk) (dealt + 1)
added_works w system desk rule dealt a works = record {
  alone = works.alone;
  system = a.system;
  done = subst (λ (t : List Rule). Done t w.last w.spent) (sym a.rules) (done_more w.system.rules (rule ∷ []) w.last w.spent works.done);
  few = let few = works.few in omega (arith, few, ap length a.rules, length-append w.system.rules (rule ∷ []));
}

settled_works : (w : Work) (e : Equation) (settled : Settled) (system : System) (desk : Desk) (dealt : ℕ) → Settles w.ask.group e w.system settled system → Works w dealt
    → Works (with_system w system desk) (dealt + 1)
settled_works w e Joined system desk dealt h works = more_dealt (with_system w system desk) dealt (same_works w system desk dealt h.0 works)
settled_works w e Added system desk dealt h works = added_works w system desk h.0 dealt h.1 works
settled_works w e (Full passed) system desk dealt h works = more_dealt (with_system w system desk) dealt (same_works w system desk dealt h.0 works)

pub deals_so : {E : Type 0} (r : Result Settled E) (w : Work) (group : Group) (e : Equation) (system : System) (desk : Desk) → group ≡ w.ask.group
    → IfOk r (λ settled. Settles group e w.system settled system) → IfOk r (λ settled. Deals e w settled (with_system w system desk))
deals_so r w group e system desk same h =
    IfOk-weaker r _ _ (λ settled k.
    let settles : Settles w.ask.group e w.system settled system = subst (λ (g : Group). Settles g e w.system settled system) same k in
    record { ask = refl; last = refl; spent = refl; settles = settles; works = λ dealt works. settled_works w e settled system desk dealt settles works }) h

-- ---- one unit

-- the equation on the desk is one of the rules
pub meeting_is : (group g : Group) (rules : List Rule) (m : Meeting) (e : Equation) → g ≡ group → (u : List ℤ) × (v : List ℤ) × Results rules m u v × (e ≡ meeting_equation m u v) → IsEquation g rules e
meeting_is group g rules m e same h = meeting m h.0 h.1 h.2 h.3

abbrev taken : Work → System → Desk → Meeting → Work
taken w system desk next = record { ask = w.ask; system = system; desk = desk; last = next; spent = w.spent + 1; goal = w.goal }

same_grows : (w w' : Work) → w'.ask ≡ w.ask → w'.system ≡ w.system → Grows w w'
same_grows w w' ask same = record {
  ask = ask;
  added = [];
  rules = ap (λ (s : System). s.rules) same ∙ sym (append-nil w.system.rules);
  added_reasons = [];
  reasons = ap (λ (s : System). s.reasons) same ∙ sym (append-nil w.system.reasons);
}

pub full_taken : (w : Work) (group : Group) (e : Equation) (system : System) (desk : Desk) (settled : Settled) (passed : Passed) → group ≡ w.ask.group → settled ≡ Full passed
    → Settles group e w.system settled system → Takes w settled (with_system w system desk)
full_taken w group e system desk settled passed same is h =
    let k : Settles w.ask.group e w.system (Full passed) system = subst (λ (t : Settled). Settles w.ask.group e w.system t system) is (subst (λ (g : Group). Settles g e w.system settled system) same h) in
    subst (λ (t : Settled). Takes w t (with_system w system desk)) (sym is) (record {
      grows = same_grows w (with_system w system desk) refl k.0;
      spent = omega arith;
      works = λ dealt works. same_works w system desk dealt k.0 works;
      full = subst (λ (s : System). NoRoom w.ask.group s.rules s.reasons passed.what passed.count) (sym k.0) k.1;
      alike = k.0;
    })

joined_works : (w : Work) (desk : Desk) (next : Meeting) (dealt : ℕ) → IsNext w.system.rules w.last next → Joins w.system.rules next → Works w dealt → Works (taken w w.system desk next) dealt
joined_works w desk next dealt step joins works = record {
  alone = works.alone;
  system = works.system;
  done = done_next w.system.rules w.last next w.spent works.done step joins;
  few = let few = works.few in omega (arith, few);
}

unit_added : (w : Work) (system : System) (desk : Desk) (next : Meeting) (rule : Rule) (dealt : ℕ) → IsNext w.system.rules w.last next → AddsRule w.ask.group w.system rule system
    → Joins (w.system.rules ++ rule ∷ []) next → Works w dealt → Works (taken w system desk next) dealt
unit_added w system desk next rule dealt step a joins works = record {
  alone = works.alone;
  system = a.system;
  done = subst (λ (t : List Rule). Done t next (w.spent + 1)) (sym a.rules)
      (done_next (w.system.rules ++ rule ∷ []) w.last next w.spent (done_more w.system.rules (rule ∷ []) w.last w.spent works.done) (next_more w.system.rules (rule ∷ []) w.last next step) joins);
  few = let few = works.few in omega (arith, few, ap length a.rules, length-append w.system.rules (rule ∷ []));
}

pub unit_taken : (w : Work) (group : Group) (e : Equation) (system : System) (desk : Desk) (next : Meeting) (settled : Settled) → group ≡ w.ask.group → ((passed : Passed) → settled ≡ Full passed → ⊥)
    → IsNext w.system.rules w.last next → (u : List ℤ) × (v : List ℤ) × Results w.system.rules next u v × (e ≡ meeting_equation next u v)
    → Settles group e w.system settled system → Takes w settled (taken w system desk next)
unit_taken w group e system desk next (Full passed) same room step met h = absurd (room passed refl)
unit_taken w group e system desk next Joined same room step met h = record {
  grows = same_grows w (taken w system desk next) refl h.0;
  spent = refl;
  works = λ dealt works. subst (λ (s : System). Works (taken w s desk next) dealt) (sym h.0) (joined_works w desk next dealt step joins works);
  full = tt;
  alike = h.0;
}
  where
    common : HaveCommon w.system.rules met.0 met.1
    common = subst (λ (t : Equation). HaveCommon w.system.rules t.one t.other) met.3 h.1

    joins : Joins w.system.rules next
    joins = subst (λ (t : List Rule). Joins t next) (append-nil w.system.rules)
        (joins_by w.system.rules [] next met.0 met.1 met.2 (subst (λ (t : List Rule). HaveCommon t met.0 met.1) (sym (append-nil w.system.rules)) common))
unit_taken w group e system desk next Added same room step met h = record {
  grows = record { ask = refl; added = h.0 ∷ []; rules = h.1.rules; added_reasons = h.1.moves ∷ []; reasons = h.1.reasons };
  spent = refl;
  works = λ dealt works. unit_added w system desk next h.0 dealt step (subst (λ (g : Group). AddsRule g w.system h.0 system) same h.1) joins works;
  full = tt;
  alike = tt;
}
  where
    common : HaveCommon (w.system.rules ++ h.0 ∷ []) met.0 met.1
    common = subst (λ (t : List Rule). HaveCommon t met.0 met.1) h.1.rules (subst (λ (t : Equation). HaveCommon system.rules t.one t.other) met.3 h.2)

    joins : Joins (w.system.rules ++ h.0 ∷ []) next
    joins = joins_by w.system.rules (h.0 ∷ []) next met.0 met.1 met.2 common
