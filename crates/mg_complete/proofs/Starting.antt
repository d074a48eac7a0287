-- The pairs and the relators are dealt with, one after another.
use Rattle.std.proofs.Common.{◌≡◌, ℕ, zero, suc, ◌+◌, ◌≤◌, ℤ, List, [], ◌∷◌, ◌++◌, length, refl, sym, ap, subst, ◌∙◌, inl, inr, append_assoc, arith}
use Rattle.std.specs.Prelude.{None, Some, slice_get, Contains}
use Rattle.std.proofs.lemmas.List.{append-nil}
use Rattle.mg_words.specs.Letter.{IsLetterOf}
use Rattle.mg_present.specs.Presentation.{Group}
use Rattle.mg_present.specs.Ask.{Inquiry}
use Rattle.mg_rules.specs.Rule.{Rule, rule_numbered, Leads, Descends, HaveCommon, IsNormal}
use Rattle.mg_rules.specs.Shortlex.{IsSmaller, Decreases, AllDecrease}
use Rattle.std.specs.declared.cmp.Ordering.TheVariants.{Less, Equal}
use Rattle.mg_rules.specs.declared.meeting.Meeting.{Meeting}
use Rattle.mg_rules.specs.Meeting.{Meets}
use Rattle.mg_rulelog.specs.declared.moves.Move.{Move}
use Rattle.mg_complete.specs.declared.desk.Settled.{Settled}
use Rattle.mg_complete.specs.declared.desk.Settled.TheVariants.{Joined, Added, Full}
use Rattle.mg_complete.specs.declared.system.System.{System}
use Rattle.mg_complete.specs.declared.work.Work.{Work}
use Rattle.mg_complete.specs.Equations.{Equation, IsEquation, pair, relator, pair_equation, relator_equation}
use Rattle.mg_complete.specs.Completion.{AllGiven, before_all, Done}
use Rattle.mg_complete.specs.Turn.{NoRoom}
use Rattle.mg_complete.specs.Working.{Works, Grows, SameWork, Deals, IsCounted, IsSystem, on_desk}
use Rattle.mg_complete.specs.Beginning.{Begins, ComesTo, Vanishes, full_by}

pub works_more : (w : Work) (dealt more : ℕ) → dealt ≤ more → Works w dealt → Works w more
works_more w dealt more h k = record { alone = k.alone; system = k.system; done = k.done; few = omega (arith, h, k.few) }

-- the same work but for the desk
pub works_same : (v w : Work) (dealt : ℕ) → SameWork v w → Works v dealt → Works w dealt
works_same v w dealt same h = record {
  alone = subst (λ (a : Inquiry). a.subgroup ≡ []) (sym same.ask) h.alone;
  system = subst (λ (a : Inquiry). IsSystem a.group w.system) (sym same.ask) (subst (IsSystem v.ask.group) (sym same.system) h.system);
  done = subst (λ (s : System). Done s.rules w.last w.spent) (sym same.system)
      (subst (λ l. Done v.system.rules l w.spent) (sym same.last) (subst (Done v.system.rules v.last) (sym same.spent) h.done));
  few = subst (λ (s : System). length s.rules ≤ dealt + w.spent) (sym same.system) (subst (λ n. length v.system.rules ≤ dealt + n) (sym same.spent) h.few);
}

pub grows_none : (before after : Work) → after.ask ≡ before.ask → after.system ≡ before.system → Grows before after
grows_none before after ask system = record {
  ask = ask;
  added = [];
  rules = ap (λ (s : System). s.rules) system ∙ sym (append-nil before.system.rules);
  added_reasons = [];
  reasons = ap (λ (s : System). s.reasons) system ∙ sym (append-nil before.system.reasons);
}

pub grows_on : (before mid after : Work) → Grows before mid → Grows mid after → Grows before after
grows_on before mid after g h = record {
  ask = h.ask ∙ g.ask;
  added = g.added ++ h.added;
  rules = h.rules ∙ (ap (λ (r : List Rule). r ++ h.added) g.rules ∙ append_assoc before.system.rules g.added h.added);
  added_reasons = g.added_reasons ++ h.added_reasons;
  reasons = h.reasons ∙ (ap (λ (r : List (List Move)). r ++ h.added_reasons) g.reasons ∙ append_assoc before.system.reasons g.added_reasons h.added_reasons);
}

-- ---- the empty word is normal

none_smaller : (u : List ℤ) → IsSmaller u [] → ⊥
none_smaller u (inl h) = omega arith
none_smaller [] (inr h) = let no : Equal ≡ Less = h.1 in cc
none_smaller (x ∷ u) (inr h) = let e : length (x ∷ u) ≡ 0 = h.0 in omega arith

rule_at : (rules : List Rule) (n : ℕ) (rule : Rule) → AllDecrease rules → slice_get rules n ≡ Some rule → Decreases rule
rule_at [] n rule all e = absurd (let no : None ≡ Some rule = e in cc)
rule_at (r ∷ rules) zero rule all e = let same : r ≡ rule = cc in subst Decreases same all.0
rule_at (r ∷ rules) (suc n) rule all e = rule_at rules n rule all.1 e

numbered_decreases : (rules : List Rule) (number : ℕ) (rule : Rule) → AllDecrease rules → rule_numbered rules number ≡ Some rule → Decreases rule
numbered_decreases rules zero rule all e = absurd (let no : None ≡ Some rule = e in cc)
numbered_decreases rules (suc n) rule all e = rule_at rules n rule all e

front_empty : (a b : List ℤ) → a ++ b ≡ [] → a ≡ []
front_empty [] b e = refl
front_empty (x ∷ a) b e = absurd (let n : length (x ∷ (a ++ b)) ≡ 0 = ap length e in omega arith)

back_empty : (a b : List ℤ) → a ++ b ≡ [] → b ≡ []
back_empty [] b e = e
back_empty (x ∷ a) b e = absurd (let n : length (x ∷ (a ++ b)) ≡ 0 = ap length e in omega arith)

normal_empty : (rules : List Rule) → AllDecrease rules → IsNormal rules []
normal_empty rules decrease at =
    let middle : at.rule.left ++ at.behind ≡ [] = back_empty at.before (at.rule.left ++ at.behind) (sym at.stands) in
    let left : at.rule.left ≡ [] = front_empty at.rule.left at.behind middle in
    none_smaller at.rule.right (subst (IsSmaller at.rule.right) left (numbered_decreases rules at.number at.rule decrease at.numbered))

to_nothing : (rules : List Rule) (w : List ℤ) → AllDecrease rules → Descends rules [] w → w ≡ []
to_nothing rules w decrease h = from h.0 h.1
  where
    from : (words : List (List ℤ)) → Leads rules [] words w → w ≡ []
    from [] e = sym e
    from (x ∷ words) l = absurd (normal_empty rules decrease l.0.at)

common_nothing : (rules : List Rule) (u v : List ℤ) → AllDecrease rules → v ≡ [] → HaveCommon rules u v → Descends rules u []
common_nothing rules u v decrease e h =
    let end : h.0 ≡ [] = to_nothing rules h.0 decrease (subst (λ (t : List ℤ). Descends rules t h.0) e h.2) in
    subst (Descends rules u) end h.1

-- ---- no rule yet

no_meets : (m : Meeting) → Meets [] m → ⊥
no_meets m h = no_rule m.first h.first h.first_numbered
  where
    no_rule : (number : ℕ) (rule : Rule) → rule_numbered [] number ≡ Some rule → ⊥
    no_rule zero rule e = absurd (let no : None ≡ Some rule = e in cc)
    no_rule (suc n) rule e = absurd (let no : None ≡ Some rule = e in cc)

-- nothing is done of no rules
pub none_done : Done [] before_all 0
none_done = record {
  there = inl refl;
  list = [];
  ordered = tt;
  only = λ m h. absurd (nothing m h);
  each = λ m meets done. absurd (no_meets m meets);
  many = refl;
  joined = λ m h. absurd (nothing m h);
  ranks = λ m other h. absurd (nothing m h);
}
  where
    nothing : (m : Meeting) → Contains [] m → ⊥
    nothing m h = absurd (omega (arith, h.1))

-- a search that has no rule yet
pub first_works : (w : Work) → w.ask.subgroup ≡ [] → w.system.rules ≡ [] → w.system.reasons ≡ [] → IsCounted w.system → w.last ≡ before_all → w.spent ≡ 0 → Works w 0
first_works w alone rules reasons counted last spent = record {
  alone = alone;
  system = record {
    counted = counted;
    given = subst (λ (r : List Rule). AllGiven w.ask.group r w.system.reasons) (sym rules) none_given;
    decrease = subst AllDecrease (sym rules) tt;
  };
  done = subst (λ (r : List Rule). Done r w.last w.spent) (sym rules)
      (subst (λ (m : Meeting). Done [] m w.spent) (sym last) (subst (λ n. Done [] before_all n) (sym spent) none_done));
  few = let n : length w.system.rules ≡ 0 = ap length rules in omega arith;
}
  where
    none_given : AllGiven w.ask.group [] w.system.reasons
    none_given place rule moves at = absurd (let no : None ≡ Some rule = at in cc)

-- ---- one equation

pub is_pair : (group : Group) (rules : List Rule) (e : Equation) (x : ℤ) → IsLetterOf group.generators x → e ≡ pair_equation x → IsEquation group rules e
is_pair group rules e x letter is = pair x letter is

pub is_relator : (group : Group) (rules : List Rule) (e : Equation) (place : ℕ) (word : List ℤ) → slice_get group.relators place ≡ Some word → e ≡ relator_equation (place + 1) word
    → IsEquation group rules e
is_relator group rules e place word at is = let one : place + 1 ≡ suc place = omega arith in relator (suc place) word at (subst (λ n. e ≡ relator_equation n word) one is)

grown : (e : Equation) (before : Work) (settled : Settled) (after : Work) → Deals e before settled after → Grows before after
grown e before Joined after d = grows_none before after d.ask d.settles.0
grown e before Added after d = record {
  ask = d.ask;
  added = d.settles.0 ∷ [];
  rules = d.settles.1.rules;
  added_reasons = d.settles.1.moves ∷ [];
  reasons = d.settles.1.reasons;
}
grown e before (Full passed) after d = grows_none before after d.ask d.settles.0

come : (e : Equation) (before : Work) (settled : Settled) (after : Work) → AllDecrease before.system.rules → e.other ≡ [] → Deals e before settled after
    → ComesTo (Vanishes e.one) (full_by settled) after
come e before Joined after decrease other d =
    subst (λ (s : System). Descends s.rules e.one []) (sym d.settles.0) (common_nothing before.system.rules e.one e.other decrease other d.settles.1)
come e before Added after decrease other d = common_nothing after.system.rules e.one e.other d.settles.1.system.decrease other d.settles.2
come e before (Full passed) after decrease other d =
    subst (λ (a : Inquiry). NoRoom a.group after.system.rules after.system.reasons passed.what passed.count) (sym d.ask)
    (subst (λ (s : System). NoRoom before.ask.group s.rules s.reasons passed.what passed.count) (sym d.settles.0) d.settles.1)

-- an equation that was put on the desk is dealt with
pub dealt_with : (before placed : Work) (settled : Settled) (after : Work) (e : Equation) → SameWork before placed → on_desk placed.desk ≡ e → e.other ≡ [] → AllDecrease before.system.rules
    → Deals (on_desk placed.desk) placed settled after → Begins before 1 (Vanishes e.one) (full_by settled) after
dealt_with before placed settled after e same is other decrease deals =
    let d : Deals e placed settled after = subst (λ (t : Equation). Deals t placed settled after) is deals in
    record {
      grows = grows_on before placed after (grows_none before placed same.ask same.system) (grown e placed settled after d);
      last = d.last ∙ same.last;
      spent = d.spent ∙ same.spent;
      works = λ dealt works. d.works dealt (works_same before placed dealt same works);
      comes = come e placed settled after (subst (λ (s : System). AllDecrease s.rules) (sym same.system) decrease) other d;
    }
