-- Where no overlap or inclusion is left the rules are complete, and refute a goal that remains.
use Rattle.std.proofs.Common.{◌≡◌, ◌≢◌, ℕ, ◌<◌, ℤ, List, [], ◌++◌, length, refl, sym, ap, subst, ◌∙◌, inl, inr}
use Rattle.std.specs.Prelude.{Option, Some, Contains, slice_index_or}
use Rattle.std.proofs.lemmas.List.{get_or_default}
use Rattle.mg_present.specs.Presentation.{IsPresented}
use Rattle.mg_present.specs.Ask.{Inquiry}
use Rattle.mg_rules.specs.declared.meeting.Meeting.{Meeting}
use Rattle.mg_rules.specs.Rule.{Rule, rule_numbered, Descends, HaveCommon}
use Rattle.mg_rules.specs.Meeting.{Overlaps, Includes, Meets, Results, AllJoin}
use Rattle.mg_rules.specs.Complete.{IsComplete, Refutes}
use Rattle.mg_certs.specs.Claim.{complete, refuted, Fact}
use Rattle.mg_certs.specs.Refuting.{RefutesNone, IsFirstRefuted, IsLeastRefuted, PublishesNo, no_and_model}
use Rattle.mg_complete.specs.declared.work.Work.{Work}
use Rattle.mg_complete.specs.Completion.{AllDone, Vanish, Done}
use Rattle.mg_complete.specs.Turn.{Remains}
use Rattle.mg_complete.specs.Working.{Works}
use Rattle.mg_complete.proofs.Showing.{all_over}

pub joins_at : (rules : List Rule) (last : Meeting) (spent : ℕ) → Done rules last spent → AllDone rules last → (m : Meeting) (u v : List ℤ) → Meets rules m → Results rules m u v → HaveCommon rules u v
joins_at rules last spent done all m u v meets results = done.joined m (done.each m meets (all m meets)) u v results

-- all overlaps and inclusions are joined
pub all_join : (rules : List Rule) (last : Meeting) (spent : ℕ) → Done rules last spent → AllDone rules last → AllJoin rules
all_join rules last spent done all = record {
  overlaps = λ i j place first second e f o.
      joins_at rules last spent done all (record { first = i; second = j; place = place }) (first.right ++ o.c) (o.a ++ second.right)
      (record { first = first; second = second; first_numbered = e; second_numbered = f; meet = inl o })
      (record { first = first; second = second; first_numbered = e; second_numbered = f; give = inl (record { at = o; one = refl; other = refl }) });
  inclusions = λ i j place first second e f apart o.
      joins_at rules last spent done all (record { first = i; second = j; place = place }) first.right (o.a ++ (second.right ++ o.c))
      (record { first = first; second = second; first_numbered = e; second_numbered = f; meet = inr (apart, o) })
      (record { first = first; second = second; first_numbered = e; second_numbered = f; give = inr (apart, record { at = o; one = refl; other = refl }) });
}

pub work_complete : (w : Work) (dealt : ℕ) → IsPresented w.ask.group → Works w dealt → Vanish w.ask.group w.system.rules → AllDone w.system.rules w.last → IsComplete w.ask.group w.system.rules
work_complete w dealt fits works vanish all = record {
  over = all_over w.ask.group w.system.rules w.system.reasons fits works.system.counted.paired works.system.given;
  decrease = works.system.decrease;
  join = all_join w.system.rules w.last w.spent works.done all;
  pairs = vanish.pairs;
  relators = vanish.relators;
}

-- a goal that remains is refuted
pub some_refuted : (ask : Inquiry) (rules : List Rule) → IsComplete ask.group rules → ask.subgroup ≡ [] → Remains ask rules → RefutesNone ask (complete rules) → ⊥
some_refuted ask rules whole alone r none = none r.asked.0 (record {
  complete = whole;
  alone = alone;
  there = r.asked.1;
  remains = r.rest;
  descends = subst (λ (t : List ℤ). Descends rules t r.rest) (at_place r.asked.0 ask.goals r.asked.1 r.asked.2) r.descends;
  normal = r.normal;
  some = r.some;
})
  where
    at_place : (k : ℕ) (goals : List (List ℤ)) → k < length goals → slice_index_or goals k r.goal ≡ r.goal → r.goal ≡ slice_index_or goals k []
    at_place k goals within e = sym e ∙ get_or_default goals k r.goal [] within

pub no_published : (ask : Inquiry) (rules copied : List Rule) (found : Option ℕ) (goal : ℕ) (records : List Fact) → copied ≡ rules → IsFirstRefuted ask (complete copied) found → found ≡ Some goal
    → records ≡ no_and_model ask goal (complete copied) → PublishesNo ask (complete rules) records
no_published ask rules copied found goal records same first is are =
    let least : IsLeastRefuted ask (complete copied) goal = subst (IsFirstRefuted ask (complete copied)) is first in
    subst (λ (t : List Rule). PublishesNo ask (complete t) records) same (record { goal = goal; refutes = least.refutes; least = least.least; records_are = are })
