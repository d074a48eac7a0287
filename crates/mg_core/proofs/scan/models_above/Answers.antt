use Rattle.std.proofs.Common.{◌≡◌, ◌≢◌, ℕ, ◌+◌, ◌≤◌, ◌⊎◌, inl, inr, ◌∷◌, [], ◌++◌, length, Some, ap, sym, ◌∙◌, subst, refl, rules, arith}
use Rattle.std.proofs.lemmas.Option.{slice_get-get_or}
use Rattle.std.proofs.Math.ListN.{drop_of_length-le}
use Rattle.mg_core.specs.declared.entries.Facts.{Facts}
use Rattle.mg_core.proofs.Scans.{drop_at}
use Rattle.mg_core.proofs.Gathers.{Gathered, is_or_not, gathered_none, gathered_skip, gathered_take, handed_all, handed_most}
use Rattle.mg_core.proofs.scan.models_above.Goals as goal
use Rattle.mg_core.proofs.scan.models_above.Goals.{else-number-after-via-then-number-after+else-is_model, else-number-after-via-else-number-after}

pub loop-count-init : goal.loop-count-init
loop-count-init g c = record {
  few = omega arith;
  most = omega arith;
  gathered = subst (λ records. Gathered g.R.Record.recording.model_of c.args.group.now c.args.after c.args.facts.now 0 c.args.after 0 records) (sym c.new-records.ensures) (gathered_none g.R.Record.recording.model_of c.args.group.now c.args.after c.args.facts.now);
}

pub returns-in_default : goal.returns-in_default
returns-in_default g c =
    let made : ℕ → Facts g.row.R.Denot = λ upto. record { from = c.args.after; upto = upto; records = c.loop-count.records } in
    let end : length c.args.facts.now ≤ c.loop-count.number = search (rules, arith) in
    handed_all g.R.Record.recording.model_of c.args.group.now c.args.after c.args.facts.now c.loop-count.number c.loop-count.upto c.loop-count.count c.args.most c.loop-count.records (made c.max.result) c.loop-count.invariant.gathered
    (drop_of_length-le c.args.facts.now end) c.loop-count.invariant.few (omega arith) (ap made c.max.ensures)

pub loop-count-preserved-then-is_model : goal.loop-count-preserved-then-is_model
loop-count-preserved-then-is_model g c =
    let facts = c.args.facts.now in
    let number = c.loop-count.number in
    let look = c.in-Some.ensures.lookup in
    let there = slice_get-get_or facts number c.in-Some.fact.now look.3.0 ∙ ap Some (sym look.1) in
    let next = drop_at facts number c.in-Some.fact.now there in
    let model : g.R.Record.recording.model_of c.in-Some.fact.now ≡ Some c.args.group.now = search rules in
    let pushed : c.push.new.self ≡ c.loop-count.records ++ c.in-Some.fact.now ∷ [] = c.in_ok-push.ensures.ok ∙ ap (λ r. c.loop-count.records ++ r ∷ []) c.in_ok-copy.ensures.same in
    record {
      few = omega (arith, next.0);
      most = omega arith;
      gathered = subst (λ records. Gathered g.R.Record.recording.model_of c.args.group.now c.args.after facts (number + 1) (number + 1) (c.loop-count.count + 1) records) (sym pushed)
          (gathered_take g.R.Record.recording.model_of c.args.group.now c.args.after facts number c.loop-count.upto c.loop-count.count c.loop-count.records c.in-Some.fact.now next.1 (omega arith) model c.loop-count.invariant.gathered);
    }

pub loop-count-preserved : goal.loop-count-preserved
loop-count-preserved g c =
    let facts = c.args.facts.now in
    let number = c.loop-count.number in
    let look = c.in-Some.ensures.lookup in
    let there = slice_get-get_or facts number c.in-Some.fact.now look.3.0 ∙ ap Some (sym look.1) in
    let next = drop_at facts number c.in-Some.fact.now there in
    let none : (number + 1 ≤ c.args.after) ⊎ (g.R.Record.recording.model_of c.in-Some.fact.now ≢ Some c.args.group.now) =
    elim c.else-number-after.branch [
      | else-number-after-via-then-number-after+else-is_model w ↦
          let other : g.R.Record.recording.model_of c.in-Some.fact.now ≢ Some c.args.group.now = search rules in
          inr other
      | else-number-after-via-else-number-after w ↦ inl (omega arith)
    ] in
    record {
      few = omega (arith, next.0);
      most = c.loop-count.invariant.most;
      gathered = gathered_skip g.R.Record.recording.model_of c.args.group.now c.args.after facts number c.loop-count.upto c.loop-count.count c.loop-count.records c.in-Some.fact.now next.1 none c.loop-count.invariant.gathered;
    }

pub returns : goal.returns
returns g c =
    handed_most g.R.Record.recording.model_of c.args.group.now c.args.after c.args.facts.now (λ r. is_or_not g.R.Group.Ord.cmp g.met.R.Group.Ord.total g.met.R.Record.lawful.exact_groups (g.R.Record.recording.model_of r) c.args.group.now)
    c.loop-count.number c.loop-count.upto c.loop-count.count c.args.most c.loop-count.records (record { from = c.args.after; upto = c.loop-count.upto; records = c.loop-count.records }) c.loop-count.invariant.gathered (omega arith) refl
