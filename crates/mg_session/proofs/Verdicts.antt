-- What is printed of verdicts and facts holds.
use Rattle.std.proofs.Common.{◌≡◌, ℕ, zero, suc, ◌<◌, List, [], ◌∷◌, ◌++◌, length, refl, ap, sym, ◌∙◌, subst, cond, arith}
use Rattle.std.specs.Prelude.{Option, Some, IfSome, slice_get, slice_index_or}
use Rattle.std.specs.List.{AllByRecursion}
use Rattle.mg_core.specs.declared.entries.Entry.{Entry}
use Rattle.mg_core.specs.Log.{facts_of}
use Rattle.mg_workers.specs.Rows.{EachPair}
use Rattle.mg_present.specs.Ask.{Inquiry}
use Rattle.mg_names.specs.Plan.{Plan, Step}
use Rattle.mg_certs.specs.Claim.{Verdict, affirmed, refuted, Fact, settled}
use Rattle.mg_certs.specs.Validity.{IsValid, Accepted, IsTrueOf}
use Rattle.mg_certs.proofs.Truth.{accepted_is_true}
use Rattle.mg_report.specs.Log.{EntryLine}
use Rattle.mg_session.specs.State.{State, Params}
use Rattle.mg_session.specs.Output.{IsEntryLine, is_kept, is_dropped, TextOf, Texts}
use Rattle.mg_session.specs.StateOk.{StateOk}
use Rattle.mg_session.specs.Printed.{kept_by, kept_count, kept_in, CountKept, PrintsVerdict, in_question, in_fact, Agree}
use Rattle.mg_session.proofs.Printed.{facts_valid, carried}

all_contain : {X : Type 0} (P : X → Type 0) (xs : List X) (x : X) (k : ℕ) → k < length xs → slice_index_or xs k x ≡ x → AllByRecursion P xs → P x
all_contain P [] x k within e h = absurd (omega arith)
all_contain P (y ∷ xs) x zero within e h = subst P e h.0
all_contain P (y ∷ xs) x (suc k) within e h = all_contain P xs x k (omega arith) e h.1

module _ (plan : Plan) (workers : ℕ) (state : State) (ok : StateOk plan workers state) where
  -- the certificate of a printed verdict is accepted
  printed_accepted : (step : Step) (ask : Inquiry) (verdict : Verdict) → PrintsVerdict plan step state ask verdict → Accepted ask verdict
  printed_accepted step ask verdict (in_question questions place n question block is_step there is_block asked found) =
      let shown = carried plan workers state ok block.ask block.verdict is_block.verdict in
      subst (λ (a : Inquiry). Accepted a verdict) asked (subst (λ (v : Option (ℕ × Verdict)). IfSome v (λ w. Accepted block.ask w.1)) found shown)
  printed_accepted step ask verdict (in_fact is_step among) =
      all_contain IsValid (facts_of state.log) (settled ask verdict) among.0 among.1 among.2 (facts_valid plan workers state ok)

  pub printed_holds : (step : Step) (ask : Inquiry) (verdict : Verdict) → PrintsVerdict plan step state ask verdict → Accepted ask verdict × IsTrueOf ask verdict
  printed_holds step ask verdict printed =
      let accepted = printed_accepted step ask verdict printed in (accepted, accepted_is_true ask verdict accepted)

pub agree : (ask : Inquiry) (v w : Verdict) → IsTrueOf ask v → IsTrueOf ask w → Agree v w
agree ask (affirmed one) (affirmed other) h k = tt
agree ask (affirmed one) (refuted goal model) h k = k h
agree ask (refuted goal model) (affirmed one) h k = h k
agree ask (refuted goal model) (refuted other against) h k = tt

-- an entry that is printed as kept has kept its records, and one that is printed as dropped none
entry_kept : (state : State) (entry : Entry Fact) (line : EntryLine) (rest others : List Fact) → IsEntryLine state entry line → rest ≡ others → cond entry.dropped rest (entry.records ++ rest) ≡ kept_by line.fate entry.records ++ others
entry_kept state entry line rest others (is_kept undropped e) same =
    ap (λ b. cond b rest (entry.records ++ rest)) undropped ∙ ap (λ ys. entry.records ++ ys) same ∙ ap (λ (l : EntryLine). kept_by l.fate entry.records ++ others) (sym e)
entry_kept state entry line rest others (is_dropped dropped ask n fact asked verdict e) same =
    ap (λ b. cond b rest (entry.records ++ rest)) dropped ∙ same ∙ ap (λ (l : EntryLine). kept_by l.fate entry.records ++ others) (sym e)

-- the facts of a log are the records that its lines print as kept
pub facts_kept : (state : State) (log : List (Entry Fact)) (lines : List EntryLine) → EachPair (IsEntryLine state) log lines → facts_of log ≡ kept_in log lines
facts_kept state [] [] h = refl
facts_kept state [] (line ∷ lines) h = absurd h
facts_kept state (entry ∷ log) [] h = absurd h
facts_kept state (entry ∷ log) (line ∷ lines) h = entry_kept state entry line (facts_of log) (kept_in log lines) h.0 (facts_kept state log lines h.1)

entry_counted : (state : State) (entry : Entry Fact) (line : EntryLine) → IsEntryLine state entry line → kept_count line.fate ≡ length (kept_by line.fate entry.records)
entry_counted state entry line (is_kept undropped e) = subst (λ (l : EntryLine). kept_count l.fate ≡ length (kept_by l.fate entry.records)) (sym e) refl
entry_counted state entry line (is_dropped dropped ask n fact asked verdict e) = subst (λ (l : EntryLine). kept_count l.fate ≡ length (kept_by l.fate entry.records)) (sym e) refl

-- and each line says how many there are of its entry
pub facts_counted : (state : State) (log : List (Entry Fact)) (lines : List EntryLine) → EachPair (IsEntryLine state) log lines → CountKept log lines
facts_counted state [] [] h = tt
facts_counted state [] (line ∷ lines) h = absurd h
facts_counted state (entry ∷ log) [] h = absurd h
facts_counted state (entry ∷ log) (line ∷ lines) h = (entry_counted state entry line h.0, facts_counted state log lines h.1)

-- the text of a step is printed from the state before it
pub text_at : (plan : Plan) (params : Params) (shown : List ℕ) (steps : List Step) (states : List State) (texts : List (List ℕ)) (i : ℕ) (step : Step) (state : State) (text : List ℕ) →
    Texts plan params shown steps states texts → slice_get steps i ≡ Some step → slice_get states i ≡ Some state → slice_get texts i ≡ Some text →
    (before after : List ℕ) × TextOf plan params before step state text after
text_at plan params shown [] states texts i step state text h at_step at_state at_text = absurd cc
text_at plan params shown (s ∷ steps) [] texts i step state text h at_step at_state at_text = absurd h
text_at plan params shown (s ∷ steps) (x ∷ states) [] i step state text h at_step at_state at_text = absurd h
text_at plan params shown (s ∷ steps) (x ∷ states) (t ∷ texts) zero step state text h at_step at_state at_text =
    let is_step : s ≡ step = cc in
    let is_state : x ≡ state = cc in
    let is_text : t ≡ text = cc in
    (shown, h.0, subst (λ (v : List ℕ). TextOf plan params shown step state v h.0) is_text (subst (λ (v : State). TextOf plan params shown step v t h.0) is_state (subst (λ (v : Step). TextOf plan params shown v x t h.0) is_step h.1)))
text_at plan params shown (s ∷ steps) (x ∷ states) (t ∷ texts) (suc i) step state text h at_step at_state at_text =
    text_at plan params h.0 steps states texts i step state text h.2 at_step at_state at_text
