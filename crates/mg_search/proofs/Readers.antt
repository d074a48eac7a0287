-- Searches that read models: which they are, and how many models searches want.
use Rattle.std.proofs.Common.{◌≡◌, ℕ, ◌≤◌, inl, inr, refl, ap, sym, ◌∙◌, subst, arith}
use Rattle.std.specs.Prelude.{◌⊎◌, min}
use Rattle.mg_core.specs.declared.entries.Facts.{Facts}
use Rattle.mg_turn.specs.declared.outcome.Outcome.{Outcome}
use Rattle.mg_turn.specs.declared.outcome.TurnEnd.TheVariants.{Idle}
use Rattle.mg_words.specs.declared.procedure.Procedure.TheVariants as by
use Rattle.mg_certs.specs.Claim.{Fact}
use Rattle.mg_plain.specs.Plain.{PlainEnd}
use Rattle.mg_complete.specs.Turn.{CompletionEnd}
use Rattle.mg_cosets.specs.Cosets.{CosetsEnd}
use Rattle.mg_nielsen.specs.Turn.{NielsenEnd}
use Rattle.mg_recall.specs.declared.recall.TheConstants.{MOST_MODELS}
use Rattle.mg_search.specs.Search.{Search, plain, completing, enumerating, reducing, recalling, procedure_of, models_wanted, Reads, IsKind, SearchTurn}

-- a search reads models, or it wants none, however many units it has
pub reads_or_wants_none : (search : Search) → Reads search ⊎ ((units : ℕ) → models_wanted search units ≡ 0)
reads_or_wants_none (plain search) = inr (λ units. refl)
reads_or_wants_none (completing search) = inr (λ units. refl)
reads_or_wants_none (enumerating search) = inr (λ units. refl)
reads_or_wants_none (reducing search) = inr (λ units. refl)
reads_or_wants_none (recalling search) = inl tt

-- a search that reads none wants none
pub wants_none : (search : Search) (units : ℕ) → (Reads search → ⊥) → models_wanted search units ≡ 0
wants_none (plain search) units none = refl
wants_none (completing search) units none = refl
wants_none (enumerating search) units none = refl
wants_none (reducing search) units none = refl
wants_none (recalling search) units none = absurd (none tt)

-- a search that reads wants some for some units, and never more than those or than 64
pub readers_want : (search : Search) (units : ℕ) → Reads search → models_wanted search units ≡ min units MOST_MODELS
readers_want (plain search) units reads = absurd reads
readers_want (completing search) units reads = absurd reads
readers_want (enumerating search) units reads = absurd reads
readers_want (reducing search) units reads = absurd reads
readers_want (recalling search) units reads = refl

pub readers_want_some : (search : Search) (units : ℕ) → Reads search → 1 ≤ units → 1 ≤ models_wanted search units
readers_want_some search units reads some = let want = readers_want search units reads in omega (arith, some, want)

-- only recall reads
pub readers_recall : (search : Search) → Reads search → IsKind recalling search
readers_recall (plain search) reads = absurd reads
readers_recall (completing search) reads = absurd reads
readers_recall (enumerating search) reads = absurd reads
readers_recall (reducing search) reads = absurd reads
readers_recall (recalling search) reads = (search, refl)

pub readers_by_recall : (search : Search) → Reads search → procedure_of search ≡ by.Recall
readers_by_recall (plain search) reads = absurd reads
readers_by_recall (completing search) reads = absurd reads
readers_by_recall (enumerating search) reads = absurd reads
readers_by_recall (reducing search) reads = absurd reads
readers_by_recall (recalling search) reads = refl

-- only the turns of searches that read end idle
pub idlers_read : (search : Search) (units : ℕ) (facts : Facts Fact) (outcome : Outcome Fact) (after : Search) → SearchTurn search units facts outcome after → outcome.end ≡ Idle → Reads search
idlers_read (plain search) units facts outcome after turn e = absurd (subst (PlainEnd search units outcome.spent) e turn.2.end)
idlers_read (completing search) units facts outcome after turn e = absurd (subst (CompletionEnd search turn.0 units outcome.spent) e turn.2.end)
idlers_read (enumerating search) units facts outcome after turn e = absurd (subst (CosetsEnd turn.0 units outcome.spent) e turn.2.end)
idlers_read (reducing search) units facts outcome after turn e = absurd (subst (NielsenEnd turn.2.reached units outcome.spent) e turn.2.end)
idlers_read (recalling search) units facts outcome after turn e = tt

-- a turn keeps whether a search reads
pub keeps_reading : (search : Search) (units : ℕ) (facts : Facts Fact) (outcome : Outcome Fact) (after : Search) → SearchTurn search units facts outcome after → Reads search → Reads after
keeps_reading (plain search) units facts outcome after turn reads = absurd reads
keeps_reading (completing search) units facts outcome after turn reads = absurd reads
keeps_reading (enumerating search) units facts outcome after turn reads = absurd reads
keeps_reading (reducing search) units facts outcome after turn reads = absurd reads
keeps_reading (recalling search) units facts outcome after turn reads = subst Reads (sym turn.1) tt
