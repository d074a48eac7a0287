-- The first goal that a model refutes, found by testing one after another.
use Rattle.std.proofs.Common.{◌≡◌, ℕ, ◌+◌, ◌<◌, ◌≤◌, length, inl, inr, subst, arith}
use Rattle.std.proofs.lemmas.Bool.{cases_lt}
use Rattle.mg_present.specs.Ask.{Inquiry}
use Rattle.mg_certs.specs.Claim.{Model, action, residues, complete, refuted}
use Rattle.mg_certs.specs.Validity.{Accepted}
use Rattle.mg_certs.specs.Refuting.{RefutesNone, IsLeastRefuted}

-- the model refutes no goal before this one
abbrev pub RefutesNoneBelow : Inquiry → Model → ℕ → Type 0
RefutesNoneBelow ask model goal = (k : ℕ) → k < goal → Accepted ask (refuted k model) → ⊥

-- a goal that is refuted is there
is_there : (ask : Inquiry) (goal : ℕ) (model : Model) → Accepted ask (refuted goal model) → goal < length ask.goals
is_there ask goal (action perms) h = h.there
is_there ask goal (residues map) h = h.there
is_there ask goal (complete rules) h = h.there

pub none_yet : (ask : Inquiry) (model : Model) → RefutesNoneBelow ask model 0
none_yet ask model k less h = absurd (omega (arith, less))

-- one goal more
pub none_more : (ask : Inquiry) (model : Model) (goal : ℕ) → RefutesNoneBelow ask model goal → (Accepted ask (refuted goal model) → ⊥) → RefutesNoneBelow ask model (goal + 1)
none_more ask model goal none not k less h =
    elim (cases_lt k goal) [
      | inl before ↦ none k before h
      | inr past ↦ not (subst (λ (n : ℕ). Accepted ask (refuted n model)) (omega (arith, less, past)) h)
    ]

-- and after the last
pub none_at_all : (ask : Inquiry) (model : Model) (goal end : ℕ) → end ≡ length ask.goals → end ≤ goal → RefutesNoneBelow ask model goal → RefutesNone ask model
none_at_all ask model goal end all past none k h = none k (omega (arith, all, past, is_there ask k model h)) h

-- the first that is refuted
pub least_refuted : (ask : Inquiry) (model : Model) (goal : ℕ) → Accepted ask (refuted goal model) → RefutesNoneBelow ask model goal → IsLeastRefuted ask model goal
least_refuted ask model goal refutes none = record { refutes = refutes; least = none }
