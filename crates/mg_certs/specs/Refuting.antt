-- Which goal of an Ask a model refutes first, and what is published by it.
use Rattle.std.specs.Prelude.{◌≡◌, ℕ, ◌<◌, Option, Some, None, List, [], ◌∷◌}
use Rattle.mg_present.specs.Ask.{Inquiry}
use Rattle.mg_certs.specs.Claim.{Model, refuted, Fact, settled, model_of}
use Rattle.mg_certs.specs.Validity.{Accepted}

-- the model refutes no goal of the Ask
abbrev pub RefutesNone : Inquiry → Model → Type 0
RefutesNone ask model = (k : ℕ) → Accepted ask (refuted k model) → ⊥

-- the model refutes this goal of the Ask, from 0, and none before it
pub record IsLeastRefuted (ask : Inquiry) (model : Model) (goal : ℕ) : Type 0 where
  pub refutes : Accepted ask (refuted goal model)
  pub least : (k : ℕ) → k < goal → Accepted ask (refuted k model) → ⊥

-- the first goal of the Ask that the model refutes, and nothing where it refutes none
abbrev pub IsFirstRefuted : Inquiry → Model → Option ℕ → Type 0
IsFirstRefuted ask model (Some goal) = IsLeastRefuted ask model goal
IsFirstRefuted ask model None = RefutesNone ask model

-- the Ask settled by NO with this goal and model, and behind that the model as one of the group of the Ask
abbrev pub no_and_model : Inquiry → ℕ → Model → List Fact
no_and_model ask goal model = settled ask (refuted goal model) ∷ model_of ask.group model ∷ []

-- what a model publishes that refutes a goal: NO with the first goal that it refutes, and the model
pub record PublishesNo (ask : Inquiry) (model : Model) (records : List Fact) : Type 0 where
  pub goal : ℕ
  pub refutes : Accepted ask (refuted goal model)
  pub least : (k : ℕ) → k < goal → Accepted ask (refuted k model) → ⊥
  pub records_are : records ≡ no_and_model ask goal model
