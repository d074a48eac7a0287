-- Accepted certificates show what they say.
use Rattle.std.proofs.Common.{◌≡◌, ℕ, []}
use Rattle.std.specs.List.{AllByRecursion}
use Rattle.mg_present.specs.Ask.{Inquiry}
use Rattle.mg_present.specs.Same.{Same}
use Rattle.mg_derive.proofs.Soundness.{accepted_holds, accepted_vanish}
use Rattle.mg_rulelog.proofs.Soundness as by_log
use Rattle.mg_action.proofs.Words as by_action
use Rattle.mg_cyclic.proofs.Sums as by_residues
use Rattle.mg_rules.proofs.Groups as by_rules
use Rattle.mg_certs.specs.Claim.{Affirmation, Model, action, residues, complete, Verdict, affirmed, refuted, derivation, rulelog}
use Rattle.mg_certs.specs.Validity.{Accepted, AcceptedModel, IsTrueOf}

pub accepted_is_true : (ask : Inquiry) (verdict : Verdict) → Accepted ask verdict → IsTrueOf ask verdict
accepted_is_true ask (affirmed (derivation text)) h = accepted_holds ask text h
accepted_is_true ask (affirmed (rulelog log)) h = by_log.accepted_holds ask log h
accepted_is_true ask (refuted goal (action perms)) h = by_action.refuted_does_not_hold ask goal perms h
accepted_is_true ask (refuted goal (residues map)) h = by_residues.refuted_does_not_hold ask goal map h
accepted_is_true ask (refuted goal (complete rules)) h = by_rules.refuted_does_not_hold ask goal rules h

-- the model of an accepted NO is one of the group of the Ask
pub refuting_is_a_model : (ask : Inquiry) (goal : ℕ) (model : Model) → Accepted ask (refuted goal model) → AcceptedModel ask.group model
refuting_is_a_model ask goal (action perms) h = h.is_action
refuting_is_a_model ask goal (residues map) h = h.is_map
refuting_is_a_model ask goal (complete rules) h = h.complete

-- without subgroup words each goal is the same as the empty word
pub affirmed_is_one : (ask : Inquiry) (certificate : Affirmation) → ask.subgroup ≡ [] → Accepted ask (affirmed certificate) → AllByRecursion (λ goal. Same ask.group goal []) ask.goals
affirmed_is_one ask (derivation text) none h = accepted_vanish ask text none h
affirmed_is_one ask (rulelog log) none h = by_log.accepted_vanish ask log h

pub no_contradiction : (ask : Inquiry) (certificate : Affirmation) (goal : ℕ) (model : Model) → Accepted ask (affirmed certificate) → Accepted ask (refuted goal model) → ⊥
no_contradiction ask certificate goal model for against = accepted_is_true ask (refuted goal model) against (accepted_is_true ask (affirmed certificate) for)
