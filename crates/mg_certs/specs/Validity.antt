-- Which records are valid: those whose certificate is accepted.
use Rattle.std.specs.Prelude.{Option, Some, None}
use Rattle.mg_core.specs.Recording.{Recording}
use Rattle.mg_present.specs.Presentation.{Group}
use Rattle.mg_present.specs.Ask.{Inquiry}
use Rattle.mg_present.specs.Same.{Holds}
use Rattle.mg_derive.specs.Acceptance.{IsAccepted}
use Rattle.mg_rulelog.specs.Acceptance as by_log
use Rattle.mg_action.specs.Action as by_action
use Rattle.mg_cyclic.specs.Map as by_residues
use Rattle.mg_rules.specs.Complete as by_rules
use Rattle.mg_certs.specs.Claim.{derivation, rulelog, Model, action, residues, complete, Verdict, affirmed, refuted, Fact, settled, model_of}

-- the certificate of a verdict is accepted for the Ask
abbrev pub Accepted : Inquiry → Verdict → Type 0
Accepted ask (affirmed (derivation text)) = IsAccepted ask text
Accepted ask (affirmed (rulelog log)) = by_log.IsAccepted ask log
Accepted ask (refuted goal (action perms)) = by_action.Refutes ask goal perms
Accepted ask (refuted goal (residues map)) = by_residues.Refutes ask goal map
Accepted ask (refuted goal (complete rules)) = by_rules.Refutes ask goal rules

-- the model is one of the group
abbrev pub AcceptedModel : Group → Model → Type 0
AcceptedModel group (action perms) = by_action.IsAction group perms
AcceptedModel group (residues map) = by_residues.IsMap group map
AcceptedModel group (complete rules) = by_rules.IsComplete group rules

-- what a verdict says of the Ask: each goal lies in the subgroup, or not each does
abbrev pub IsTrueOf : Inquiry → Verdict → Type 0
IsTrueOf ask (affirmed certificate) = Holds ask
IsTrueOf ask (refuted goal model) = Holds ask → ⊥

-- a record is valid where its certificate is accepted, or its model is one of its group
abbrev pub IsValid : Fact → Type 0
IsValid (settled ask verdict) = Accepted ask verdict
IsValid (model_of group model) = AcceptedModel group model

abbrev pub key_of : Fact → Option Inquiry
key_of (settled ask verdict) = Some ask
key_of (model_of group model) = None

abbrev pub group_of : Fact → Option Group
group_of (settled ask verdict) = None
group_of (model_of group model) = Some group

-- what records of this kind mean to a log
abbrev pub recording : Recording Fact Inquiry Group
recording = record { valid = IsValid; settles = key_of; model_of = group_of }
