-- What reading models comes to.
use Rattle.std.specs.Prelude.{◌≡◌, Option, Some, None, List, length, ⊤}
use Rattle.mg_present.specs.Ask.{Inquiry}
use Rattle.mg_certs.specs.Claim.{Fact, settled, model_of}
use Rattle.mg_certs.specs.Refuting.{RefutesNone, PublishesNo}
use Rattle.mg_certs.specs.Validity.{AcceptedModel}
use Rattle.mg_recall.specs.Recall.{NoneRefutes, FindsFirst}
use Rattle.mg_recall.specs.declared.reading.Found.{Found}

-- what is published by a record: something where it is a model of the group of the Ask that refutes a goal
abbrev pub IsReadAs : Inquiry → Fact → Option (List Fact) → Type 0
IsReadAs ask (model_of group model) (Some records) = (group ≡ ask.group) × AcceptedModel ask.group model × PublishesNo ask model records
IsReadAs ask (model_of group model) None = RefutesNone ask model
IsReadAs ask (settled other verdict) (Some records) = ⊥
IsReadAs ask (settled other verdict) None = ⊤

-- the first of these models that refutes a goal was found, or none of them refutes one
abbrev pub IsRead : Inquiry → List Fact → Option Found → Type 0
IsRead ask facts (Some found) = FindsFirst ask facts found.spent found.records
IsRead ask facts None = NoneRefutes ask facts (length facts)
