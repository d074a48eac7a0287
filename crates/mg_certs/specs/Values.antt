-- What values in code say: certificates, verdicts and claims.
use Rattle.std.specs.Prelude.{◌≡◌}
use Rattle.mg_present.specs.Presentation.{Group}
use Rattle.mg_present.specs.Ask.{Inquiry}
use Rattle.mg_certs.specs.Claim.{Affirmation, derivation, rulelog, Model, action, residues, complete, Verdict, affirmed, refuted, Fact, settled, model_of}
use Rattle.mg_certs.specs.Validity.{IsValid}
use Rattle.mg_certs.specs.declared.verdict.Yes.{Yes}
use Rattle.mg_certs.specs.declared.verdict.Yes.TheVariants.{Derivation, RuleLog}
use Rattle.mg_certs.specs.declared.verdict.No.{No}
use Rattle.mg_certs.specs.declared.verdict.Model.{Model as Shown}
use Rattle.mg_certs.specs.declared.verdict.Model.TheVariants.{Action, Residues, Complete}
use Rattle.mg_certs.specs.declared.verdict.Verdict.{Verdict as Answer}
use Rattle.mg_certs.specs.declared.verdict.Verdict.TheVariants as answer
use Rattle.mg_certs.specs.declared.claim.Body.{Body}
use Rattle.mg_certs.specs.declared.claim.Body.TheVariants as body
use Rattle.mg_certs.specs.declared.claim.ClaimView.{ClaimView}
use Rattle.mg_certs.specs.declared.claim.ClaimView.TheVariants as view
use Rattle.mg_certs.specs.declared.claim.YesRefused.{YesRefused}
use Rattle.mg_certs.specs.declared.claim.YesRefused.TheVariants as yes_refused
use Rattle.mg_certs.specs.declared.claim.NoRefused.{NoRefused}
use Rattle.mg_certs.specs.declared.claim.NoRefused.TheVariants as no_refused
use Rattle.mg_certs.specs.declared.claim.ModelRefused.{ModelRefused}
use Rattle.mg_certs.specs.declared.claim.ModelRefused.TheVariants as model_refused

-- a certificate, without the spare room of its text
abbrev pub affirmation_of : Yes → Affirmation
affirmation_of (Derivation text) = derivation text.symbols
affirmation_of (RuleLog log) = rulelog log

-- what a model in code is
abbrev pub model_value : Shown → Model
model_value (Action perms) = action perms
model_value (Residues map) = residues map
model_value (Complete rules) = complete rules

abbrev pub verdict_of : Answer → Verdict
verdict_of (answer.Yes certificate) = affirmed (affirmation_of certificate)
verdict_of (answer.No certificate) = refuted certificate.goal (model_value certificate.model)

-- what a claim says
abbrev pub fact_of : Body → Fact
fact_of (body.Settled ask verdict) = settled ask (verdict_of verdict)
fact_of (body.ModelOf group model) = model_of group (model_value model)

-- what is lent of a claim
abbrev pub fact_seen : ClaimView → Fact
fact_seen (view.Settled ask verdict) = settled ask.now (verdict_of verdict.now)
fact_seen (view.ModelOf group model) = model_of group.now (model_value model.now)

-- the Ask is settled by YES with this certificate
abbrev pub claimed_by : Inquiry → Yes → Fact
claimed_by ask certificate = settled ask (affirmed (affirmation_of certificate))

-- the Ask is settled by NO with this goal and model
abbrev pub refuted_by : Inquiry → No → Fact
refuted_by ask certificate = settled ask (refuted certificate.goal (model_value certificate.model))

-- the model is one of the group
abbrev pub modelled_by : Group → Shown → Fact
modelled_by group model = model_of group (model_value model)

-- why a certificate isn't claimed: it isn't accepted, and it comes back with its Ask; want of memory has no cause
abbrev pub IsRefused : Inquiry → Yes → YesRefused → Type 0
IsRefused ask certificate (yes_refused.NotAccepted a c) = (a ≡ ask) × (c ≡ certificate) × (IsValid (claimed_by ask certificate) → ⊥)
IsRefused ask certificate yes_refused.NoMemory = Unit {0}

-- models of this kind are tested with memory
abbrev pub TakesMemory : Model → Type 0
TakesMemory (action perms) = ⊥
TakesMemory (residues map) = ⊥
TakesMemory (complete rules) = Unit {0}

-- why NO isn't claimed: it isn't accepted, and it comes back with its Ask; want of memory comes for no model that is
-- tested without
abbrev pub IsNoRefused : Inquiry → No → NoRefused → Type 0
IsNoRefused ask certificate (no_refused.NotAccepted a c) = (a ≡ ask) × (c ≡ certificate) × (IsValid (refuted_by ask certificate) → ⊥)
IsNoRefused ask certificate no_refused.NoMemory = TakesMemory (model_value certificate.model)

-- why a model isn't claimed: it isn't one of the group, and it comes back with the group; want of memory as there
abbrev pub IsModelRefused : Group → Shown → ModelRefused → Type 0
IsModelRefused group model (model_refused.NotAccepted g m) = (g ≡ group) × (m ≡ model) × (IsValid (modelled_by group model) → ⊥)
IsModelRefused group model model_refused.NoMemory = TakesMemory (model_value model)
