-- What a log asks of its records holds of valid facts.
use Rattle.std.proofs.Common.{◌↔◌, IsNone, IsSome, sym, true≢false, refl}
use Rattle.mg_certs.specs.Claim.{Fact, settled, model_of}
use Rattle.mg_certs.specs.Validity.{IsValid, key_of, group_of}

-- a valid fact settles an Ask or is a model of a group, and never both
pub settles_or_models : (fact : Fact) → IsValid fact → IsNone (key_of fact) ↔ IsSome (group_of fact)
settles_or_models (settled ask verdict) valid = (λ none. absurd (true≢false none), λ some. absurd (true≢false (sym some)))
settles_or_models (model_of group model) valid = (λ none. refl, λ some. refl)
