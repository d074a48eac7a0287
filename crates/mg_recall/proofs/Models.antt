-- Models that are read one after another.
use Rattle.std.proofs.Common.{◌≡◌, ℕ, ◌+◌, ◌-◌, List, inl, inr, ap, sym, ◌∙◌, subst, arith}
use Rattle.std.specs.Prelude.{Some, None, slice_get}
use Rattle.std.proofs.lemmas.Bool.{cases_lt}
use Rattle.std.proofs.lemmas.Option.{same_Some}
use Rattle.mg_present.specs.Presentation.{Group}
use Rattle.mg_present.specs.Ask.{Inquiry}
use Rattle.mg_certs.specs.Claim.{Fact, Model, settled, model_of}
use Rattle.mg_certs.specs.Refuting.{RefutesNone, IsLeastRefuted, no_and_model}
use Rattle.mg_certs.specs.Validity.{IsValid, group_of}
use Rattle.mg_recall.specs.Recall.{NoneRefutes, FindsFirst}
use Rattle.mg_recall.specs.Reading.{IsReadAs}

-- a model that refutes this goal first
pub refutes_some : (ask : Inquiry) (fact : Fact) (group : Group) (model : Model) (goal : ℕ) (records : List Fact) → model_of group model ≡ fact → IsValid fact → group_of fact ≡ Some ask.group → IsLeastRefuted ask model goal → records ≡ no_and_model ask goal model → IsReadAs ask fact (Some records)
refutes_some ask fact group model goal records seen valid of_group least published =
    let of_ask : group ≡ ask.group = same_Some group ask.group (ap group_of seen ∙ of_group) in
    let accepted = subst IsValid (sym seen ∙ ap (λ (g : Group). model_of g model) of_ask) valid in
    let reads : IsReadAs ask (model_of group model) (Some records) =
    (of_ask, accepted, record { goal = goal; refutes = least.refutes; least = least.least; records_are = published }) in
    subst (λ (f : Fact). IsReadAs ask f (Some records)) seen reads

-- a model that refutes none
pub refutes_none : (ask : Inquiry) (fact : Fact) (group : Group) (model : Model) → model_of group model ≡ fact → RefutesNone ask model → IsReadAs ask fact None
refutes_none ask fact group model seen none = subst (λ (f : Fact). IsReadAs ask f None) seen none

-- none of no models refutes
pub none_yet : (ask : Inquiry) (facts : List Fact) → NoneRefutes ask facts 0
none_yet ask facts k model less there = absurd (omega (arith, less))

-- one model more, which refutes none
pub none_more : (ask : Inquiry) (facts : List Fact) (n : ℕ) (fact : Fact) → slice_get facts n ≡ Some fact → NoneRefutes ask facts n → IsReadAs ask fact None → NoneRefutes ask facts (n + 1)
none_more ask facts n fact here none reads k model less there =
    elim (cases_lt k n) [
      | inl before ↦ none k model before there
      | inr past ↦
          (let same : k ≡ n = omega (arith, less, past) in
          let it : fact ≡ model_of ask.group model = same_Some fact (model_of ask.group model) (sym here ∙ ap (slice_get facts) (sym same) ∙ there) in
          subst (λ (f : Fact). IsReadAs ask f None) it reads)
    ]

-- the first that refutes
pub first_found : (ask : Inquiry) (facts : List Fact) (n : ℕ) (fact : Fact) (records : List Fact) → slice_get facts n ≡ Some fact → NoneRefutes ask facts n → IsReadAs ask fact (Some records) → FindsFirst ask facts (n + 1) records
first_found ask facts n (settled other verdict) records here none reads = absurd reads
first_found ask facts n (model_of group model) records here none reads =
    let back : n + 1 - 1 ≡ n = omega arith in
    record {
      some = omega arith;
      model = model;
      there = ap (slice_get facts) back ∙ here ∙ ap (λ (g : Group). Some (model_of g model)) reads.0;
      of_group = reads.1;
      none_before = subst (NoneRefutes ask facts) (sym back) none;
      published = reads.2;
    }
