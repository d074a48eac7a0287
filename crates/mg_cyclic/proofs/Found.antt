-- What a search knows of the numbers that its walk has passed.
use Rattle.std.proofs.Common.{◌≡◌, ℕ, ◌+◌, ◌-◌, ◌<◌, ◌≤◌, sym, subst, arith}
use Rattle.mg_numbers.specs.Plain.{NoneAmong, FindsFirst}
use Rattle.mg_numbers.specs.Residues.{ResidueTuple}
use Rattle.mg_present.specs.Ask.{Inquiry}
use Rattle.mg_cyclic.specs.Map.{Refutes}
use Rattle.mg_cyclic.specs.Number.{IsNumbered, RefutedAt}

pub none_from : (ask there : Inquiry) (low high next : ℕ) → there ≡ ask → high < next → NoneAmong (RefutedAt there) 0 (next - 1) → NoneAmong (RefutedAt ask) low high
none_from ask there low high next e h none k above below refuted =
    none k (omega arith) (omega arith) (subst (λ (q : Inquiry). RefutedAt q k) (sym e) refuted)

pub finds_first : (ask there : Inquiry) (map : ResidueTuple) (goal cursor units next spent : ℕ) → there ≡ ask → cursor < next → next ≤ cursor + units → NoneAmong (RefutedAt there) 0 (next - 1)
    → IsNumbered there.group.generators map next → Refutes there goal map → next - cursor ≡ spent → FindsFirst (RefutedAt ask) cursor units spent
finds_first ask there map goal cursor units next spent e above within none numbered refutes s =
    let found : RefutedAt there next = record { map = map; numbered = numbered; goal = goal; refutes = refutes } in
    let n : next ≡ cursor + spent = omega arith in
    record {
      some = omega arith;
      within = omega arith;
      holds = subst (λ (k : ℕ). RefutedAt ask k) n (subst (λ (q : Inquiry). RefutedAt q next) e found);
      none_before = none_from ask there cursor (cursor + spent - 1) next e (omega arith) none;
    }
