-- What a search knows of the numbers that its walk has passed.
use Rattle.std.proofs.Common.{◌≡◌, ℕ, ◌+◌, ◌-◌, ◌<◌, ◌≤◌, sym, subst, arith, inl, inr}
use Rattle.mg_numbers.specs.Plain.{NoneAmong, FindsFirst}
use Rattle.mg_numbers.specs.Perms.{PermTuple}
use Rattle.std.proofs.lemmas.Bool.{cases_lt}
use Rattle.mg_numbers.proofs.PermsLaws.{one_perm_tuple}
use Rattle.mg_present.specs.Ask.{Inquiry}
use Rattle.mg_action.specs.Action.{Refutes}
use Rattle.mg_action.specs.Number.{IsNumbered, RefutedAt}

pub none_from : (ask there : Inquiry) (low high next : ℕ) → there ≡ ask → high < next → NoneAmong (RefutedAt there) 0 (next - 1) → NoneAmong (RefutedAt ask) low high
none_from ask there low high next e h none k above below refuted =
    none k (omega arith) (omega arith) (subst (λ (q : Inquiry). RefutedAt q k) (sym e) refuted)

pub finds_first : (ask there : Inquiry) (action : PermTuple) (goal cursor units next spent : ℕ) → there ≡ ask → cursor < next → next ≤ cursor + units → NoneAmong (RefutedAt there) 0 (next - 1)
    → IsNumbered there.group.generators action next → Refutes there goal action → next - cursor ≡ spent → FindsFirst (RefutedAt ask) cursor units spent
finds_first ask there action goal cursor units next spent e above within none numbered refutes s =
    let found : RefutedAt there next = record { action = action; numbered = numbered; goal = goal; refutes = refutes } in
    let n : next ≡ cursor + spent = omega arith in
    record {
      some = omega arith;
      within = omega arith;
      holds = subst (λ (k : ℕ). RefutedAt ask k) n (subst (λ (q : Inquiry). RefutedAt q next) e found);
      none_before = none_from ask there cursor (cursor + spent - 1) next e (omega arith) none;
    }

-- where the action with a number refutes no goal, none up to it does
pub none_past : (ask : Inquiry) (action : PermTuple) (n : ℕ) → 1 ≤ n → NoneAmong (RefutedAt ask) 0 (n - 1) → IsNumbered ask.group.generators action n
    → ((k : ℕ) → Refutes ask k action → ⊥) → NoneAmong (RefutedAt ask) 0 (n + 1 - 1)
none_past ask action n h none numbered refused k above below refuted =
    elim (cases_lt k n) [
      | inl before ↦ none k above (omega arith) refuted
      | inr rest ↦
          let e : k ≡ n = omega arith in
          refused refuted.goal (subst (λ (t : PermTuple). Refutes ask refuted.goal t) (one_perm_tuple ask.group.generators n refuted.action action (subst (λ (j : ℕ). IsNumbered ask.group.generators refuted.action j) e refuted.numbered) numbered) refuted.refutes)
    ]
