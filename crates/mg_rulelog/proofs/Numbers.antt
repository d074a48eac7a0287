-- Rules found by their numbers, which count from 1.
use Rattle.std.proofs.Common.{◌≡◌, ◌≢◌, ℕ, suc, ◌+◌, ◌-◌, ◌≤◌, List, length, sym, subst, ap, ◌∙◌, add-one, arith}
use Rattle.std.specs.Prelude.{slice_get, option_map, Some, slice_index_or}
use Rattle.std.proofs.lemmas.Option.{slice_get-map, slice_get-get_or}
use Rattle.mg_rulelog.specs.Rule.{Logged, sides_of, all_sides, sides_numbered}

next_of : (number : ℕ) → number ≢ 0 → suc (number - 1) ≡ number
next_of number some = let e : number - 1 + 1 ≡ number = omega (arith, some) in sym (add-one (number - 1)) ∙ e

sides_at : (rules : List Logged) (number : ℕ) → number ≢ 0 → sides_numbered (all_sides rules) number ≡ option_map sides_of (slice_get rules (number - 1))
sides_at rules number some =
    subst (λ t. sides_numbered (all_sides rules) t ≡ option_map sides_of (slice_get rules (number - 1))) (next_of number some) (slice_get-map sides_of rules (number - 1))

sides_found : (rules : List Logged) (number : ℕ) (rule : Logged) → number ≢ 0 → slice_get rules (number - 1) ≡ Some rule → sides_numbered (all_sides rules) number ≡ Some (sides_of rule)
sides_found rules number rule some e = sides_at rules number some ∙ ap (option_map sides_of) e

-- the rule that an index reads
pub sides_read : (rules : List Logged) (number : ℕ) (d : Logged) → number ≢ 0 → number ≤ length rules → sides_numbered (all_sides rules) number ≡ Some (sides_of (slice_index_or rules (number - 1) d))
sides_read rules number d some within =
    sides_found rules number _ some (slice_get-get_or rules (number - 1) d (let least : 1 ≤ number = omega (arith, some) in omega (arith, least, within)))
