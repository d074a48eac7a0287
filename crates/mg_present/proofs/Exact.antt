-- The orders of presentations and Asks tell every two different values apart.
use Rattle.std.proofs.Common.{◌≡◌, ℕ, refl, subst, arith}
use Rattle.std.specs.declared.cmp.Ordering.{Ordering}
use Rattle.std.specs.declared.cmp.Ordering.TheVariants.{Less, Equal, Greater}
use Rattle.std.specs.Ordering.{nat_cmp, ordering_then}
use Rattle.std.proofs.lemmas.Bool.Decides.{nat_tests}
use Rattle.std.proofs.lemmas.Cmp.{tied_itself}
use Rattle.std.specs.Cmp.{IsTotalOrder, then_total, on_total, nat_cmp_total}
use Rattle.mg_words.specs.Orders.{words_cmp, words_total}
use Rattle.mg_words.proofs.Exact.{words_exact}
use Rattle.mg_present.specs.Presentation.{Group}
use Rattle.mg_present.specs.Ask.{Inquiry}

-- by the number of generators, and then by the relators
abbrev pub group_cmp : Group → Group → Ordering
group_cmp a b = ordering_then (nat_cmp a.generators b.generators) (words_cmp a.relators b.relators)

-- by the goals, the subgroup words and the group
abbrev pub ask_cmp : Inquiry → Inquiry → Ordering
ask_cmp a b = ordering_then (words_cmp a.goals b.goals) (ordering_then (words_cmp a.subgroup b.subgroup) (group_cmp a.group b.group))

both_equal : (o p : Ordering) → ordering_then o p ≡ Equal → (o ≡ Equal) × (p ≡ Equal)
both_equal Less p e = cc
both_equal Equal p e = (refl, e)
both_equal Greater p e = cc

nat_exact : (a b : ℕ) → nat_cmp a b ≡ Equal → a ≡ b
nat_exact a b e = grind (arith, nat_tests)

pub group_total : IsTotalOrder group_cmp
group_total = then_total (on_total (λ a. a.generators) nat_cmp_total) (on_total (λ a. a.relators) words_total)

pub ask_total : IsTotalOrder ask_cmp
ask_total = then_total (on_total (λ a. a.goals) words_total) (then_total (on_total (λ a. a.subgroup) words_total) (on_total (λ a. a.group) group_total))

pub group_exact : (a b : Group) → group_cmp a b ≡ Equal → a ≡ b
group_exact a b e =
    let parts = both_equal (nat_cmp a.generators b.generators) (words_cmp a.relators b.relators) e in
    let generators = nat_exact a.generators b.generators parts.0 in
    let relators = words_exact a.relators b.relators parts.1 in
    λ i. record { generators = generators i; relators = relators i }

pub ask_exact : (a b : Inquiry) → ask_cmp a b ≡ Equal → a ≡ b
ask_exact a b e =
    let first = both_equal (words_cmp a.goals b.goals) (ordering_then (words_cmp a.subgroup b.subgroup) (group_cmp a.group b.group)) e in
    let rest = both_equal (words_cmp a.subgroup b.subgroup) (group_cmp a.group b.group) first.1 in
    let goals = words_exact a.goals b.goals first.0 in
    let subgroup = words_exact a.subgroup b.subgroup rest.0 in
    let group = group_exact a.group b.group rest.1 in
    λ i. record { group = group i; subgroup = subgroup i; goals = goals i }

pub group_itself : (a b : Group) → a ≡ b → group_cmp a b ≡ Equal
group_itself a b same = subst (λ (c : Group). group_cmp a c ≡ Equal) same (tied_itself group_total a)

pub ask_itself : (a b : Inquiry) → a ≡ b → ask_cmp a b ≡ Equal
ask_itself a b same = subst (λ (c : Inquiry). ask_cmp a c ≡ Equal) same (tied_itself ask_total a)
