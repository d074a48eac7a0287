use Rattle.std.proofs.Common.{ap, sym, subst, ◌∙◌, ◌≡◌, length, rules}
use Rattle.mg_present.specs.Ask.{Inquiry, IsAsked}
use Rattle.mg_nielsen.specs.Turn.{first_members, first_rests}
use Rattle.mg_nielsen.proofs.Running.{start_held}
use Rattle.mg_nielsen.proofs.nielsen.Nielsen.start.Goals as goal

pub invariant_of-result : goal.invariant_of-result
invariant_of-result c =
    let count : c.len.result ≡ length c.in_ok-members.members.items = search rules in
    start_held c.in_ok-copy.field-0 c.in_ok-members.members.items c.in_ok-rests.rests.items c.len.result
    (subst IsAsked (sym c.in_ok-copy.ensures) c.subgroup.ensures.fits)
    (ap (λ (a : Inquiry). a.group.relators) c.in_ok-copy.ensures ∙ c.requires)
    (c.in_ok-members.ensures ∙ ap (first_members 1) (c.subgroup.ensures.value ∙ ap (λ (a : Inquiry). a.subgroup) (sym c.in_ok-copy.ensures)))
    (c.in_ok-rests.ensures ∙ ap first_rests (c.goals.ensures.value ∙ ap (λ (a : Inquiry). a.goals) (sym c.in_ok-copy.ensures)))
    count
