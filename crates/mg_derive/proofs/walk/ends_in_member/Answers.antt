use Rattle.std.proofs.Common.{ap, sym, ◌∙◌}
use Rattle.std.specs.Prelude.{option_copied}
use Rattle.mg_derive.proofs.Standings.{last_member, no_last_member}
use Rattle.mg_derive.proofs.walk.ends_in_member.Goals as goal

pub returns-in-Some : goal.returns-in-Some
returns-in-Some c = c.is_member.ensures ∙ sym (last_member c.args.text.now _ (sym c.last.ensures.value ∙ cc))

pub returns-in-None : goal.returns-in-None
returns-in-None c = sym (no_last_member c.args.text.now (sym c.last.ensures.value ∙ ap (λ o. option_copied o) c.in-None.is))
