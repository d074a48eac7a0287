use Rattle.std.proofs.Common.{◌∙◌, ap, sym, is_some, Option, ℕ}
use Rattle.mg_names.proofs.Groups.{among_place}
use Rattle.mg_names.proofs.Lookups.{place_found}
use Rattle.mg_names.proofs.grouping.is_among.Goals as goal

pub returns : goal.returns
returns c =
    c.is_some.ensures ∙ (ap (λ (o : Option ℕ). is_some o) (c.place_of.ensures.place ∙ place_found c.args.texts.now c.args.text.now) ∙ sym (among_place c.args.texts.now c.args.text.now))
