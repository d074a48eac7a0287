use Rattle.std.proofs.Common.{◌∙◌, ap, ℕ, List}
use Rattle.mg_names.specs.Cause.{is_among}
use Rattle.mg_names.specs.Name.{named_of}
use Rattle.mg_names.proofs.Groups.{again_gets}
use Rattle.mg_names.proofs.grouping.check_generator.Goals as goal

pub returns-then-is_among : goal.returns-then-is_among
returns-then-is_among c =
    again_gets c.args.names.now (named_of c.args.name) c.is_among.result c.args.found.now c.offer.new.self (c.is_among.ensures ∙ ap (λ (ts : List (List ℕ)). is_among ts c.args.name.text.now) c.as_slice.ensures)
    c.if-is_among.true c.offer.ensures
