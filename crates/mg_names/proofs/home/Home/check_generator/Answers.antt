use Rattle.std.proofs.Common.{ℕ, Option, sym, ap, ◌∙◌}
use Rattle.mg_names.specs.Cause.{no_letter}
use Rattle.mg_names.specs.Name.{named_of}
use Rattle.mg_names.specs.Scope.{lookup}
use Rattle.mg_names.proofs.Leasts.{gets_same}
use Rattle.mg_names.proofs.Lookups.{absent}
use Rattle.mg_names.proofs.home.Home.check_generator.Goals as goal

pub returns-then-is_none : goal.returns-then-is_none
returns-then-is_none c =
    gets_same _ _ c.args.found.now c.offer.new.self
    (ap (λ (o : Option ℕ). no_letter (named_of c.args.name) (lookup c.args.self.now.names.now c.args.name.text.now) o) (sym c.generator.ensures.place ∙ absent c.generator.result c.if-is_none.ensures)
    ∙ c.unknown.ensures (named_of c.args.name))
    c.offer.ensures
