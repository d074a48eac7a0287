use Rattle.std.proofs.Common.{Option, None, ap, ◌∙◌}
use Rattle.mg_names.specs.Cause.{no_word}
use Rattle.mg_names.specs.Name.{named_of}
use Rattle.mg_names.specs.Scope.{Object}
use Rattle.mg_names.proofs.Leasts.{gets_same}
use Rattle.mg_names.proofs.home.Home.declared.Goals as goal

pub returns-in-None-clause-causes : goal.returns-in-None-clause-causes
returns-in-None-clause-causes c =
    gets_same _ _ c.args.found.now c.offer.new.self
    (ap (λ (o : Option Object). no_word c.args.self.now.place (named_of c.args.name) o None) c.in-None.ensures.none)
    c.offer.ensures

pub returns-in-None-word_in-clause-causes : goal.returns-in-None-word_in-clause-causes
returns-in-None-word_in-clause-causes c =
    gets_same _ _ c.args.found.now c.offer-in-None-word_in.new.self
    (ap (λ (o : Option Object). no_word c.args.self.now.place (named_of c.args.name) o None) c.in-Some.ensures.found
    ∙ c.in-None-word_in.ensures.other (named_of c.args.name))
    c.offer-in-None-word_in.ensures
