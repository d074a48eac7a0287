use Rattle.std.proofs.Common.{Some, sym}
use Rattle.mg_names.specs.Cause.{too_large}
use Rattle.mg_names.specs.Name.{named_of}
use Rattle.mg_names.proofs.Adding.{sized_as, joined, still_found}
use Rattle.mg_names.proofs.Leasts.{gets_nil}
use Rattle.mg_names.proofs.resolver.Resolver.sized.Goals as goal

pub returns-in-Fits : goal.returns-in-Fits
returns-in-Fits c scope a keeps same =
    let sizing = sized_as scope (named_of c.args.name) a c.in_ok-counted.field-0 _ c.in-Fits.is (c.in_ok-counted.ensures scope (named_of c.args.name) a (sym keeps.letters) same.content) in
    (gets_nil (too_large scope (named_of c.args.name) (Some a)) c.args.found.now sizing.1, λ none. (same.group, sizing.0))

pub returns-in-TooLarge : goal.returns-in-TooLarge
returns-in-TooLarge c scope a keeps same =
    let first = sized_as scope (named_of c.args.name) a c.in_ok-counted.field-0 _ c.in-TooLarge.is (c.in_ok-counted.ensures scope (named_of c.args.name) a (sym keeps.letters) same.content) in (
      joined (too_large scope (named_of c.args.name) (Some a)) _ c.args.found.now c.offer.new.self first c.offer.ensures,
      λ none. absurd (still_found _ c.args.found.now c.offer.new.self c.offer.ensures none),
    )
