use Rattle.std.proofs.Common.{subst, sym, ◌∙◌}
use Rattle.mg_lex.specs.Line.{BeginsNone}
use Rattle.mg_lex.proofs.Steps.{lack_here, bad_byte_here}
use Rattle.mg_lex.proofs.scanner.Scanner.token.Goals as goal

pub returns-then-is_allowed-clause-next : goal.returns-then-is_allowed-clause-next
returns-then-is_allowed-clause-next c =
    lack_here c.args.self.now.line.now c.args.self.now.place c.requires.clean c.rest.ensures.inside c.requires.low c.requires.within c.requires.no_blank c.requires.no_comment (subst BeginsNone c.rest.ensures.rest c.in_default.ensures.none) (sym c.is_allowed.ensures ∙ c.if-is_allowed.true)

pub returns-else-is_allowed-clause-next : goal.returns-else-is_allowed-clause-next
returns-else-is_allowed-clause-next c =
    bad_byte_here c.args.self.now.line.now c.args.self.now.place c.requires.clean c.rest.ensures.inside c.requires.low c.requires.within (subst BeginsNone c.rest.ensures.rest c.in_default.ensures.none) (sym c.is_allowed.ensures ∙ c.if-is_allowed.false)
