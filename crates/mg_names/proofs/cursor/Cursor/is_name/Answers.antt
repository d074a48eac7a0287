use Rattle.mg_names.proofs.Reading.{name_first, no_name_first}
use Rattle.mg_names.proofs.cursor.Cursor.is_name.Goals as goal

pub returns-in-len1-up-clause-name : goal.returns-in-len1-up-clause-name
returns-in-len1-up-clause-name c h =
    name_first c.self.inside.bytes.now c.self.inside.tokens.now c.self.inside.lexemes.now c.args.self.now _ c.self.view_is c.self.invariant.1 c.in-len1-up.len_at_least
    (c.is_name_lexeme.ensures.0 h)

pub returns-in-len1-up-clause-other : goal.returns-in-len1-up-clause-other
returns-in-len1-up-clause-other c h =
    no_name_first c.self.inside.bytes.now c.self.inside.tokens.now c.self.inside.lexemes.now c.args.self.now _ c.self.view_is c.self.invariant.1 c.in-len1-up.len_at_least
    (λ e. let f = c.is_name_lexeme.ensures.1 e in cc)
