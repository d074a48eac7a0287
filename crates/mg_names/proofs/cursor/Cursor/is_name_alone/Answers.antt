use Rattle.std.proofs.Common.{◌∙◌, ap, not}
use Rattle.mg_names.proofs.Reading.{alone_next, alone_last}
use Rattle.mg_names.proofs.cursor.Cursor.is_name_alone.Goals as goal

pub returns-in_default : goal.returns-in_default
returns-in_default c =
    alone_last c.self.inside.bytes.now c.self.inside.tokens.now c.self.inside.lexemes.now c.args.self.now c.self.view_is c.self.invariant.1 c.in_default.len_below
    (c.is_name.ensures.name c.if-not-is_name.false)

pub returns-in-len2-up : goal.returns-in-len2-up
returns-in-len2-up c =
    ap not c.goes_on.ensures
    ∙ alone_next c.self.inside.bytes.now c.self.inside.tokens.now c.self.inside.lexemes.now c.args.self.now _ c.self.view_is c.self.invariant.1 c.in-len2-up.len_at_least
    (c.is_name.ensures.name c.if-not-is_name.false)
