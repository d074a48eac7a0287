use Rattle.mg_names.proofs.Reading.{last_named}
use Rattle.mg_names.proofs.cursor.Cursor.last_name.Goals as goal

pub returns : goal.returns
returns c =
    last_named c.self.inside.bytes.now c.self.inside.tokens.now c.self.inside.lexemes.now c.args.self.now _ _ c.self.view_is c.self.invariant.1 c.in-len1-up.len_at_least
    c.requires c.name_of.ensures
