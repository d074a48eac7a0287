use Rattle.std.proofs.Common.{◌∙◌, ap}
use Rattle.mg_names.specs.Sign.{first_lexeme}
use Rattle.mg_names.proofs.Reading.{first_seen}
use Rattle.mg_names.proofs.cursor.Cursor.lexeme.Goals as goal

pub returns-in-len1-up : goal.returns-in-len1-up
returns-in-len1-up c =
    first_seen c.self.inside.bytes.now c.self.inside.tokens.now c.self.inside.lexemes.now _ c.self.invariant.1 c.in-len1-up.len_at_least
    ∙ ap first_lexeme c.self.view_is
