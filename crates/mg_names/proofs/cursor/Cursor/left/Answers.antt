use Rattle.std.proofs.Common.{length, ap, ◌∙◌, List}
use Rattle.mg_names.specs.Sign.{Sign}
use Rattle.mg_names.proofs.Reading.{signs_left}
use Rattle.mg_names.proofs.cursor.Cursor.left.Goals as goal

pub returns : goal.returns
returns c =
    signs_left c.self.inside.bytes.now c.self.inside.tokens.now c.self.inside.lexemes.now c.self.invariant.1 ∙ ap (λ (ss : List Sign). length ss) c.self.view_is
