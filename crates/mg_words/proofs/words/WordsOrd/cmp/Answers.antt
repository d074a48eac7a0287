use Rattle.std.proofs.Common.{sym, ◌∙◌}
use Rattle.std.specs.Cmp.Derive.Mapped.{lex_map}
use Rattle.mg_words.specs.Orders.{letters_cmp}
use Rattle.mg_words.proofs.words.WordsOrd.cmp.Goals as goal

pub returns : goal.returns
returns c = rw (← c.self.view_is, ← c.other.view_is) (c.cmp.ensures ∙ sym (lex_map (λ w. w.letters) letters_cmp c.self.inside.members c.other.inside.members))
