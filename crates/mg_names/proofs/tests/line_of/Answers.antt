use Rattle.std.proofs.Common.{List, subst}
use Rattle.std.specs.List.{AllZip}
use Rattle.mg_lex.specs.declared.token.Token.{Token}
use Rattle.mg_terms.specs.Lexeme.{IsLexemeOf}
use Rattle.mg_names.proofs.Signs.{tokens_are_readable}
use Rattle.mg_names.proofs.tests.line_of.Goals as goal

pub returns : goal.returns
returns c =
    tokens_are_readable c.args.text.now _ c.in_ok-bytes.ensures c.in-Ok.ensures.tokens
    (subst (λ (ts : List Token). AllZip (IsLexemeOf c.args.text.now) ts c.in-Ok-lexemes_of.lexemes) c.as_slice.ensures c.in-Ok-lexemes_of.ensures)
