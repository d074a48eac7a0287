-- Which lexeme a token is.
use Rattle.std.specs.Prelude.{◌≡◌, ℕ, List}
use Rattle.mg_lex.specs.declared.token.Token.{Token}
use Rattle.mg_lex.specs.declared.token.TokenKind.TheVariants as kind
use Rattle.mg_lex.specs.Keyword.{keyword_text}
use Rattle.mg_lex.specs.Line.{token_bytes}
use Rattle.mg_lex.specs.Mark.{mark_text}
use Rattle.mg_lex.specs.Number.{number_value}
use Rattle.mg_terms.specs.declared.lexeme.Lexeme.{Lexeme}
use Rattle.mg_terms.specs.declared.lexeme.Lexeme.TheVariants as lexeme

-- the lexeme that a token of the line is
abbrev pub IsLexemeOf : List ℕ → Token → Lexeme → Type 0
IsLexemeOf line t lexeme.Name = t.kind ≡ kind.Name
IsLexemeOf line t (lexeme.Keyword k) = (t.kind ≡ kind.Keyword) × (keyword_text k ≡ token_bytes line t)
IsLexemeOf line t lexeme.RelatorSign = t.kind ≡ kind.RelatorSign
IsLexemeOf line t (lexeme.Number n) = (t.kind ≡ kind.Number) × (number_value (token_bytes line t) ≡ n)
IsLexemeOf line t (lexeme.Mark m) = (t.kind ≡ kind.Mark) × (mark_text m ≡ token_bytes line t)
