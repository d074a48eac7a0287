use Rattle.std.proofs.Common.{take}
use Rattle.std.specs.List.{AllZip}
use Rattle.mg_terms.specs.Lexeme.{IsLexemeOf}
use Rattle.mg_terms.proofs.lexeme.lexemes_of.Given as goal

-- the lexemes so far are those of the tokens so far
abbrev pub invariant-loop-token : goal.invariant-loop-token
invariant-loop-token l = AllZip (IsLexemeOf l.line) (take l.token-index l.tokens) l.lexemes
