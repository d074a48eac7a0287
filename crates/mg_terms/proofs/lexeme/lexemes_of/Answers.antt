use Rattle.mg_lex.specs.declared.token.TokenKind.TheVariants as kind
use Rattle.mg_lex.proofs.Cuts.{token_within}
use Rattle.mg_terms.proofs.Tokens.{token_at, lexemes_more}
use Rattle.mg_terms.proofs.lexeme.lexemes_of.Goals as goal

pub lexeme_of-requires-clause-inside : goal.lexeme_of-requires-clause-inside
lexeme_of-requires-clause-inside c =
    token_within c.args.line.now _ (token_at c.args.line.now c.args.tokens.now c.requires.cut.0 c.loop-token.token-index (record { kind = kind.Name; start = 0; length = 0 }) c.requires.cut.1 c.loop-token-test.true)

pub lexeme_of-requires-clause-kind : goal.lexeme_of-requires-clause-kind
lexeme_of-requires-clause-kind c =
    (token_at c.args.line.now c.args.tokens.now c.requires.cut.0 c.loop-token.token-index (record { kind = kind.Name; start = 0; length = 0 }) c.requires.cut.1 c.loop-token-test.true).token

pub loop-token-preserved : goal.loop-token-preserved
loop-token-preserved c =
    lexemes_more c.args.line.now c.args.tokens.now c.loop-token.lexemes c.push.new.self c.loop-token.token-index (record { kind = kind.Name; start = 0; length = 0 }) c.lexeme_of.result c.loop-token-test.true c.loop-token.invariant c.lexeme_of.ensures c.in_ok-push.ensures.ok
