use Rattle.std.proofs.Common.{List, subst}
use Rattle.std.specs.List.{AllZip}
use Rattle.mg_lex.specs.declared.token.Token.{Token}
use Rattle.mg_terms.specs.Lexeme.{IsLexemeOf}
use Rattle.mg_lex.specs.Refusal.{place_of}
use Rattle.mg_script.proofs.LineLexemes.{all_within_limits}
use Rattle.mg_script.proofs.LinesRead.{read_with_token, read_without_token}
use Rattle.mg_script.proofs.line.LineRead.up_to.Goals as goal

pub returns-in-Some-clause-tokens : goal.returns-in-Some-clause-tokens
returns-in-Some-clause-tokens c =
    let fault = c.args.fault in
    read_with_token c.args.line.now (place_of fault.refused) fault.refused.cause c.args.tokens fault.token c.in-Some.token c.with.result
    c.in-Some.is c.requires.first c.requires.before c.requires.token c.with.ensures.tokens

pub returns-in-Some-clause-lexemes : goal.returns-in-Some-clause-lexemes
returns-in-Some-clause-lexemes c =
    c.with.ensures.lexemes (all_within_limits c.args.line.now c.args.tokens c.in_ok-lexemes.lexemes c.requires.before.within_limits
    (subst (λ (ts : List Token). AllZip (IsLexemeOf c.args.line.now) ts c.in_ok-lexemes.lexemes) c.as_slice.ensures c.in_ok-lexemes.ensures))

pub returns-in-None-clause-tokens : goal.returns-in-None-clause-tokens
returns-in-None-clause-tokens c =
    let fault = c.args.fault in
    read_without_token c.args.line.now (place_of fault.refused) fault.refused.cause c.args.tokens fault.token
    c.in-None.is c.requires.first c.requires.before c.requires.token

pub returns-in-None-clause-lexemes : goal.returns-in-None-clause-lexemes
returns-in-None-clause-lexemes c =
    all_within_limits c.args.line.now c.args.tokens c.in_ok-lexemes.lexemes c.requires.before.within_limits
    (subst (λ (ts : List Token). AllZip (IsLexemeOf c.args.line.now) ts c.in_ok-lexemes.lexemes) c.as_slice.ensures c.in_ok-lexemes.ensures)
