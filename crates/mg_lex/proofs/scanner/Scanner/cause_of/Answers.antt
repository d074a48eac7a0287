use Rattle.std.proofs.Common.{ℕ, ◌<◌, List, subst, arith}
use Rattle.mg_lex.specs.declared.limits.TheConstants.{NUMBER_LIMIT}
use Rattle.mg_lex.specs.Number.{number_value}
use Rattle.mg_lex.proofs.Cuts.{token_within}
use Rattle.mg_lex.proofs.Firsts.{first_long_name, first_long_line_at_token, first_large_number}
use Rattle.mg_lex.proofs.scanner.Scanner.cause_of.Goals as goal

pub returns-then-is_long_name-clause-some : goal.returns-then-is_long_name-clause-some
returns-then-is_long_name-clause-some c =
    let long = c.is_long_name.ensures.0 c.if-is_long_name.true in
    first_long_name c.args.self.now.line.now c.args.self.now.place c.requires.clean c.args.token c.requires.start c.requires.longest c.requires.low long.0 long.1

pub returns-then-self-ge-LINE_LIMIT-clause-some : goal.returns-then-self-ge-LINE_LIMIT-clause-some
returns-then-self-ge-LINE_LIMIT-clause-some c =
    let low = c.requires.low in let high = c.if-self-ge-LINE_LIMIT.true in
    first_long_line_at_token c.args.self.now.line.now c.args.self.now.place c.requires.clean c.args.token c.requires.start c.requires.longest (omega arith)
    (λ long. let yes_long = c.is_long_name.ensures.1 long in let not_long = c.if-is_long_name.false in cc)

pub bytes-requires : goal.bytes-requires
bytes-requires c = token_within c.args.self.now.line.now c.args.token c.requires.longest

pub returns-then-is_large_number-clause-some : goal.returns-then-is_large_number-clause-some
returns-then-is_large_number-clause-some c =
    let large = c.is_large_number.ensures.0 c.if-is_large_number.true in
    first_large_number c.args.self.now.line.now c.args.self.now.place c.requires.clean c.args.token c.requires.start c.requires.longest c.if-self-ge-LINE_LIMIT.false
    (λ long. let yes_long = c.is_long_name.ensures.1 long in let not_long = c.if-is_long_name.false in cc)
    large.0
    (subst (λ (bytes : List ℕ). NUMBER_LIMIT < number_value bytes) c.bytes.ensures large.1)
