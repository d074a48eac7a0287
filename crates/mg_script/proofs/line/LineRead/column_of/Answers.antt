use Rattle.std.proofs.Common.{◌≡◌, ◌+◌, length, refl, arith}
use Rattle.mg_lex.specs.declared.token.Token.{Token}
use Rattle.mg_script.proofs.LineTokens.{begins_within}
use Rattle.mg_script.proofs.LinesRead.{token_found, none_found, at_some, at_none}
use Rattle.mg_script.proofs.line.LineRead.column_of.Goals as goal

pub overflow_add-result : goal.overflow_add-result
overflow_add-result c =
    let lookup = c.in-Some.ensures.lookup in
    let found = token_found c.as_slice.result.now c.args.self.now.tokens c.args.place c.in-Some.token.now c.as_slice.ensures lookup.3.0 lookup.1 in
    let within = begins_within c.args.line.now c.args.self.now.tokens c.args.place c.in-Some.token.now c.requires.read found in
    omega (arith, c.requires.short)

pub returns-in-Some : goal.returns-in-Some
returns-in-Some c =
    let lookup = c.in-Some.ensures.lookup in
    let column = c.in-Some.token.now.start + 1 in
    at_some (column ≡ length c.args.line.now + 1) (λ (t : Token). column ≡ t.start + 1) _ c.in-Some.token.now
    (token_found c.as_slice.result.now c.args.self.now.tokens c.args.place c.in-Some.token.now c.as_slice.ensures lookup.3.0 lookup.1) refl

pub returns-in-None : goal.returns-in-None
returns-in-None c =
    let column = length c.args.line.now + 1 in
    at_none (column ≡ length c.args.line.now + 1) (λ (t : Token). column ≡ t.start + 1) _
    (none_found c.as_slice.result.now c.args.self.now.tokens c.args.place c.as_slice.ensures c.in-None.ensures.lookup.3) refl
