use Rattle.std.proofs.Common.{None, suc, drop, arith}
use Rattle.std.proofs.lemmas.Result.{err_from_is_err_and}
use Rattle.mg_terms.specs.declared.lexeme.Lexeme.TheVariants as lexeme
use Rattle.mg_script.specs.declared.sign.Expected.TheVariants as expected
use Rattle.mg_script.specs.Reader.{signs_then}
use Rattle.mg_script.proofs.Steps.{next_sign}
use Rattle.mg_script.proofs.reader.Reader.signs.Goals as goal

pub returns-in_err-sign-clause-brings : goal.returns-in_err-sign-clause-brings
returns-in_err-sign-clause-brings c = λ s r knows.
    let p = err_from_is_err_and c.from_residual.result c.from_residual.ensures.1 in
    let i = c.loop-sign.sign-index in
    let signs = c.args.signs.now in
    let next = next_sign s signs i (record { counted = None; expected = expected.This lexeme.Name }) r c.loop-sign.self (omega arith) (c.loop-sign.invariant.known s r knows) in
    rw (p.1, p.2) (c.in_err-sign.ensures.brings s (signs_then (drop (suc i) signs) r) next)
