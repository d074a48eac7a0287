use Rattle.std.proofs.Common.{◌≡◌, ◌+◌, refl, ap, subst}
use Rattle.std.specs.Prelude.{Err, IfSome, IfNone, Option}
use Rattle.std.proofs.lemmas.Result.{err_from_is_err_and}
use Rattle.mg_script.specs.declared.line.KeptLine.{KeptLine}
use Rattle.mg_script.specs.declared.parsing.ParseRefused.TheVariants as refusal
use Rattle.mg_script.specs.Script.{IsKept, IsSkipped}
use Rattle.mg_script.proofs.LineByLine.{parsed_skipped, parsed_kept, refused_behind}
use Rattle.mg_script.proofs.parsing.Parser.take.Goals as goal

pub returns-in_err-kept-clause-refused : goal.returns-in_err-kept-clause-refused
returns-in_err-kept-clause-refused c = λ r is front parsed.
    let p = err_from_is_err_and c.from_residual.result c.from_residual.ensures.1 in
    let raised = p.1 in
    let given = p.2 in
    let error : c.in_err-kept.field-0.0 ≡ refusal.Refused r = cc in
    refused_behind front c.args.line.now c.args.self.now (c.args.self.now.number + 1) c.anew.result r parsed refl c.anew.ensures
    (c.in_err-kept.ensures.refused r (ap Err error))

pub returns-in_default-clause-parsed : goal.returns-in_default-clause-parsed
returns-in_default-clause-parsed c = λ front parsed.
    parsed_skipped front c.args.line.now c.args.self.now _ parsed refl refl refl
    (subst (λ (o : Option KeptLine). IfNone o (IsSkipped c.args.line.now)) c.in_default.is c.in_ok-kept.ensures.skipped)

pub returns-clause-parsed : goal.returns-clause-parsed
returns-clause-parsed c = λ front parsed.
    let number = c.args.self.now.number + 1 in
    parsed_kept front c.args.line.now c.args.self.now _ parsed refl number c.anew.result c.in-Some.kept.line refl c.anew.ensures c.in_ok-push.ensures.ok
    (subst (λ (o : Option KeptLine). IfSome o (λ k. IsKept c.anew.result number c.args.line.now k.line k.counts)) c.in-Some.is c.in_ok-kept.ensures.kept)
