use Rattle.std.proofs.Common.{sym, ◌∙◌}
use Rattle.std.proofs.lemmas.Result.{err_from_is_err_and}
use Rattle.mg_session.proofs.Told.{told_by_names}
use Rattle.mg_session.proofs.script.run_script.Goals as goal

pub resolve-requires : goal.resolve-requires
resolve-requires g c = (c.args.bytes.now, c.requires.short, c.in_ok-script.ensures.script)

pub returns-in_err-plan-clause-script : goal.returns-in_err-plan-clause-script
returns-in_err-plan-clause-script g c = λ r told.
    let p = err_from_is_err_and c.from_residual-in_err-plan.result c.from_residual-in_err-plan.ensures.1 in
    told_by_names c.args.bytes.now c.in_ok-script.script c.in_err-plan.field-0.0 c.in_ok-script.ensures.script c.in_err-plan.ensures.refused r (sym p.2 ∙ cc (sym p.1 ∙ told))
