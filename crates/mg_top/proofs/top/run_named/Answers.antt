use Rattle.std.proofs.Common.{subst, sym, arith}
use Rattle.std.specs.Prelude.{IfOk}
use Rattle.mg_command.specs.declared.command.PolicyName.{PolicyName}
use Rattle.mg_command.specs.declared.command.PolicyName.TheVariants.{Even, Doubling}
use Rattle.mg_session.specs.Scripts.{IsOutput}
use Rattle.mg_top.specs.Command.{params_of}
use Rattle.mg_top.proofs.Answered.{if_output}
use Rattle.mg_top.proofs.top.run_named.Goals as goal

pub returns-in-Even-clause-output : goal.returns-in-Even-clause-output
returns-in-Even-clause-output c =
    subst (λ (p : PolicyName). IfOk c.run_script.result (IsOutput c.args.script.now (params_of c.args.workers p))) (sym c.in-Even.is)
    (if_output _ (params_of c.args.workers Even) _ _ (omega arith) (λ turns spent allowed units gives. gives.2.0 spent) c.run_script.ensures.output)

pub returns-in-Doubling-clause-output : goal.returns-in-Doubling-clause-output
returns-in-Doubling-clause-output c =
    subst (λ (p : PolicyName). IfOk c.run_script-in-Doubling.result (IsOutput c.args.script.now (params_of c.args.workers p))) (sym c.in-Doubling.is)
    (if_output _ (params_of c.args.workers Doubling) _ _ (omega arith) (λ turns spent allowed units gives. gives.2.0 spent) c.run_script-in-Doubling.ensures.output)
