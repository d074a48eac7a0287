-- What values in code say: what is asked, and steps.
use Rattle.mg_names.specs.Plan.{Asked as Question, plain, Step, fund, grant, run, cancel, report, report_facts, report_log}
use Rattle.mg_names.specs.declared.plan.Asked.{Asked}
use Rattle.mg_names.specs.declared.plan.Asked.TheVariants.{Plain}
use Rattle.mg_names.specs.declared.plan.PlanStep.{PlanStep}
use Rattle.mg_names.specs.declared.plan.PlanStep.TheVariants.{Fund, Grant, Run, Cancel, Report, ReportFacts, ReportLog}

abbrev pub asked_of : Asked → Question
asked_of (Plain ask) = plain ask

abbrev pub step_of : PlanStep → Step
step_of (Fund units) = fund units
step_of (Grant question procedure units) = grant question procedure units
step_of (Run bound) = run bound
step_of (Cancel question procedure) = cancel question procedure
step_of (Report questions) = report questions
step_of ReportFacts = report_facts
step_of ReportLog = report_log
