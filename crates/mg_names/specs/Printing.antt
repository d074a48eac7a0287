-- The step that a report is.
use Rattle.std.specs.Prelude.{ℕ}
use Rattle.mg_script.specs.declared.form.Printed.{Printed}
use Rattle.mg_script.specs.declared.form.Printed.TheVariants as printed
use Rattle.mg_names.specs.Plan.{Step, report, report_facts, report_log}

abbrev pub printed_step : ℕ → Printed → Step
printed_step questions printed.Questions = report questions
printed_step questions printed.Facts = report_facts
printed_step questions printed.Log = report_log
