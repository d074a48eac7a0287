use Rattle.std.proofs.Common.{sym, subst}
use Rattle.std.specs.Prelude.{List, Contains}
use Rattle.mg_report.specs.Report.{SearchLine}
use Rattle.mg_session.specs.Output.{line_of}
use Rattle.mg_session.proofs.Printed.{line_there}
use Rattle.mg_top.proofs.laws.open_questions_show_their_units.Goals as goal

pub returns : goal.returns
returns c workers policy script output legal state place asked block procedure before after search is_block there =
    subst (λ (lines : List SearchLine). Contains lines (line_of search)) (sym is_block.searches) (line_there state place procedure before search after there)
