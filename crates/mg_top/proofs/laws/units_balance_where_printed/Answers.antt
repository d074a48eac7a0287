use Rattle.std.proofs.Common.{sym, subst}
use Rattle.std.specs.List.{AllByRecursion}
use Rattle.mg_ledger.specs.Accounts.{Balanced}
use Rattle.mg_report.specs.Report.{SearchLine}
use Rattle.mg_session.proofs.Ledger.{as_searches}
use Rattle.mg_session.proofs.Printed.{lines_balanced}
use Rattle.mg_top.proofs.Answers.{ok_at}
use Rattle.mg_top.proofs.laws.units_balance_where_printed.Goals as goal

pub returns-clause-each : goal.returns-clause-each
returns-clause-each c workers policy script output legal step state place asked block at is_block =
    let ok = ok_at workers policy script output legal step state at in
    subst (AllByRecursion (λ (line : SearchLine). Balanced line.account)) (sym is_block.searches) (lines_balanced place state.searches (as_searches state.searches ok.ledger.balance.each))

pub returns-clause-whole : goal.returns-clause-whole
returns-clause-whole c workers policy script output legal step state at = (ok_at workers policy script output legal step state at).ledger.balance
