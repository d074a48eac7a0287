use Rattle.mg_script.specs.Grammar.{end, fund_rest, from_grant, grant_rest, from_run, run_rest, from_cancel, cancel_rest, from_report}
use Rattle.mg_script.proofs.Steps.{went_first, went_second}
use Rattle.mg_script.proofs.reader.Reader.command.Goals as goal

pub returns-then-takes_keyword : goal.returns-then-takes_keyword
returns-then-takes_keyword c = λ s knows.
    let a = c.takes_keyword in
    c.sign.ensures.brings s end (went_first s fund_rest from_grant a.new.self a.result (a.ensures.chooses s fund_rest from_grant knows) c.if-takes_keyword.true)

pub returns-then-takes_keyword-2 : goal.returns-then-takes_keyword-2
returns-then-takes_keyword-2 c = λ s knows.
    let a = c.takes_keyword in
    let b = c.takes_keyword-else-takes_keyword in
    let one = went_second s fund_rest from_grant a.new.self a.result (a.ensures.chooses s fund_rest from_grant knows) c.if-takes_keyword.false in
    c.signs.ensures.brings s end (went_first s grant_rest from_run b.new.self b.result (b.ensures.chooses s grant_rest from_run one) c.if-takes_keyword-2.true)

pub returns-then-takes_keyword-4 : goal.returns-then-takes_keyword-4
returns-then-takes_keyword-4 c = λ s knows.
    let a = c.takes_keyword in
    let b = c.takes_keyword-else-takes_keyword in
    let d = c.takes_keyword-else-takes_keyword-2 in
    let e = c.takes_keyword-else-takes_keyword-3 in
    let one = went_second s fund_rest from_grant a.new.self a.result (a.ensures.chooses s fund_rest from_grant knows) c.if-takes_keyword.false in
    let two = went_second s grant_rest from_run b.new.self b.result (b.ensures.chooses s grant_rest from_run one) c.if-takes_keyword-2.false in
    let three = went_second s run_rest from_cancel d.new.self d.result (d.ensures.chooses s run_rest from_cancel two) c.if-takes_keyword-3.false in
    c.signs-then-takes_keyword-4.ensures.brings s end
    (went_first s cancel_rest from_report e.new.self e.result (e.ensures.chooses s cancel_rest from_report three) c.if-takes_keyword-4.true)

pub returns-else-takes_keyword-4 : goal.returns-else-takes_keyword-4
returns-else-takes_keyword-4 c = λ s knows.
    let a = c.takes_keyword in
    let b = c.takes_keyword-else-takes_keyword in
    let d = c.takes_keyword-else-takes_keyword-2 in
    let e = c.takes_keyword-else-takes_keyword-3 in
    let one = went_second s fund_rest from_grant a.new.self a.result (a.ensures.chooses s fund_rest from_grant knows) c.if-takes_keyword.false in
    let two = went_second s grant_rest from_run b.new.self b.result (b.ensures.chooses s grant_rest from_run one) c.if-takes_keyword-2.false in
    let three = went_second s run_rest from_cancel d.new.self d.result (d.ensures.chooses s run_rest from_cancel two) c.if-takes_keyword-3.false in
    c.report.ensures s (went_second s cancel_rest from_report e.new.self e.result (e.ensures.chooses s cancel_rest from_report three) c.if-takes_keyword-4.false)
