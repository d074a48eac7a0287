use Rattle.std.proofs.Common.{◌∙◌, List, ◌++◌, map, ap}
use Rattle.mg_report.specs.Report.{SearchLine}
use Rattle.mg_report.specs.Values.{search_of}
use Rattle.mg_session.proofs.Shown.{pushed_by, joined, lines_at}
use Rattle.mg_session.proofs.blocks.search_lines.Goals as goal

pub returns : goal.returns
returns c =
    let question = c.args.question in
    let xs = c.args.session.now.searches in
    let own = c.in_ok-own.own in
    let are = c.in_ok-own.ensures in
    joined (lines_at question xs) (map search_of c.push_lines.new.lines) (map search_of c.push_lines-2.new.lines) (map search_of c.push_lines-3.new.lines) (map search_of c.push_lines-4.new.lines)
    (map search_of c.push_lines-5.new.lines) (map search_of c.push_lines-6.new.lines) (map search_of c.push_lines-7.new.lines)
    (pushed_by question 0 xs own c.as_slice.result.now (map search_of c.new-lines.result) (map search_of c.push_lines.new.lines) c.as_slice.ensures are c.in_ok-push_lines.ensures
    ∙ ap (λ (old : List SearchLine). old ++ lines_at question xs 0) (ap (map search_of) c.new-lines.ensures))
    (pushed_by question 1 xs own c.as_slice-2.result.now (map search_of c.push_lines.new.lines) (map search_of c.push_lines-2.new.lines) c.as_slice-2.ensures are c.in_ok-push_lines-2.ensures)
    (pushed_by question 2 xs own c.as_slice-3.result.now (map search_of c.push_lines-2.new.lines) (map search_of c.push_lines-3.new.lines) c.as_slice-3.ensures are c.in_ok-push_lines-3.ensures)
    (pushed_by question 3 xs own c.as_slice-4.result.now (map search_of c.push_lines-3.new.lines) (map search_of c.push_lines-4.new.lines) c.as_slice-4.ensures are c.in_ok-push_lines-4.ensures)
    (pushed_by question 4 xs own c.as_slice-5.result.now (map search_of c.push_lines-4.new.lines) (map search_of c.push_lines-5.new.lines) c.as_slice-5.ensures are c.in_ok-push_lines-5.ensures)
    (pushed_by question 5 xs own c.as_slice-6.result.now (map search_of c.push_lines-5.new.lines) (map search_of c.push_lines-6.new.lines) c.as_slice-6.ensures are c.in_ok-push_lines-6.ensures)
    (pushed_by question 6 xs own c.as_slice-7.result.now (map search_of c.push_lines-6.new.lines) (map search_of c.push_lines-7.new.lines) c.as_slice-7.ensures are c.in_ok-push_lines-7.ensures)
