use Rattle.std.proofs.lemmas.Result.{err_from_is_err_and}
use Rattle.mg_lex.specs.declared.mark.Mark.TheVariants as mark
use Rattle.mg_script.specs.Grammar.{Rest, end, mark_then, list_then, listed_arrow}
use Rattle.mg_script.proofs.Steps.{passed_on}
use Rattle.mg_script.proofs.reader.Reader.map.Goals as goal

-- the bracket behind the arrows
abbrev close_map : Rest
close_map = mark_then mark.CloseSquare end

pub returns-in_err-signs : goal.returns-in_err-signs
returns-in_err-signs c = λ s knows.
    passed_on s end c.signs.new.self c.from_residual.result c.in_err-signs.field-0.0 (err_from_is_err_and c.from_residual.result c.from_residual.ensures.1)
    (c.in_err-signs.ensures.brings s (list_then listed_arrow close_map) (rw (c.counted_name.ensures, c.mark.ensures, c.mark-2.ensures, c.mark-3.ensures, c.mark-4.ensures) knows))

pub returns-in_err-list : goal.returns-in_err-list
returns-in_err-list c = λ s knows.
    let arrows = c.in_ok-signs.ensures.brings s (list_then listed_arrow close_map)
    (rw (c.counted_name.ensures, c.mark.ensures, c.mark-2.ensures, c.mark-3.ensures, c.mark-4.ensures) knows) in
    passed_on s end c.list.new.self c.from_residual-in_err-list.result c.in_err-list.field-0.0
    (err_from_is_err_and c.from_residual-in_err-list.result c.from_residual-in_err-list.ensures.1) (c.in_err-list.ensures s close_map arrows)

pub returns : goal.returns
returns c = λ s knows.
    let arrows = c.in_ok-signs.ensures.brings s (list_then listed_arrow close_map)
    (rw (c.counted_name.ensures, c.mark.ensures, c.mark-2.ensures, c.mark-3.ensures, c.mark-4.ensures) knows) in
    c.sign.ensures.brings s end (rw c.mark-5.ensures (c.in_ok-list.ensures s close_map arrows))
