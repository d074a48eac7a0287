use Rattle.mg_script.specs.Grammar.{end, name_then, keyword_then}
use Rattle.mg_lex.specs.declared.keyword.Keyword.TheVariants as keyword
use Rattle.mg_script.proofs.Steps.{went_second}
use Rattle.mg_script.proofs.reader.Reader.asked_in.Goals as goal

pub returns : goal.returns
returns c = λ s knows.
    let rest = keyword_then keyword.Kernel (name_then end) in
    let other = went_second s end rest c.takes.new.self c.takes.result (c.takes.ensures.chooses s end rest knows) c.if-takes.false in
    c.signs.ensures.brings s end (rw c.keyword.ensures other)
