use Rattle.mg_words.specs.Word.{Held}
use Rattle.mg_names.specs.Name.{named_of}
use Rattle.mg_names.proofs.Parts.{name_read, ok_more}
use Rattle.mg_names.proofs.words.name_or_one.Goals as goal

pub returns-in-Some-clause-name : goal.returns-in-Some-clause-name
returns-in-Some-clause-name c n rest e =
    ok_more c.letter.result
    (λ (v : Held) is. name_read c.args.home.now c.args.cursor.now c.take_name.new.self c.args.found.now c.letter.new.found (named_of c.in-Some.name) v c.in-Some.ensures.some is c.letter.ensures.causes n rest e)
    c.letter.ensures.letters
