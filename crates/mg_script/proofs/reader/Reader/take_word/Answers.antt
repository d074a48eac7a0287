use Rattle.std.proofs.Common.{arith}
use Rattle.mg_script.specs.Reader.{kind_of}
use Rattle.mg_script.proofs.Taken.{relation_long, letters_many, word_read}
use Rattle.mg_script.proofs.reader.Reader.take_word.Goals as goal

pub returns-then-left_letters-word-clause-brings : goal.returns-then-left_letters-word-clause-brings
returns-then-left_letters-word-clause-brings c = λ s left f r is_left is_word knows.
    let side = c.left_letters.ensures left is_left in
    relation_long s (kind_of c.args.role) left f r c.args.self.now c.args.word is_word knows c.requires.read c.requires.faultless c.requires.room c.requires.letters (omega arith)

pub returns-then-self-word-clause-brings : goal.returns-then-self-word-clause-brings
returns-then-self-word-clause-brings c = λ s left f r is_left is_word knows.
    let side = c.left_letters.ensures left is_left in
    letters_many s (kind_of c.args.role) left f r c.args.self.now c.args.word is_word knows c.requires.read c.requires.faultless c.requires.room (omega arith) (omega arith)

pub returns-clause-brings : goal.returns-clause-brings
returns-clause-brings c = λ s left f r is_left is_word knows.
    let side = c.left_letters.ensures left is_left in
    word_read s (kind_of c.args.role) left f r c.args.self.now c.args.word is_word knows c.requires.read c.requires.faultless c.requires.room
    c.with.result c.with_letters-self.result (omega arith) (omega arith)
    (rw c.counted.ensures at c.with.ensures.counted) c.with.ensures.letters c.with_letters-self.ensures.numbers c.with_letters-self.ensures.letters
