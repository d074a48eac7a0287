use Rattle.std.proofs.Common.{◌≡◌, ◌∷◌, refl, ap, ◌∙◌}
use Rattle.mg_lex.specs.declared.mark.Mark.TheVariants as mark
use Rattle.mg_terms.specs.declared.lexeme.Lexeme.TheVariants as lexeme
use Rattle.mg_terms.specs.declared.around.Bracket.TheVariants as bracket
use Rattle.mg_terms.specs.Reading.{none, in_round, in_left, frame, front, state}
use Rattle.mg_terms.proofs.Adding.{round_opened, square_opened}
use Rattle.mg_terms.proofs.Taking.{one_taken, opened_brings}
use Rattle.mg_terms.proofs.reader.Reader.begin.Goals as goal

pub returns-in-Number-eq1 : goal.returns-in-Number-eq1
returns-in-Number-eq1 c = λ fs before has ready.
    let read : c.args.lexeme ≡ lexeme.Number 1 = cc in
    rw read (one_taken fs before c.args.self.now has ready.1)

pub returns-in-Mark-OpenRound : goal.returns-in-Mark-OpenRound
returns-in-Mark-OpenRound c = λ fs before has ready.
    let which = rw c.in-Mark-OpenRound.is at c.in-Mark-OpenRound.field-0-is in
    let read : c.args.lexeme ≡ lexeme.Mark mark.OpenRound = c.in-Mark-OpenRound.is ∙ ap (λ m. lexeme.Mark m) which in
    rw read (opened_brings fs before bracket.Round (state (frame before in_round ∷ fs) (front none)) c.args.place c.args.self.now c.open.new.self c.open.result refl (round_opened fs before) refl has ready c.open.ensures.taken c.open.ensures.room c.open.ensures.opened c.open.ensures.fault)

pub returns-in-Mark-OpenSquare : goal.returns-in-Mark-OpenSquare
returns-in-Mark-OpenSquare c = λ fs before has ready.
    let which = rw c.in-Mark-OpenSquare.is at c.in-Mark-OpenSquare.field-0-is in
    let read : c.args.lexeme ≡ lexeme.Mark mark.OpenSquare = c.in-Mark-OpenSquare.is ∙ ap (λ m. lexeme.Mark m) which in
    let opens = c.open-in-Mark-OpenSquare in
    rw read (opened_brings fs before bracket.Left (state (frame before in_left ∷ fs) (front none)) c.args.place c.args.self.now opens.new.self opens.result refl (square_opened fs before) refl has ready opens.ensures.taken opens.ensures.room opens.ensures.opened opens.ensures.fault)
