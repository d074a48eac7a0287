use Rattle.std.proofs.Common.{sym, ap, ◌∙◌, arith}
use Rattle.std.proofs.lemmas.List.{get_or_read}
use Rattle.mg_words.specs.Letter.{number_of}
use Rattle.mg_action.proofs.Rows.{forward_letter, back_letter}
use Rattle.mg_action.proofs.action.Action.letter_image.Goals as goal

pub index-requires : goal.index-requires
index-requires c =
    let at = back_letter _ c.args.self.now c.self.view_is _ _ _ _ _ c.self.invariant c.letter.inside.generator c.args.point c.args.letter (ap (number_of c.letter.inside.generator) (sym c.if-letter.true) ∙ c.letter.view_is) c.letter.invariant.least c.requires.letter c.requires.point in
    omega (arith, at.there, c.self.inside.inverses.ok)

pub returns-then-letter-clause-image : goal.returns-then-letter-clause-image
returns-then-letter-clause-image c =
    let at = back_letter _ c.args.self.now c.self.view_is _ _ _ _ _ c.self.invariant c.letter.inside.generator c.args.point c.args.letter (ap (number_of c.letter.inside.generator) (sym c.if-letter.true) ∙ c.letter.view_is) c.letter.invariant.least c.requires.letter c.requires.point in
    let read = get_or_read c.self.inside.inverses.items _ _ at.there c.index.ensures 0 in
    read ∙ at.image

pub returns-then-letter-clause-below : goal.returns-then-letter-clause-below
returns-then-letter-clause-below c =
    let at = back_letter _ c.args.self.now c.self.view_is _ _ _ _ _ c.self.invariant c.letter.inside.generator c.args.point c.args.letter (ap (number_of c.letter.inside.generator) (sym c.if-letter.true) ∙ c.letter.view_is) c.letter.invariant.least c.requires.letter c.requires.point in
    let read = get_or_read c.self.inside.inverses.items _ _ at.there c.index.ensures 0 in
    omega (arith, read, at.below)

pub index-requires-else-letter : goal.index-requires-else-letter
index-requires-else-letter c =
    let at = forward_letter _ c.args.self.now c.self.view_is _ _ _ _ _ c.self.invariant c.letter.inside.generator c.args.point c.args.letter (ap (number_of c.letter.inside.generator) (sym c.if-letter.false) ∙ c.letter.view_is) c.letter.invariant.least c.requires.letter c.requires.point in
    omega (arith, at.there, c.self.inside.images.ok)

pub returns-else-letter-clause-image : goal.returns-else-letter-clause-image
returns-else-letter-clause-image c =
    let at = forward_letter _ c.args.self.now c.self.view_is _ _ _ _ _ c.self.invariant c.letter.inside.generator c.args.point c.args.letter (ap (number_of c.letter.inside.generator) (sym c.if-letter.false) ∙ c.letter.view_is) c.letter.invariant.least c.requires.letter c.requires.point in
    let read = get_or_read c.self.inside.images.items _ _ at.there c.index-else-letter.ensures 0 in
    read ∙ at.image

pub returns-else-letter-clause-below : goal.returns-else-letter-clause-below
returns-else-letter-clause-below c =
    let at = forward_letter _ c.args.self.now c.self.view_is _ _ _ _ _ c.self.invariant c.letter.inside.generator c.args.point c.args.letter (ap (number_of c.letter.inside.generator) (sym c.if-letter.false) ∙ c.letter.view_is) c.letter.invariant.least c.requires.letter c.requires.point in
    let read = get_or_read c.self.inside.images.items _ _ at.there c.index-else-letter.ensures 0 in
    omega (arith, read, at.below)
