use Rattle.std.proofs.Common.{◌<◌, ◌∙◌, inl, refl, subst}
use Rattle.mg_terms.specs.declared.limits.TheConstants.{WORD_LIMIT}
use Rattle.mg_terms.proofs.Taking.{square_taken, square_long}
use Rattle.mg_terms.proofs.reader.Reader.close_square.Goals as goal

pub returns-in-Some : goal.returns-in-Some
returns-in-Some c = λ fs w has ready.
    square_taken fs w c.args.self.now c.close.new.self c.in-Right.left c.in-Some.letters has c.in-Right.is (c.in-Some.ensures.some.0 ∙ c.commutator.ensures) c.in-Some.ensures.some.1 c.close.ensures ready.1

pub returns-in-None : goal.returns-in-None
returns-in-None c = λ fs w has ready.
    let long = subst (λ n. WORD_LIMIT < n) c.commutator.ensures c.in-None.ensures.none in
    (refl, inl (refl, square_long fs w c.args.self.now c.in-Right.left c.args.place has c.in-Right.is long ready.0))
