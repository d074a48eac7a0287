use Rattle.std.proofs.Common.{◌∙◌, ap, true, false, length}
use Rattle.mg_nielsen.specs.Expressed.{Expressed}
use Rattle.mg_nielsen.proofs.Choosing.{factor_reduced, letters_reduced, made_left, made_right, side_left, side_right}
use Rattle.mg_nielsen.proofs.choice.made_length.Goals as goal

pub quotient_length-requires-clause-first : goal.quotient_length-requires-clause-first
quotient_length-requires-clause-first c = factor_reduced c.args.members.now c.args.pick.number true c.factor.result.now c.requires.members c.factor.ensures

pub quotient_length-requires-clause-second : goal.quotient_length-requires-clause-second
quotient_length-requires-clause-second c = letters_reduced c.args.members.now c.args.pick.place false c.index-members-pick.result c.letters.result.now c.requires.members c.requires.there c.index-members-pick.is c.letters.ensures

pub quotient_length-requires-else-pick-clause-first : goal.quotient_length-requires-else-pick-clause-first
quotient_length-requires-else-pick-clause-first c = letters_reduced c.args.members.now c.args.pick.place true c.index-members-pick.result c.letters-else-pick.result.now c.requires.members c.requires.there c.index-members-pick.is c.letters-else-pick.ensures

pub quotient_length-requires-else-pick-clause-second : goal.quotient_length-requires-else-pick-clause-second
quotient_length-requires-else-pick-clause-second c = factor_reduced c.args.members.now c.args.pick.number false c.factor-else-pick.result.now c.requires.members c.factor-else-pick.ensures

pub returns-then-pick : goal.returns-then-pick
returns-then-pick c =
    c.quotient_length.ensures ∙ (made_left c.args.members.now c.args.pick.place c.args.pick.number c.index-members-pick.result c.factor.result.now c.letters.result.now c.requires.there c.index-members-pick.is c.factor.ensures c.letters.ensures
    ∙ ap (λ (e : Expressed). length e.word) (side_left c.args.members.now c.args.pick c.if-pick.true))

pub returns-else-pick : goal.returns-else-pick
returns-else-pick c =
    c.quotient_length-else-pick.ensures ∙ (made_right c.args.members.now c.args.pick.place c.args.pick.number c.index-members-pick.result c.letters-else-pick.result.now c.factor-else-pick.result.now c.requires.there c.index-members-pick.is c.letters-else-pick.ensures c.factor-else-pick.ensures
    ∙ ap (λ (e : Expressed). length e.word) (side_right c.args.members.now c.args.pick c.if-pick.false))
