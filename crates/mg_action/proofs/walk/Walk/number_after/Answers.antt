use Rattle.std.proofs.Common.{◌≡◌, ◌-◌, ◌<◌, ap, ◌∙◌, arith}
use Rattle.std.proofs.lemmas.Nat.{mod_below}
use Rattle.mg_numbers.specs.Plain.{NoneAmong}
use Rattle.mg_action.specs.Number.{RefutedAt}
use Rattle.mg_action.proofs.Stretches.{stretch-pos, whole_in_block, passes, behind_stretch}
use Rattle.mg_action.proofs.walk.Walk.number_after.Goals as goal

pub stretch_of-alike-requires-clause-whole : goal.stretch_of-alike-requires-clause-whole
stretch_of-alike-requires-clause-whole c =
    let b = c.action_block-block in
    let same : c.generators-generators.result ≡ c.args.ask.now.group.generators = c.generators-generators.ensures.value ∙ ap (λ g. g.generators) c.group.ensures.value in
    whole_in_block c.args.ask.now.group.generators c.generators-generators.result c.args.self.now.next b.result.size b.result.index c.args.depth c.args.self.now.action same (c.requires.walk.numbered c.requires.most) b.ensures.points b.ensures.within b.ensures.place c.requires.whole

pub nonzero_rem-block : goal.nonzero_rem-block
nonzero_rem-block c = omega (arith, c.stretch_of-alike.ensures, stretch-pos c.action_block-block.result.size c.generators-generators.result c.args.depth)

pub overflow_sub-alike : goal.overflow_sub-alike
overflow_sub-alike c =
    let pos : 0 < c.stretch_of-alike.result = omega (arith, c.stretch_of-alike.ensures, stretch-pos c.action_block-block.result.size c.generators-generators.result c.args.depth) in
    omega (arith, mod_below c.action_block-block.result.index c.stretch_of-alike.result pos)

passed : (c : goal.After-saturating_add) → (c.args.self.now.next < c.saturating_add.result) × NoneAmong (RefutedAt c.args.ask.now) 0 (c.saturating_add.result - 1)
passed c =
    let b = c.action_block-block in
    let same : c.generators-generators.result ≡ c.args.ask.now.group.generators = c.generators-generators.ensures.value ∙ ap (λ g. g.generators) c.group.ensures.value in
    passes c.args.ask.now c.args.self.now.action c.generators-generators.result c.args.self.now.next b.result.size b.result.index c.args.depth c.stretch_of-alike.result c.saturating_add.result same (c.requires.walk.numbered c.requires.most)
    b.ensures.points b.ensures.within b.ensures.place c.requires.depth c.requires.whole c.requires.none c.requires.walk.none c.requires.most c.stretch_of-alike.ensures c.saturating_add.ensures

pub returns-clause-rises : goal.returns-clause-rises
returns-clause-rises c = (passed c).0

pub returns-clause-none : goal.returns-clause-none
returns-clause-none c = (passed c).1

pub returns-clause-behind : goal.returns-clause-behind
returns-clause-behind c = λ less.
    let b = c.action_block-block in
    let same : c.generators-generators.result ≡ c.args.ask.now.group.generators = c.generators-generators.ensures.value ∙ ap (λ g. g.generators) c.group.ensures.value in
    behind_stretch c.args.ask.now.group.generators c.generators-generators.result c.args.self.now.next b.result.size b.result.index c.args.depth c.stretch_of-alike.result c.saturating_add.result c.args.self.now.action same (c.requires.walk.numbered c.requires.most)
    b.ensures.points b.ensures.within b.ensures.place c.requires.most c.stretch_of-alike.ensures c.saturating_add.ensures less
