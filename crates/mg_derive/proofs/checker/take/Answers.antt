use Rattle.std.proofs.Common.{◌≡◌, ◌-◌, ℤ, List, [], ◌++◌, length, drop, sym, ap, subst, ◌∙◌, arith}
use Rattle.std.specs.Prelude.{slice_get, slice_index_or, Some}
use Rattle.mg_words.specs.Reduction.{free_form}
use Rattle.mg_present.specs.Same.{signed}
use Rattle.mg_derive.specs.Symbols.{IsPlaceIn}
use Rattle.mg_derive.proofs.Steps.{letter_within, letter_exact, relator_exact, member_exact, cut_exact, cut_refused_letters, cut_refused_goal, empty, not_empty, not_same}
use Rattle.mg_derive.proofs.checker.take.Goals as goal
use Rattle.mg_derive.proofs.checker.take.Goals.{then-not-is_empty-via-then-not-is_empty, then-not-is_empty-via-else-not-is_empty+then-not-is_word}

pub returns-then-not-is_empty-clause-refused : goal.returns-then-not-is_empty-clause-refused
returns-then-not-is_empty-clause-refused c =
    let ask = c.args.ask.now in
    let goals = drop c.args.stand.goal ask.goals in
    elim c.then-not-is_empty.branch [
      | then-not-is_empty-via-then-not-is_empty w ↦
          cut_refused_letters ask goals c.args.stand.members c.args.letters.now.letters c.args.written.now.letters c.args.symbol c.in-Cut.is
          (not_empty _ _ _ c.is_empty.ensures c.letters.ensures w.if-not-is_empty.true)
      | then-not-is_empty-via-else-not-is_empty+then-not-is_word w ↦
          let g = w.at.result.now.letters in
          let s : slice_get ask.goals c.args.stand.goal ≡ Some g = ap (λ t. slice_get t c.args.stand.goal) (sym w.goals-else-not-is_empty.ensures.value) ∙ w.at.ensures in
          cut_refused_goal ask ask.goals c.args.stand.goal g c.args.stand.members c.args.letters.now.letters c.args.written.now.letters c.args.symbol c.in-Cut.is s
          (not_same _ _ _ w.is_word.ensures w.if-not-is_word.true)
    ]

pub returns-else-from-generators-clause-taken : goal.returns-else-from-generators-clause-taken
returns-else-from-generators-clause-taken c =
    let ask = c.args.ask.now in
    letter_exact ask c.args.stand.goal c.args.stand.members c.args.letters.now.letters c.args.written.now.letters _ _ c.args.symbol c.in-Letter.letter c.in-Letter.is (omega (arith, ap length c.goals.ensures.value))
    (letter_within ask.group.generators c.letter.inside.generator c.letter.inside.inverse c.in-Letter.letter c.letter.view_is c.letter.invariant.least
    (omega (arith, c.from.ensures, c.generators.ensures.value, ap (λ g. g.generators) c.group.ensures.value)))
    c.if-stand.false c.requires.letters_reduced c.requires.written_reduced c.push_reduced.ensures.pushed c.push_reduced-in-Letter.ensures.pushed

pub returns-else-not-write_sign-clause-taken : goal.returns-else-not-write_sign-clause-taken
returns-else-not-write_sign-clause-taken c =
    let ask = c.args.ask.now in
    let same : c.relators.result.now ≡ ask.group.relators = c.relators.ensures.value ∙ ap (λ g. g.relators) c.group-else-stand-2.ensures.value in
    relator_exact ask c.args.stand.goal c.args.stand.members c.args.letters.now.letters c.args.written.now.letters _ c.args.symbol c.in-Relator.place c.in-Relator.inverse c.in-Relator.is (omega (arith, ap length c.goals.ensures.value))
    (subst (λ (t : List (List ℤ)). IsPlaceIn t c.in-Relator.place) same (c.write_sign.ensures.place.0 c.if-not-write_sign.false))
    c.if-stand-2.false c.requires.letters_reduced
    (c.write_sign.ensures.written c.if-not-write_sign.false ∙ ap (λ t. free_form (c.args.written.now.letters ++ signed c.in-Relator.inverse (slice_index_or t (c.in-Relator.place - 1) []))) same)

pub returns-else-not-write_sign-2-clause-taken : goal.returns-else-not-write_sign-2-clause-taken
returns-else-not-write_sign-2-clause-taken c =
    let ask = c.args.ask.now in
    let same : c.subgroup.result.now ≡ ask.subgroup = c.subgroup.ensures.value in
    member_exact ask c.args.stand.goal c.args.stand.members c.args.letters.now.letters c.args.written.now.letters _ c.args.symbol c.in-Member.place c.in-Member.inverse c.in-Member.is (omega (arith, ap length c.goals.ensures.value))
    (subst (λ (t : List (List ℤ)). IsPlaceIn t c.in-Member.place) same (c.write_sign-in-Member.ensures.place.0 c.if-not-write_sign-2.false))
    c.requires.letters_reduced
    (c.write_sign-in-Member.ensures.written c.if-not-write_sign-2.false ∙ ap (λ t. free_form (c.args.written.now.letters ++ signed c.in-Member.inverse (slice_index_or t (c.in-Member.place - 1) []))) same)

pub returns-else-not-is_word-clause-taken : goal.returns-else-not-is_word-clause-taken
returns-else-not-is_word-clause-taken c =
    let ask = c.args.ask.now in
    let g = c.at.result.now.letters in
    let s : slice_get ask.goals c.args.stand.goal ≡ Some g = ap (λ t. slice_get t c.args.stand.goal) (sym c.goals-else-not-is_empty.ensures.value) ∙ c.at.ensures in
    cut_exact ask c.args.stand.goal g c.args.stand.members c.args.letters.now.letters c.args.written.now.letters c.clear.new.self.letters c.args.symbol c.in-Cut.is (omega (arith, ap length c.goals.ensures.value))
    s (empty _ _ _ c.is_empty.ensures c.letters.ensures c.if-not-is_empty.false) (c.is_word.ensures.0 c.if-not-is_word.false) c.clear.ensures.empty
