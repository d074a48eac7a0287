use Rattle.std.proofs.Common.{◌≡◌, ◌-◌, ℤ, List, [], ◌++◌, sym, ap, subst, ◌∙◌}
use Rattle.std.specs.Prelude.{slice_get, slice_index_or, Some, not}
use Rattle.mg_words.specs.Reduction.{PushesReduced, free_form}
use Rattle.mg_present.specs.Same.{signed}
use Rattle.mg_derive.specs.declared.symbol.Symbol.{Symbol}
use Rattle.mg_derive.specs.Symbols.{IsPlaceIn, IsSymbolOf}
use Rattle.mg_derive.proofs.Steps.{letter_back, relator_back, member_back, cut_back}
use Rattle.mg_derive.proofs.checker.take_back.Goals as goal

pub returns-in-Letter-clause-back : goal.returns-in-Letter-clause-back
returns-in-Letter-clause-back c = λ before after f hl hw t el ew.
    letter_back c.args.ask.now c.args.symbol c.in-Letter.letter _ before after c.args.letters.now.letters c.args.written.now.letters _ _ c.in-Letter.is c.inverted.ensures t el ew hl hw
    c.requires.letters_reduced c.requires.written_reduced c.push_reduced.ensures.pushed
    (subst (λ y. PushesReduced c.args.written.now.letters y c.push_reduced-in-Letter.new.w.letters) (c.inverted-in-Letter.ensures ∙ sym c.inverted.ensures) c.push_reduced-in-Letter.ensures.pushed)

pub returns-in-Relator-clause-back : goal.returns-in-Relator-clause-back
returns-in-Relator-clause-back c = λ before after f hl hw t el ew.
    let ask = c.args.ask.now in
    let same : c.relators.result.now ≡ ask.group.relators = c.relators.ensures.value ∙ ap (λ g. g.relators) c.group.ensures.value in
    let place : IsPlaceIn ask.group.relators c.in-Relator.place = subst (λ (s : Symbol). IsSymbolOf ask s) c.in-Relator.is c.requires.symbol in
    let there = c.write_sign.ensures.place.1 (subst (λ (t : List (List ℤ)). IsPlaceIn t c.in-Relator.place) (sym same) place) in
    relator_back ask c.args.symbol c.in-Relator.place c.in-Relator.inverse before after c.args.letters.now.letters c.args.written.now.letters _ c.in-Relator.is t el ew hl hw
    (c.write_sign.ensures.written there ∙ ap (λ t. free_form (c.args.written.now.letters ++ signed (not c.in-Relator.inverse) (slice_index_or t (c.in-Relator.place - 1) []))) same)

pub returns-in-Member-clause-back : goal.returns-in-Member-clause-back
returns-in-Member-clause-back c = λ before after f hl hw t el ew.
    let ask = c.args.ask.now in
    let same : c.subgroup.result.now ≡ ask.subgroup = c.subgroup.ensures.value in
    let place : IsPlaceIn ask.subgroup c.in-Member.place = subst (λ (s : Symbol). IsSymbolOf ask s) c.in-Member.is c.requires.symbol in
    let there = c.write_sign-in-Member.ensures.place.1 (subst (λ (t : List (List ℤ)). IsPlaceIn t c.in-Member.place) (sym same) place) in
    member_back ask c.args.symbol c.in-Member.place c.in-Member.inverse before after c.args.letters.now.letters c.args.written.now.letters _ c.in-Member.is t el ew hl hw
    (c.write_sign-in-Member.ensures.written there ∙ ap (λ t. free_form (c.args.written.now.letters ++ signed (not c.in-Member.inverse) (slice_index_or t (c.in-Member.place - 1) []))) same)

pub returns-in-Cut-clause-back : goal.returns-in-Cut-clause-back
returns-in-Cut-clause-back c = λ before after f hl hw t el ew.
    let ask = c.args.ask.now in
    let g = c.at.result.now.letters in
    let s : slice_get ask.goals c.args.goal ≡ Some g = ap (λ t. slice_get t c.args.goal) (sym c.goals.ensures.value) ∙ c.at.ensures in
    cut_back ask c.args.symbol c.args.goal g before after c.args.letters.now.letters _ c.in-Cut.is t el f hl hw s
    (c.write_word.ensures.product ∙ (ap (λ t. free_form (t ++ c.letters.result.now)) c.clear.ensures.empty ∙ ap free_form c.letters.ensures))
