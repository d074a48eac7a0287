use Rattle.std.proofs.Common.{◌≡◌, ◌+◌, ◌-◌, Bool, ℤ, List, [], length, drop, sym, ap, subst, ◌∙◌, arith, eq-eqb}
use Rattle.std.specs.Prelude.{slice_get, Some}
use Rattle.std.proofs.lemmas.Bool.{false≢true}
use Rattle.std.proofs.lemmas.List.{length-drop, drop_all}
use Rattle.mg_derive.specs.Reading.{Runs}
use Rattle.mg_derive.proofs.Steps.{goal_at}
use Rattle.mg_derive.proofs.Standings.{none_after_all, letters_wanted, no_letters_left, in_reach}
use Rattle.mg_derive.proofs.walk.Walk.may_end.Goals as goal

pub returns-then-cuts-eq0-clause-refused : goal.returns-then-cuts-eq0-clause-refused
returns-then-cuts-eq0-clause-refused c = λ f rest long r.
    let ask = c.args.ask.now in
    let e : drop c.args.self.now.stand.goal ask.goals ≡ [] = drop_all c.args.self.now.stand.goal ask.goals (omega (arith, ap length c.goals.ensures.value)) in
    let k = none_after_all ask rest c.args.self.now.stand.members c.args.self.now.letters.letters c.args.self.now.written.letters
    (subst (λ (t : List (List ℤ)). Runs ask rest t c.args.self.now.stand.members c.args.self.now.letters.letters c.args.self.now.written.letters) e r) in
    false≢true (sym f ∙ eq-eqb c.args.self.now.left 0 (sym long ∙ k))

pub returns-then-left-cuts-clause-refused : goal.returns-then-left-cuts-clause-refused
returns-then-left-cuts-clause-refused c = λ f rest long r.
    let ask = c.args.ask.now in
    let goals = drop c.args.self.now.stand.goal ask.goals in
    let n : length goals ≡ length ask.goals - c.args.self.now.stand.goal = length-drop c.args.self.now.stand.goal ask.goals in
    let k = letters_wanted ask rest goals c.args.self.now.stand.members c.args.self.now.letters.letters c.args.self.now.written.letters (omega (arith, ap length c.goals.ensures.value)) c.requires.letters r in
    absurd (omega (arith, k, n, long, ap length c.goals.ensures.value, ap length c.letters-letters.ensures))

pub returns-then-letters-gt0-clause-refused : goal.returns-then-letters-gt0-clause-refused
returns-then-letters-gt0-clause-refused c = λ f rest long r.
    let ask = c.args.ask.now in
    let goals = drop c.args.self.now.stand.goal ask.goals in
    let n : length goals ≡ length ask.goals - c.args.self.now.stand.goal = length-drop c.args.self.now.stand.goal ask.goals in
    let k = no_letters_left ask rest goals c.args.self.now.letters.letters c.args.self.now.written.letters (omega (arith, ap length c.goals.ensures.value))
    (subst (λ (b : Bool). Runs ask rest goals b c.args.self.now.letters.letters c.args.self.now.written.letters) c.if-self.true r) in
    absurd (omega (arith, ap length k, ap length c.letters-letters.ensures))

pub returns-clause-refused : goal.returns-clause-refused
returns-clause-refused c = λ f rest long r.
    let ask = c.args.ask.now in
    let i = c.args.self.now.stand.goal in
    let g = c.at.result.now.letters in
    let s : slice_get ask.goals i ≡ Some g = ap (λ t. slice_get t i) (sym c.goals-2.ensures.value) ∙ c.at.ensures in
    let there = subst (λ (t : List (List ℤ)). Runs ask rest t c.args.self.now.stand.members c.args.self.now.letters.letters c.args.self.now.written.letters) (goal_at ask.goals i g s) r in
    let near = in_reach ask c.args.self.now.longest c.requires.some c.requires.longest rest g (drop (i + 1) ask.goals) c.args.self.now.stand.members c.args.self.now.letters.letters c.args.self.now.written.letters
    (c.args.self.now.left - (c.len.result - i) - length c.letters-letters.result.now) c.requires.letters c.requires.written
    (omega (arith, long, length-drop i ask.goals, length-drop (i + 1) ask.goals, ap length c.goals.ensures.value, ap length c.letters-letters.ensures)) there in
    let lengths : length c.letters-goal.result.now ≡ length g = ap length c.letters-goal.ensures in
    let written : length c.letters-written.result.now ≡ length c.args.self.now.written.letters = ap length c.letters-written.ensures in
    let letters : length c.letters-letters.result.now ≡ length c.args.self.now.letters.letters = ap length c.letters-letters.ensures in
    false≢true (sym f ∙ c.is_in_reach.ensures.1 (record {
      down = omega (arith, near.down, lengths, written, letters);
      up = omega (arith, near.up, lengths, written, letters);
    }))
