use Rattle.std.proofs.lemmas.Bool.{false≢true}
use Rattle.mg_derive.proofs.Passing.{first_empty, empty_refused}
use Rattle.std.proofs.Common.{◌≡◌, ◌+◌, ◌++◌, ◌∷◌, length, eq-eqb, map, replicate, sym, ap, subst, ◌∙◌, arith, ℕ}
use Rattle.std.proofs.lemmas.List.{drop_all}
use Rattle.mg_derive.specs.Symbols.{digit_of}
use Rattle.mg_derive.specs.Acceptance.{IsNumbered}
use Rattle.mg_derive.specs.Reading.{at_first}
use Rattle.mg_derive.specs.Walk.{standing_of}
use Rattle.mg_derive.proofs.Ends.{numbered_by}
use Rattle.mg_derive.proofs.Standings.{symbols_read, accepted_through}
use Rattle.mg_derive.proofs.walk.Walk.finds.Goals as goal

pub returns-then-self-eq0-clause-refused : goal.returns-then-self-eq0-clause-refused
returns-then-self-eq0-clause-refused c = λ f.
    let ask = c.args.ask.now in
    let old = c.args.self.now in
    let none : old.digit ≡ 0 = omega arith in
    let begins = c.requires.place.begins none in
    empty_refused ask old.base old.left _ c.requires.place.equipped.asked
    (λ e. false≢true (sym f ∙ eq-eqb c.len.result 0 (c.len.ensures ∙ (ap length c.goals.ensures.value ∙ e))))
    (first_empty ask old.text.symbols old.digit old.left begins.0 none begins.1) begins.1

pub returns-then-self-eq0-2-clause-numbered : goal.returns-then-self-eq0-2-clause-numbered
returns-then-self-eq0-2-clause-numbered c = λ _.
    let ask = c.args.ask.now in
    let old = c.loop-self.self in
    let new = c.enter.new.self in
    let none : old.left ≡ 0 = omega (arith, c.enter.ensures.left) in
    let digits : map (digit_of ask) new.text.symbols ≡ map (digit_of ask) old.text.symbols ++ old.digit ∷ replicate old.left 1 =
    c.enter.ensures.read c.loop-self-test.true ∙ ap (λ n. map (digit_of ask) old.text.symbols ++ old.digit ∷ replicate n 1) (sym none) in
    subst (λ (n : ℕ). IsNumbered ask new.text.symbols (n + 1)) c.loop-self.invariant.first
    (numbered_by ask new.text.symbols _ (symbols_read ask new.text.symbols at_first (standing_of new) c.enter.ensures.place.reads) digits)

pub returns-then-self-eq0-2-clause-accepted : goal.returns-then-self-eq0-2-clause-accepted
returns-then-self-eq0-2-clause-accepted c = λ _.
    let ask = c.args.ask.now in
    let new = c.enter.new.self in
    let whole : new.stand.goal ≡ length ask.goals = c.enter.ensures.whole c.loop-self-test.true (omega (arith, c.enter.ensures.left)) in
    accepted_through ask new.text.symbols (standing_of new) c.requires.place.equipped.asked c.enter.ensures.place.reads (drop_all new.stand.goal ask.goals (omega (arith, whole)))
