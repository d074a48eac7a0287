use Rattle.std.proofs.Common.{rules, ◌≡◌, ℤ, List, refl, ◌∙◌}
use Rattle.std.specs.Prelude.{Some}
use Rattle.std.proofs.lemmas.Result.{IfOk-weaker}
use Rattle.mg_present.specs.Same.{signed}
use Rattle.mg_rulelog.specs.Rule.{sides_of, all_sides, relator_numbered}
use Rattle.mg_rulelog.specs.Tape.{spelled}
use Rattle.mg_rulelog.proofs.Making.{in_pair, out_pair, in_relator, out_relator, by_rule, back_rule}
use Rattle.mg_rulelog.proofs.checker.Ground.make.Goals as goal

pub returns-in-InPair : goal.returns-in-InPair
returns-in-InPair c =
    rw c.in-InPair.is (IfOk-weaker c.replace.result _ _
    (λ made told. in_pair c.args.self.now.group.now (all_sides c.args.self.now.rules.now) c.in-InPair.letter c.inverted.result c.in-InPair.place (spelled c.args.tape.now) (spelled c.replace.new.self) made
    (c.has.ensures.0 c.if-has.true) c.inverted.ensures told) c.replace.ensures)

pub returns-in-OutPair : goal.returns-in-OutPair
returns-in-OutPair c =
    rw c.in-OutPair.is (IfOk-weaker c.replace-in-OutPair.result _ _
    (λ made told. out_pair c.args.self.now.group.now (all_sides c.args.self.now.rules.now) c.in-OutPair.letter c.inverted-in-OutPair.result c.in-OutPair.place (spelled c.args.tape.now) (spelled c.replace-in-OutPair.new.self) made
    (c.if-has-2.ensures.0 refl) c.inverted-in-OutPair.ensures told) c.replace-in-OutPair.ensures)

pub returns-in-Some : goal.returns-in-Some
returns-in-Some c =
    let found : (relator : List ℤ) × (relator_numbered c.args.self.now.group.now.relators c.in-InRelator.relator ≡ Some relator) × (c.in-Some.word.letters ≡ signed c.in-InRelator.inverse relator) = search rules in
    let word : c.letters.result.now ≡ c.in-Some.word.letters = search rules in
    rw c.in-InRelator.is (IfOk-weaker c.replace-in-Some.result _ _
    (λ made told. in_relator c.args.self.now.group.now (all_sides c.args.self.now.rules.now) c.in-InRelator.relator c.in-InRelator.inverse c.in-InRelator.place (spelled c.args.tape.now) (spelled c.replace-in-Some.new.self) made
    c.letters.result.now found.0 found.1 (word ∙ found.2) told) c.replace-in-Some.ensures)

pub returns-in-Some-2 : goal.returns-in-Some-2
returns-in-Some-2 c =
    let found : (relator : List ℤ) × (relator_numbered c.args.self.now.group.now.relators c.in-OutRelator.relator ≡ Some relator) × (c.in-Some-2.word.letters ≡ signed c.in-OutRelator.inverse relator) = search rules in
    let word : c.letters-in-Some-2.result.now ≡ c.in-Some-2.word.letters = search rules in
    rw c.in-OutRelator.is (IfOk-weaker c.replace-in-Some-2.result _ _
    (λ made told. out_relator c.args.self.now.group.now (all_sides c.args.self.now.rules.now) c.in-OutRelator.relator c.in-OutRelator.inverse c.in-OutRelator.place (spelled c.args.tape.now) (spelled c.replace-in-Some-2.new.self) made
    c.letters-in-Some-2.result.now found.0 found.1 (word ∙ found.2) told) c.replace-in-Some-2.ensures)

pub returns-in-Some-rule_at : goal.returns-in-Some-rule_at
returns-in-Some-rule_at c =
    let left : c.letters-in-Some-rule_at.result.now ≡ c.in-Some-rule_at.found.now.left = search rules in
    let right : c.letters-in-Some-rule_at-2.result.now ≡ c.in-Some-rule_at.found.now.right = search rules in
    rw c.in-By.is (IfOk-weaker c.replace-in-Some-rule_at.result _ _
    (λ made told. by_rule c.args.self.now.group.now (all_sides c.args.self.now.rules.now) c.in-By.rule c.in-By.place (spelled c.args.tape.now) (spelled c.replace-in-Some-rule_at.new.self) made
    c.letters-in-Some-rule_at.result.now c.letters-in-Some-rule_at-2.result.now (sides_of c.in-Some-rule_at.found.now) c.in-Some-rule_at.ensures.some left right told) c.replace-in-Some-rule_at.ensures)

pub returns-in-Some-rule_at-2 : goal.returns-in-Some-rule_at-2
returns-in-Some-rule_at-2 c =
    let left : c.letters-in-Some-rule_at-2-3.result.now ≡ c.in-Some-rule_at-2.found.now.left = search rules in
    let right : c.letters-in-Some-rule_at-2-2.result.now ≡ c.in-Some-rule_at-2.found.now.right = search rules in
    rw c.in-Back.is (IfOk-weaker c.replace-in-Some-rule_at-2.result _ _
    (λ made told. back_rule c.args.self.now.group.now (all_sides c.args.self.now.rules.now) c.in-Back.rule c.in-Back.place (spelled c.args.tape.now) (spelled c.replace-in-Some-rule_at-2.new.self) made
    c.letters-in-Some-rule_at-2-3.result.now c.letters-in-Some-rule_at-2-2.result.now (sides_of c.in-Some-rule_at-2.found.now) c.in-Some-rule_at-2.ensures.some left right told) c.replace-in-Some-rule_at-2.ensures)
