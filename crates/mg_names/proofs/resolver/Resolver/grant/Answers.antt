use Rattle.std.proofs.Common.{◌<◌, ◌∷◌, [], subst, Option, length}
use Rattle.mg_names.specs.Cause.{Shown}
use Rattle.mg_names.specs.Least.{Gets}
use Rattle.mg_names.specs.Name.{named_of}
use Rattle.mg_names.specs.Named.{grant}
use Rattle.mg_names.specs.Plan.{Plan}
use Rattle.mg_names.specs.Sign.{the_number}
use Rattle.mg_names.proofs.Causes.{refused, accepted, none_is}
use Rattle.mg_names.proofs.Grants.{grant_causes, head, question_within, grant_least, grant_after, grant_some, grant_room}
use Rattle.mg_names.proofs.resolver.Resolver.grant.Goals as goal

pub returns-in-Some : goal.returns-in-Some
returns-in-Some c scope line n p units keeps written at =
    let h = head c.args.cursor.now c.name-name.new.self c.read_procedure-procedure.new.cursor n (named_of c.name-name.result) p c.read_procedure-procedure.result (the_number units ∷ []) c.name-name.ensures written c.read_procedure-procedure.ensures in
    let found = subst (λ (o : Option Shown). Gets (grant_causes scope (named_of c.name-name.result) c.read_procedure-procedure.result c.args.place) o c.granted-question.new.found) c.new-found.ensures (c.granted-question.ensures.causes scope keeps) in
    refused scope line (grant n p units) c.granted-question.new.found c.least.result c.in-Some.fault _
    (grant_least scope line n (named_of c.name-name.result) p c.read_procedure-procedure.result units c.args.place c.granted-question.new.found h.0 h.1 at found) c.least.ensures c.in-Some.is

pub add_grant-requires : goal.add_grant-requires
add_grant-requires c =
    let found = subst (λ (o : Option Shown). Gets (grant_causes c.requires.sound.scope (named_of c.name-name.result) c.read_procedure-procedure.result c.args.place) o c.granted-question.new.found) c.new-found.ensures
    (c.granted-question.ensures.causes c.requires.sound.scope c.requires.sound.keeps) in
    let none = none_is c.granted-question.new.found c.least.result c.least.ensures (λ f e. c.in_default.not-Some f e) in
    let less : c.in-Some-question.question < length c.requires.sound.scope.plan.questions =
    subst (λ (p : Plan). c.in-Some-question.question < length p.questions) c.requires.sound.keeps.plan (question_within c.args.self.now c.requires.sound c.name-name.result.text.now c.in-Some-question.question c.in-Some-question.ensures.some) in (
      c.requires.sound.scope,
      c.requires.sound.lines,
      c.requires.sound.keeps,
      c.requires.sound.within,
      less,
      c.args.place,
      grant_room c.requires.sound.scope c.args.self.now.names (named_of c.name-name.result) c.read_procedure-procedure.result c.args.place c.in-Some-question.question c.granted-question.new.found c.requires.sound.keeps.names
          c.in-Some-question.ensures.some found none.0,
    )

pub returns-in_ok-add_grant : goal.returns-in_ok-add_grant
returns-in_ok-add_grant c scope line n p units keeps written at =
    let h = head c.args.cursor.now c.name-name.new.self c.read_procedure-procedure.new.cursor n (named_of c.name-name.result) p c.read_procedure-procedure.result (the_number units ∷ []) c.name-name.ensures written c.read_procedure-procedure.ensures in
    let found = subst (λ (o : Option Shown). Gets (grant_causes scope (named_of c.name-name.result) c.read_procedure-procedure.result c.args.place) o c.granted-question.new.found) c.new-found.ensures (c.granted-question.ensures.causes scope keeps) in
    let none = none_is c.granted-question.new.found c.least.result c.least.ensures (λ f e. c.in_default.not-Some f e) in
    let count = c.number-units.ensures.read units [] h.2 in
    let less : c.in-Some-question.question < length scope.plan.questions =
    subst (λ (p : Plan). c.in-Some-question.question < length p.questions) keeps.plan (question_within c.args.self.now c.requires.sound c.name-name.result.text.now c.in-Some-question.question c.in-Some-question.ensures.some) in
    accepted scope line (grant n p units) c.granted-question.new.found c.least.result _
    (grant_least scope line n (named_of c.name-name.result) p c.read_procedure-procedure.result units c.args.place c.granted-question.new.found h.0 h.1 at found) c.least.ensures none.1
    (grant_after scope c.args.self.now.names n (named_of c.name-name.result) p c.read_procedure-procedure.result units c.number-units.result c.in-Some-question.question _ keeps.names h.0 h.1 count.0
    c.in-Some-question.ensures.some (c.in_ok-add_grant.ensures scope keeps less))

pub returns-in_default-question : goal.returns-in_default-question
returns-in_default-question c scope line n p units keeps written at =
    let found = subst (λ (o : Option Shown). Gets (grant_causes scope (named_of c.name-name.result) c.read_procedure-procedure.result c.args.place) o c.granted-question.new.found) c.new-found.ensures (c.granted-question.ensures.causes scope keeps) in
    let none = none_is c.granted-question.new.found c.least.result c.least.ensures (λ f e. c.in_default.not-Some f e) in
    absurd (grant_some scope c.args.self.now.names (named_of c.name-name.result) c.read_procedure-procedure.result c.args.place c.granted-question.new.found keeps.names found none.0 c.in_default-question.ensures.none)
