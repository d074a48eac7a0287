use Rattle.std.proofs.Common.{[], subst, Option}
use Rattle.mg_names.specs.Cause.{Shown}
use Rattle.mg_names.specs.Least.{Gets}
use Rattle.mg_names.specs.Name.{named_of}
use Rattle.mg_names.specs.Named.{cancel}
use Rattle.mg_names.proofs.Causes.{refused, accepted, none_is}
use Rattle.mg_names.proofs.Grants.{cancel_causes, head, cancel_least, cancel_after, cancel_some}
use Rattle.mg_names.proofs.resolver.Resolver.cancel.Goals as goal

pub returns-in-Some : goal.returns-in-Some
returns-in-Some c scope line n p keeps written at =
    let h = head c.args.cursor.now c.name-name.new.self c.read_procedure-procedure.new.cursor n (named_of c.name-name.result) p c.read_procedure-procedure.result [] c.name-name.ensures written c.read_procedure-procedure.ensures in
    let found = subst (λ (o : Option Shown). Gets (cancel_causes scope (named_of c.name-name.result) c.read_procedure-procedure.result c.args.place) o c.cancelled-question.new.found) c.new-found.ensures (c.cancelled-question.ensures.causes scope keeps) in
    refused scope line (cancel n p) c.cancelled-question.new.found c.least.result c.in-Some.fault _
    (cancel_least scope line n (named_of c.name-name.result) p c.read_procedure-procedure.result c.args.place c.cancelled-question.new.found h.0 h.1 at found) c.least.ensures c.in-Some.is

pub returns-in_ok-add_step : goal.returns-in_ok-add_step
returns-in_ok-add_step c scope line n p keeps written at =
    let h = head c.args.cursor.now c.name-name.new.self c.read_procedure-procedure.new.cursor n (named_of c.name-name.result) p c.read_procedure-procedure.result [] c.name-name.ensures written c.read_procedure-procedure.ensures in
    let found = subst (λ (o : Option Shown). Gets (cancel_causes scope (named_of c.name-name.result) c.read_procedure-procedure.result c.args.place) o c.cancelled-question.new.found) c.new-found.ensures (c.cancelled-question.ensures.causes scope keeps) in
    let none = none_is c.cancelled-question.new.found c.least.result c.least.ensures (λ f e. c.in_default.not-Some f e) in
    accepted scope line (cancel n p) c.cancelled-question.new.found c.least.result _
    (cancel_least scope line n (named_of c.name-name.result) p c.read_procedure-procedure.result c.args.place c.cancelled-question.new.found h.0 h.1 at found) c.least.ensures none.1
    (cancel_after scope c.args.self.now.names n (named_of c.name-name.result) p c.read_procedure-procedure.result c.in-Some-question.question _ keeps.names h.0 h.1 c.in-Some-question.ensures.some (c.in_ok-add_step.ensures scope keeps))

pub returns-in_default-question : goal.returns-in_default-question
returns-in_default-question c scope line n p keeps written at =
    let found = subst (λ (o : Option Shown). Gets (cancel_causes scope (named_of c.name-name.result) c.read_procedure-procedure.result c.args.place) o c.cancelled-question.new.found) c.new-found.ensures (c.cancelled-question.ensures.causes scope keeps) in
    let none = none_is c.cancelled-question.new.found c.least.result c.least.ensures (λ f e. c.in_default.not-Some f e) in
    absurd (cancel_some scope c.args.self.now.names (named_of c.name-name.result) c.read_procedure-procedure.result c.args.place c.cancelled-question.new.found keeps.names found none.0 c.in_default-question.ensures.none)
