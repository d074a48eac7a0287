use Rattle.mg_names.specs.Name.{named_of}
use Rattle.mg_names.specs.Named.{ask}
use Rattle.mg_names.proofs.Causes.{refused, accepted, none_is}
use Rattle.mg_names.proofs.Adds.{ask_head, ask_least, ask_new, ask_few, ask_adds, ask_adds_none}
use Rattle.mg_names.proofs.resolver.Resolver.ask.Goals as goal

pub returns-in-Some : goal.returns-in-Some
returns-in-Some c scope line n q keeps written =
    let h = ask_head c.args.cursor.now c.name-name.new.self c.skip.new.self n (named_of c.name-name.result) q c.name-name.ensures c.skip.ensures written in
    let read = c.in_ok-addition.ensures scope q keeps h.1 in
    refused scope line (ask n q) c.addition.new.found c.least.result c.in-Some.fault _
    (ask_least scope line c.args.self.now.names n (named_of c.name-name.result) q c.new-found.result c.check_new.new.found c.addition.new.found _ h.0 c.new-found.ensures keeps.names c.check_new.ensures read) c.least.ensures c.in-Some.is

pub add-requires-clause-new : goal.add-requires-clause-new
add-requires-clause-new c =
    let h = ask_head c.args.cursor.now c.name-name.new.self c.skip.new.self c.requires.ahead.0 (named_of c.name-name.result) c.requires.ahead.1 c.name-name.ensures c.skip.ensures c.requires.ahead.2 in
    let read = c.in_ok-addition.ensures c.requires.sound.scope c.requires.ahead.1 c.requires.sound.keeps h.1 in
    let none = none_is c.addition.new.found c.least.result c.least.ensures (λ f e. c.in_default.not-Some f e) in
    ask_new c.requires.sound.scope c.args.self.now.names (named_of c.name-name.result) c.requires.ahead.1 c.new-found.result c.check_new.new.found c.addition.new.found _ c.new-found.ensures c.requires.sound.keeps.names c.check_new.ensures read none.0

pub add-requires-clause-few : goal.add-requires-clause-few
add-requires-clause-few c =
    let h = ask_head c.args.cursor.now c.name-name.new.self c.skip.new.self c.requires.ahead.0 (named_of c.name-name.result) c.requires.ahead.1 c.name-name.ensures c.skip.ensures c.requires.ahead.2 in
    let read = c.in_ok-addition.ensures c.requires.sound.scope c.requires.ahead.1 c.requires.sound.keeps h.1 in
    let none = none_is c.addition.new.found c.least.result c.least.ensures (λ f e. c.in_default.not-Some f e) in
    ask_few c.requires.sound.scope c.args.self.now (named_of c.name-name.result) c.requires.ahead.1 c.check_new.new.found c.addition.new.found c.in_ok-addition.addition c.in-Some-addition.addition c.requires.sound.keeps c.in-Some-addition.is read none.0

pub returns-in_ok-add : goal.returns-in_ok-add
returns-in_ok-add c scope line n q keeps written =
    let h = ask_head c.args.cursor.now c.name-name.new.self c.skip.new.self n (named_of c.name-name.result) q c.name-name.ensures c.skip.ensures written in
    let read = c.in_ok-addition.ensures scope q keeps h.1 in
    let none = none_is c.addition.new.found c.least.result c.least.ensures (λ f e. c.in_default.not-Some f e) in
    accepted scope line (ask n q) c.addition.new.found c.least.result _
    (ask_least scope line c.args.self.now.names n (named_of c.name-name.result) q c.new-found.result c.check_new.new.found c.addition.new.found _ h.0 c.new-found.ensures keeps.names c.check_new.ensures read) c.least.ensures none.1
    (ask_adds scope n (named_of c.name-name.result) q c.check_new.new.found c.addition.new.found c.in_ok-addition.addition c.in-Some-addition.addition _ h.0 c.in-Some-addition.is read none.0
    (λ asking to_add. c.in_ok-add.ensures scope asking keeps to_add))

pub returns-in_default-addition : goal.returns-in_default-addition
returns-in_default-addition c scope line n q keeps written =
    let h = ask_head c.args.cursor.now c.name-name.new.self c.skip.new.self n (named_of c.name-name.result) q c.name-name.ensures c.skip.ensures written in
    let read = c.in_ok-addition.ensures scope q keeps h.1 in
    let none = none_is c.addition.new.found c.least.result c.least.ensures (λ f e. c.in_default.not-Some f e) in
    accepted scope line (ask n q) c.addition.new.found c.least.result _
    (ask_least scope line c.args.self.now.names n (named_of c.name-name.result) q c.new-found.result c.check_new.new.found c.addition.new.found _ h.0 c.new-found.ensures keeps.names c.check_new.ensures read) c.least.ensures none.1
    (ask_adds_none scope n (named_of c.name-name.result) q c.check_new.new.found c.addition.new.found c.in_ok-addition.addition c.args.self.now c.in_default-addition.is read none.0 keeps)
