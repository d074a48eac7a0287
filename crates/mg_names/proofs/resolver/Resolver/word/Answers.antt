use Rattle.mg_names.specs.Name.{named_of}
use Rattle.mg_names.specs.Named.{word}
use Rattle.mg_names.proofs.Causes.{refused, accepted, none_is}
use Rattle.mg_names.proofs.Declarations.{word_head, word_least, word_new, word_keeps, word_some}
use Rattle.mg_names.proofs.resolver.Resolver.word.Goals as goal

pub returns-in-Some : goal.returns-in-Some
returns-in-Some c scope line n g w keeps written =
    let h = word_head c.args.cursor.now c.name-name.new.self c.skip.new.self c.name-group.new.self c.skip-2.new.self n (named_of c.name-name.result) g (named_of c.name-group.result) w c.name-name.ensures c.skip.ensures c.name-group.ensures c.skip-2.ensures written in
    let read = c.in_ok-object.ensures scope w keeps h.2 in
    refused scope line (word n g w) c.word_object.new.found c.least.result c.in-Some.fault _
    (word_least scope line n (named_of c.name-name.result) g (named_of c.name-group.result) w c.new-found.result c.word_object.new.found c.new-found.ensures h.0 h.1 read.gets) c.least.ensures c.in-Some.is

pub declare-requires : goal.declare-requires
declare-requires c =
    let h = word_head c.args.cursor.now c.name-name.new.self c.skip.new.self c.name-group.new.self c.skip-2.new.self c.requires.ahead.0 (named_of c.name-name.result) c.requires.ahead.1 (named_of c.name-group.result) c.requires.ahead.2 c.name-name.ensures c.skip.ensures c.name-group.ensures c.skip-2.ensures c.requires.ahead.3 in
    let read = c.in_ok-object.ensures c.requires.sound.scope c.requires.ahead.2 c.requires.sound.keeps h.2 in
    let none = none_is c.word_object.new.found c.least.result c.least.ensures (λ f e. c.in_default.not-Some f e) in
    word_new c.requires.sound.scope c.args.self.now.names (named_of c.name-name.result) (named_of c.name-group.result) c.requires.ahead.2 c.new-found.result c.word_object.new.found c.new-found.ensures c.requires.sound.keeps.names read.gets none.0

pub returns-in_ok-declare : goal.returns-in_ok-declare
returns-in_ok-declare c scope line n g w keeps written =
    let h = word_head c.args.cursor.now c.name-name.new.self c.skip.new.self c.name-group.new.self c.skip-2.new.self n (named_of c.name-name.result) g (named_of c.name-group.result) w c.name-name.ensures c.skip.ensures c.name-group.ensures c.skip-2.ensures written in
    let read = c.in_ok-object.ensures scope w keeps h.2 in
    let none = none_is c.word_object.new.found c.least.result c.least.ensures (λ f e. c.in_default.not-Some f e) in
    accepted scope line (word n g w) c.word_object.new.found c.least.result _
    (word_least scope line n (named_of c.name-name.result) g (named_of c.name-group.result) w c.new-found.result c.word_object.new.found c.new-found.ensures h.0 h.1 read.gets) c.least.ensures none.1
    (word_keeps scope n (named_of c.name-name.result) g (named_of c.name-group.result) w c.in_ok-object.object c.in-Some-object.object _ h.0 h.1 c.in-Some-object.is read.declares (c.in_ok-declare.ensures scope keeps))

pub returns-in_default-object : goal.returns-in_default-object
returns-in_default-object c scope line n g w keeps written =
    let h = word_head c.args.cursor.now c.name-name.new.self c.skip.new.self c.name-group.new.self c.skip-2.new.self n (named_of c.name-name.result) g (named_of c.name-group.result) w c.name-name.ensures c.skip.ensures c.name-group.ensures c.skip-2.ensures written in
    let read = c.in_ok-object.ensures scope w keeps h.2 in
    let none = none_is c.word_object.new.found c.least.result c.least.ensures (λ f e. c.in_default.not-Some f e) in
    absurd (word_some scope (named_of c.name-name.result) (named_of c.name-group.result) w c.new-found.result c.word_object.new.found c.new-found.ensures read.gets none.0 (read.some c.in_default-object.is))
