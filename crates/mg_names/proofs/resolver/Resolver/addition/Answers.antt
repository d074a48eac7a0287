use Rattle.std.proofs.Common.{Some, None}
use Rattle.mg_names.specs.Least.{shown_of}
use Rattle.mg_names.specs.Name.{named_of}
use Rattle.mg_names.proofs.Adding.{words_refused, words_answered, nothing_asked, read_from, read_as, fits}
use Rattle.mg_names.proofs.Causes.{none_is}
use Rattle.mg_names.proofs.resolver.Resolver.addition.Goals as goal

pub returns-in-Some : goal.returns-in-Some
returns-in-Some c scope q keeps e =
    words_refused scope (named_of c.args.name) q c.args.found.now c.offer.new.self c.read_question.new.found (shown_of c.in-Some.fault) c.in_ok-asking.asking
    (read_from scope q c.new-in_words.result c.read_question.new.found c.in_ok-asking.asking c.new-in_words.ensures
    (c.in_ok-asking.ensures scope q (c.known-known.ensures.known scope keeps) e))
    c.in-Some.ensures c.offer.ensures

pub sized-requires-clause-fit : goal.sized-requires-clause-fit
sized-requires-clause-fit c =
    let sound = c.requires.sound in
    let q = c.requires.ahead.question in
    (fits sound.lines sound.scope sound.within q c.in-Some-asking.asking _ _ c.requires.ahead.sized
    (read_as sound.scope q _ _ _ (Some c.in-Some-asking.asking) c.in-Some-asking.is (c.in_ok-asking.ensures sound.scope q (c.known-known.ensures.known sound.scope sound.keeps) c.requires.ahead.written))).0

pub sized-requires-clause-presented : goal.sized-requires-clause-presented
sized-requires-clause-presented c =
    let sound = c.requires.sound in
    let q = c.requires.ahead.question in
    (fits sound.lines sound.scope sound.within q c.in-Some-asking.asking _ _ c.requires.ahead.sized
    (read_as sound.scope q _ _ _ (Some c.in-Some-asking.asking) c.in-Some-asking.is (c.in_ok-asking.ensures sound.scope q (c.known-known.ensures.known sound.scope sound.keeps) c.requires.ahead.written))).1

pub returns-in-Some-asking : goal.returns-in-Some-asking
returns-in-Some-asking c scope q keeps e =
    let none = none_is _ c.least.result c.least.ensures (λ f e. c.in_default.not-Some f e) in
    let read = read_as scope q _ _ _ (Some c.in-Some-asking.asking) c.in-Some-asking.is (c.in_ok-asking.ensures scope q (c.known-known.ensures.known scope keeps) e) in
    words_answered scope (named_of c.args.name) q c.args.found.now c.sized.new.found c.sized.result _ c.in-Some-asking.asking
    (read_from scope q c.new-in_words.result _ (Some c.in-Some-asking.asking) c.new-in_words.ensures read) none.0 (λ a same. c.sized.ensures scope a keeps same)

pub returns-in-None : goal.returns-in-None
returns-in-None c scope q keeps e =
    let none = none_is _ c.least.result c.least.ensures (λ f e. c.in_default.not-Some f e) in
    let read = read_as scope q _ _ _ None c.in-None.is (c.in_ok-asking.ensures scope q (c.known-known.ensures.known scope keeps) e) in
    nothing_asked scope (named_of c.args.name) q c.args.found.now _ (read_from scope q c.new-in_words.result _ None c.new-in_words.ensures read) none.0
